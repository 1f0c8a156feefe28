-- A refusal of a step, told as a refusal of the text.
use Rattle.std.proofs.Common.{◌≡◌, Err, sym, subst}
use Rattle.compact_types.specs.declared.refusal.Refusal.{Refusal}
use Rattle.compact_types.specs.declared.refusal.Refusal.TheVariants.{Fault, NoMemory}
use Rattle.compact_types.specs.MappedRefusals.{IsMapped}
use Rattle.compact_types.specs.Refusals.{IfFault}

-- what the fault of the step says of the text, where the refusal is told so
pub told : {F G : Type 0} (T U : Type 0) (refusal : Refusal F) (mapped : Refusal G) (tell : F → G) (Q : F → Type 0) (R : G → Type 0) →
    ((fault : F) → Q fault → R (tell fault)) → IfFault {T = T} (Err refusal) Q →
    IsMapped refusal (λ fault other. other ≡ tell fault) mapped → IfFault {T = U} (Err mapped) R
told T U (Fault fault) (Fault other) tell Q R each first is = subst R (sym is) (each fault first)
told T U (Fault fault) NoMemory tell Q R each first is = absurd is
told T U NoMemory (Fault other) tell Q R each first is = cc
told T U NoMemory NoMemory tell Q R each first is = tt
