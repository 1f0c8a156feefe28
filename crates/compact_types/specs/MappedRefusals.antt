-- A refusal whose fault is told in another way.
use Rattle.std.specs.Prelude.{◌≡◌}
use Rattle.compact_types.specs.declared.refusal.Refusal.{Refusal}
use Rattle.compact_types.specs.declared.refusal.Refusal.TheVariants.{Fault, NoMemory}

-- what holds of the fault, if the refusal has one
abbrev pub ForFault : {F : Type 0} → Refusal F → (F → Type 0) → Type 0
ForFault {F} refusal P = (fault : F) → refusal ≡ Fault fault → P fault

-- the refusal has a fault, and this holds of it
abbrev pub IsFaultAnd : {F : Type 0} → Refusal F → (F → Type 0) → Type 0
IsFaultAnd (Fault fault) P = P fault
IsFaultAnd NoMemory P = ⊥

-- the second refusal is the first with its fault told so; a want of memory stays one
abbrev pub IsMapped : {F G : Type 0} → Refusal F → (F → G → Type 0) → Refusal G → Type 0
IsMapped (Fault fault) Tells mapped = IsFaultAnd mapped (Tells fault)
IsMapped NoMemory Tells mapped = mapped ≡ NoMemory
