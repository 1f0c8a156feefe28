-- Fronts of a list, and bytes that are added to those that a sink holds or a source gave.
use Rattle.std.proofs.Common.{◌≡◌, ℕ, ◌+◌, ◌-◌, List, Option, ◌++◌, length, take, drop, sym, ap, ◌∙◌, subst}
use Rattle.std.specs.Io.KnownBytes.{Appends}
use Rattle.std.proofs.KnownBytes.{Appends-trans}
use Rattle.std.proofs.lemmas.List.{take_rest}
use Rattle.std.proofs.Math.Seq.{take-add}

-- a front, and then a front of the rest, make a longer front
pub take-further : (at count : ℕ) (xs : List ℕ) → take at xs ++ take count (take (length xs - at) (drop at xs)) ≡ take (at + count) xs
take-further at count xs =
    ap (λ (rest : List ℕ). take at xs ++ take count rest) (take_rest xs at) ∙ sym (take-add at count xs)

-- a sink that took a front, and then a front of the rest, took the longer front
pub Appends-further : (first now after : Option (List ℕ)) (at count : ℕ) (bytes : List ℕ)
    → Appends first now (take at bytes) → Appends now after (take count (take (length bytes - at) (drop at bytes)))
    → Appends first after (take (at + count) bytes)
Appends-further first now after at count bytes before more =
    subst (Appends first after) (take-further at count bytes) (Appends-trans first now after _ _ before more)
