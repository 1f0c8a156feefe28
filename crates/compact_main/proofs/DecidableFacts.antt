-- What can be told.
use Rattle.std.proofs.Common.{◌⊎◌, inl, inr}

-- it holds, or it does not
abbrev pub IsDecided : Type 0 → Type 0
IsDecided P = P ⊎ (P → ⊥)

pub both : {P Q : Type 0} → IsDecided P → IsDecided Q → IsDecided (P × Q)
both (inl p) (inl q) = inl (p, q)
both (inl p) (inr none) = inr (λ is. none is.1)
both (inr none) q = inr (λ is. none is.0)
