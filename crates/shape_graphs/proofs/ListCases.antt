-- What is read of a list after a write and after a push.
use Rattle.std.proofs.Common.{◌≡◌, ℕ, ◌<◌, ◌≤◌, List, [], ◌∷◌, ◌++◌, length, get_or, set, ◌⊎◌, inl, inr, refl, arith, get_or-set_same, get_or-set_other}
use Rattle.std.proofs.lemmas.Bool.{cases_eq, cases_lt}
use Rattle.std.proofs.lemmas.List.{get_or_append_left, get_or_push, length_push}

-- what a write at i leaves at v
abbrev pub Written : {A : Type 0} → A → List A → ℕ → A → ℕ → Type 0
Written d xs i x v =
    ((v ≡ i) × (get_or (set xs i x) v d ≡ x)) ⊎ ((v ≡ i → ⊥) × (get_or (set xs i x) v d ≡ get_or xs v d))

pub written : {A : Type 0} (d : A) (xs : List A) (i : ℕ) (x : A) (v : ℕ) → i < length xs → Written d xs i x v
written {A} d xs i x v inside = by_place (cases_eq v i)
  where
    by_place : (v ≡ i) ⊎ (v ≡ i → ⊥) → Written d xs i x v
    by_place (inl same) = inl (same, rw same (get_or-set_same xs i x d inside))
    by_place (inr other) = inr (other, get_or-set_other xs i v x d other)

-- what a push leaves at a place of the longer list
abbrev pub Pushed : {A : Type 0} → A → List A → A → ℕ → Type 0
Pushed d xs x k =
    ((k < length xs) × (get_or (xs ++ x ∷ []) k d ≡ get_or xs k d)) ⊎ ((k ≡ length xs) × (get_or (xs ++ x ∷ []) k d ≡ x))

pub pushed : {A : Type 0} (d : A) (xs : List A) (x : A) (k : ℕ) → k < length (xs ++ x ∷ []) → Pushed d xs x k
pushed {A} d xs x k inside = by_place (cases_lt k (length xs))
  where
    by_place : (k < length xs) ⊎ (length xs ≤ k) → Pushed d xs x k
    by_place (inl before) = inl (before, get_or_append_left xs (x ∷ []) d k before)
    by_place (inr behind) =
        let last : k ≡ length xs = omega (arith, length_push xs x) in
        inr (last, rw last (get_or_push xs x d (length xs) refl))
