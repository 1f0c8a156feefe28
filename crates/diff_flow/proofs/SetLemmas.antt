-- Lists of numbers after a write or a push.
use Rattle.std.proofs.Common.{◌≡◌, ℕ, zero, suc, ◌+◌, ◌*◌, ◌<◌, ◌≤◌, inl, inr, List, [], ◌∷◌, ◌++◌, length, get_or, set, drop, refl, sym, ap, subst, ◌∙◌, arith, sum, take, Bool, true, false, MatchBool}
use Rattle.std.proofs.lemmas.Bool.{cases_eq, cases_lt}
use Rattle.std.proofs.lemmas.List.{get_or-set_same, get_or-set_other, length_push, get_or_append_left, get_or_push, get_or-drop, length-drop, get_or_default, take_at}
use Rattle.std.proofs.lemmas.List.Sums.{sum_by-le}
use Rattle.std.proofs.lemmas.Bool.{false≢true}
use Rattle.diff_flow.specs.inner.Numbers.{IsInList}

-- what a list has after a write, by cases
pub by_write : (P : ℕ → Type 0) (xs : List ℕ) (i v x : ℕ) → i < length xs → (v ≡ i → P x) → ((v ≡ i → ⊥) → P (get_or xs v 0)) →
    P (get_or (set xs i x) v 0)
by_write P xs i v x inside here other =
    elim (cases_eq v i) [
      | inl same ↦ subst P (sym (ap (λ w. get_or (set xs i x) w 0) same ∙ get_or-set_same xs i x 0 inside)) (here same)
      | inr apart ↦ subst P (sym (get_or-set_other xs i v x 0 apart)) (other apart)
    ]

-- and after a push
pub by_push : (P : ℕ → Type 0) (xs : List ℕ) (v x : ℕ) → v < length xs + 1 → (v ≡ length xs → P x) → (v < length xs → P (get_or xs v 0)) →
    P (get_or (xs ++ x ∷ []) v 0)
by_push P xs v x inside last before =
    elim (cases_lt v (length xs)) [
      | inl front ↦ subst P (sym (get_or_append_left xs (x ∷ []) 0 v front)) (before front)
      | inr back ↦ let here : v ≡ length xs = omega arith in
          subst P (sym (get_or_push xs x 0 v (sym here))) (last here)
    ]

pub in_pushed : (xs : List ℕ) (x v : ℕ) → IsInList xs v → IsInList (xs ++ x ∷ []) v
in_pushed xs x v found =
    (found.0, omega (arith, length_push xs x, found.1), get_or_append_left xs (x ∷ []) 0 found.0 found.1 ∙ found.2)

pub in_last : (xs : List ℕ) (x : ℕ) → IsInList (xs ++ x ∷ []) x
in_last xs x = (length xs, omega (arith, length_push xs x), get_or_push xs x 0 (length xs) refl)

-- what is in a list is its first or in the rest
pub in_rest : (xs : List ℕ) (v x : ℕ) → x ≡ get_or xs 0 0 → IsInList xs v → (v ≡ x → ⊥) → IsInList (drop 1 xs) v
in_rest xs v x first found other = by_place found.0 found.1 found.2
  where
    by_place : (k : ℕ) → k < length xs → get_or xs k 0 ≡ v → IsInList (drop 1 xs) v
    by_place zero inside is = absurd (other (sym (first ∙ is)))
    by_place (suc k) inside is =
        let e : 1 + k ≡ suc k = omega arith in
        (k, omega (arith, length-drop 1 xs), get_or-drop 1 xs k 0 ∙ ap (λ w. get_or xs w 0) e ∙ is)

-- a sum of so many numbers of at most the limit
pub sum_most : (xs : List ℕ) (n limit : ℕ) → length xs ≡ n → ((v : ℕ) → v < n → get_or xs v 0 ≤ limit) → sum xs ≤ n * limit
sum_most xs n limit all most =
    let bound = sum_by-le (λ x. x) limit xs (λ k d inside.
    subst (λ x. x ≤ limit) (get_or_default xs k 0 d inside) (most k (omega arith))) in
    subst (λ w. sum xs ≤ w * limit) all bound

-- a vector that was lent whole has what was written
pub written_whole : (new items : List ℕ) (n : ℕ) → length new ≡ n → take n (new ++ drop (length new) items) ≡ new
written_whole new items n all = take_at new (drop (length new) items) n all

-- the fact of the answer that came
pub by_true : (b : Bool) (P Q : Type 0) → b ≡ true → MatchBool b P Q → P
by_true true P Q is fact = fact
by_true false P Q is fact = absurd (false≢true is)
