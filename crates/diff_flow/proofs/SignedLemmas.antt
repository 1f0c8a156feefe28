-- Products of signed numbers, and sums of them.
use Rattle.std.proofs.Common.{◌≡◌, ℕ, zero, suc, ◌<◌, inl, inr, ℤ, pos, arith}
use Rattle.std.specs.Prelude.{◌+ℤ◌, ◌*ℤ◌, ◌≤ℤ◌}
use Rattle.std.proofs.lemmas.Int.{ints}
use Rattle.std.proofs.lemmas.Bool.{cases_lt}
use lib.IntN.{suc_ℤ-*ℤ}
use Rattle.compact_types.specs.Sums.{sum_to}
use Rattle.compact_types.proofs.Laws.{sum_to-not_greater}

-- one time more
pub times_suc : (n : ℕ) (a : ℤ) → pos (suc n) *ℤ a ≡ pos n *ℤ a +ℤ a
times_suc n a = suc_ℤ-*ℤ (pos n) a

-- where sums are equal and no term is greater, the terms are equal
pub same_terms : (f g : ℕ → ℤ) (n : ℕ) → ((i : ℕ) → i < n → (f i) ≤ℤ (g i)) → sum_to f n ≡ sum_to g n →
    (i : ℕ) → i < n → f i ≡ g i
same_terms f g zero le e i below = absurd (omega arith)
same_terms f g (suc n) le e i below =
    let front : sum_to f n ≤ℤ sum_to g n = sum_to-not_greater f g n (λ j inside. le j (omega arith)) in
    let here = le n (omega arith) in
    let last : f n ≡ g n = omega (arith, ints, front, here, e) in
    elim (cases_lt i n) [
      | inl inside ↦ same_terms f g n (λ j inside'. le j (omega arith)) (omega (arith, ints, last, e)) i inside
      | inr beyond ↦ let place : i ≡ n = omega arith in rw place last
    ]
