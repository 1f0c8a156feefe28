-- How many numbers below a bound have a property, and how many pairs of numbers.
use Rattle.std.proofs.Common.{◌≡◌, ◌↔◌, ℕ, zero, suc, ◌+◌, Bool, true, false, ◌⊎◌, inl, inr, refl, sym, ap, subst, arith}
use Rattle.std.proofs.lemmas.Bool.{cases_Bool, cond-true, cond-false, both_ways}
use Rattle.bars.specs.Lines.{count_to}
use Rattle.compact_main.specs.Summaries.{IsCount, IsPairCount}
use Rattle.compact_main.specs.Summaries.IsCount.{no_number, one_more, one_without}
use Rattle.compact_main.specs.Summaries.IsPairCount.{no_pair, one_row}
use Rattle.compact_main.proofs.DecidableFacts.{IsDecided}

-- a count is one
one_count_at : {P : ℕ → Type 0} {n a b : ℕ} → IsCount P n a → IsCount P n b → a ≡ b
one_count_at no_number no_number = refl
one_count_at (one_more n k p first) (one_more m l q second) = ap suc (one_count_at first second)
one_count_at (one_more n k p first) (one_without m l none second) = absurd (none p)
one_count_at (one_without n k none first) (one_more m l q second) = absurd (none q)
one_count_at (one_without n k none first) (one_without m l neither second) = one_count_at first second

pub one_count : (P : ℕ → Type 0) (n a b : ℕ) → IsCount P n a → IsCount P n b → a ≡ b
one_count P n a b first second = one_count_at first second

-- what passes a test is counted by going over the numbers
passing : (test : ℕ → Bool) (n : ℕ) → IsCount (λ i. test i ≡ true) n (count_to test n)
passing test zero = no_number
passing test (suc n) = by (cases_Bool (test n)) (passing test n)
  where
    by : (test n ≡ true) ⊎ (test n ≡ false) → IsCount (λ i. test i ≡ true) n (count_to test n) →
        IsCount (λ i. test i ≡ true) (suc n) (count_to test (suc n))
    by (inl passes) before = rw (cond-true (test n) (suc (count_to test n)) (count_to test n) passes) (one_more n (count_to test n) passes before)
    by (inr fails) before =
        rw (cond-false (test n) (suc (count_to test n)) (count_to test n) fails)
        (one_without n (count_to test n) (λ passes. both_ways (test n) fails passes) before)

pub count_by_test : (test : ℕ → Bool) (n k : ℕ) → IsCount (λ i. test i ≡ true) n k ↔ (k ≡ count_to test n)
count_by_test test n k = (
  λ count. one_count (λ i. test i ≡ true) n k (count_to test n) count (passing test n),
  λ same. subst (λ (m : ℕ). IsCount (λ i. test i ≡ true) n m) (sym same) (passing test n),
)

-- what can be told can be counted
pub some_count : (P : ℕ → Type 0) → ((i : ℕ) → IsDecided (P i)) → (n : ℕ) → (k : ℕ) × IsCount P n k
some_count P told zero = (0, no_number)
some_count P told (suc n) = by (told n) (some_count P told n)
  where
    by : IsDecided (P n) → (k : ℕ) × IsCount P n k → (k : ℕ) × IsCount P (suc n) k
    by (inl p) (k, rest) = (suc k, one_more n k p rest)
    by (inr none) (k, rest) = (k, one_without n k none rest)

one_pair_count_at : {P : ℕ → ℕ → Type 0} {n a b : ℕ} → IsPairCount P n a → IsPairCount P n b → a ≡ b
one_pair_count_at no_pair no_pair = refl
one_pair_count_at (one_row t k m first row) (one_row u l p second other) =
    let same : k ≡ l = one_pair_count_at first second in
    let equal : m ≡ p = one_count_at row other in omega (arith, same, equal)

pub one_pair_count : (P : ℕ → ℕ → Type 0) (n a b : ℕ) → IsPairCount P n a → IsPairCount P n b → a ≡ b
one_pair_count P n a b first second = one_pair_count_at first second

pub some_pair_count : (P : ℕ → ℕ → Type 0) → ((s t : ℕ) → IsDecided (P s t)) → (n : ℕ) → (k : ℕ) × IsPairCount P n k
some_pair_count P told zero = (0, no_pair)
some_pair_count P told (suc t) =
    let (k, rest) = some_pair_count P told t in
    let (m, row) = some_count (λ s. P s t) (λ s. told s t) t in
    (k + m, one_row t k m rest row)
