-- Searches over ranges of numbers.
use Rattle.std.proofs.Common.{◌≡◌, ℕ, zero, suc, ◌+◌, ◌<◌, ◌≤◌, ℤ, ◌≤ℤ◌, Bool, true, false, Option, Some, ◌⊎◌, inl, inr, subst, sym, ap, ◌∙◌, arith}
use Rattle.std.specs.List.{find, list_any, range_with_len}
use Rattle.std.specs.Option.{unwrap_or}
use Rattle.std.proofs.lemmas.Bool.{cases_Bool, cases_lt, cond_both, cond-true, cond-false, both_ways, or_cases, or_left, or_right}
use Rattle.std.proofs.lemmas.Int.{ints, by_lt_z}

-- a number of the range that passes
abbrev pub Passes : (ℕ → Bool) → ℕ → ℕ → ℕ → Type 0
Passes test a n v = (a ≤ v) × (v < a + n) × (test v ≡ true)

passes_later : (test : ℕ → Bool) (a n v : ℕ) → Passes test (a + 1) n v → Passes test a (suc n) v
passes_later test a n v passes = (omega (arith, passes.0), omega (arith, passes.1), passes.2)

-- what passes stands at the beginning or later
pub first_or_later : (test : ℕ → Bool) (a n v : ℕ) → Passes test a (suc n) v → (test a ≡ true) ⊎ Passes test (a + 1) n v
first_or_later test a n v passes = by_order (cases_lt a v)
  where
    by_order : (a < v) ⊎ (v ≤ a) → (test a ≡ true) ⊎ Passes test (a + 1) n v
    by_order (inl later) = inr (omega arith, omega (arith, passes.1), passes.2)
    by_order (inr first) = let same : a ≡ v = omega (arith, passes.0) in inl (ap test same ∙ passes.2)

-- some number of the range passes
pub any_range : (test : ℕ → Bool) (a n : ℕ) → list_any test (range_with_len a n) ≡ true → (v : ℕ) × Passes test a n v
any_range test a zero holds = absurd (let e : false ≡ true = holds in cc)
any_range test a (suc n) holds = by_first (or_cases (test a) _ holds) (λ later. any_range test (a + 1) n later)
  where
    by_first : (test a ≡ true) ⊎ (list_any test (range_with_len (a + 1) n) ≡ true) →
        (list_any test (range_with_len (a + 1) n) ≡ true → (v : ℕ) × Passes test (a + 1) n v) → (v : ℕ) × Passes test a (suc n) v
    by_first (inl first) hypothesis = (a, (omega arith, omega arith, first))
    by_first (inr later) hypothesis = let found = hypothesis later in (found.0, passes_later test a n found.0 found.1)

pub any_range_at : (test : ℕ → Bool) (a n v : ℕ) → Passes test a n v → list_any test (range_with_len a n) ≡ true
any_range_at test a zero v passes = absurd (omega (arith, passes.0, passes.1))
any_range_at test a (suc n) v passes = by_first (first_or_later test a n v passes) (λ later. any_range_at test (a + 1) n v later)
  where
    by_first : (test a ≡ true) ⊎ Passes test (a + 1) n v → (Passes test (a + 1) n v → list_any test (range_with_len (a + 1) n) ≡ true) →
        list_any test (range_with_len a (suc n)) ≡ true
    by_first (inl first) hypothesis = or_left (test a) _ first
    by_first (inr later) hypothesis = or_right (test a) _ (hypothesis later)

-- what is found passes
pub found_passes : (test : ℕ → Bool) (a n v : ℕ) → Passes test a n v → Passes test a n (unwrap_or (find test (range_with_len a n)) 0)
found_passes test a zero v passes = absurd (omega (arith, passes.0, passes.1))
found_passes test a (suc n) v passes =
    by_first (cases_Bool (test a)) (first_or_later test a n v passes) (λ later. found_passes test (a + 1) n v later)
  where
    by_first : (test a ≡ true) ⊎ (test a ≡ false) → (test a ≡ true) ⊎ Passes test (a + 1) n v →
        (Passes test (a + 1) n v → Passes test (a + 1) n (unwrap_or (find test (range_with_len (a + 1) n)) 0)) →
        Passes test a (suc n) (unwrap_or (find test (range_with_len a (suc n))) 0)
    by_first (inl first) later hypothesis =
        subst (λ (found : Option ℕ). Passes test a (suc n) (unwrap_or found 0)) (sym (cond-true (test a) (Some a) _ first)) (omega arith, omega arith, first)
    by_first (inr fails) (inl first) hypothesis = absurd (both_ways (test a) fails first)
    by_first (inr fails) (inr later) hypothesis =
        subst (λ (found : Option ℕ). Passes test a (suc n) (unwrap_or found 0)) (sym (cond-false (test a) (Some a) _ fails))
        (passes_later test a n _ (hypothesis later))

-- a number that passes and is least by f among those that do
abbrev pub Least : (ℕ → Bool) → (ℕ → ℤ) → ℕ → ℕ → Type 0
Least test f n v = (v < n) × (test v ≡ true) × ((w : ℕ) → w < n → test w ≡ true → f v ≤ℤ f w)

-- where one passes, one is least
pub least_passing : (test : ℕ → Bool) (f : ℕ → ℤ) (n : ℕ) →
    ((w : ℕ) → w < n → test w ≡ true → ⊥) ⊎ ((v : ℕ) × Least test f n v)
least_passing test f zero = inl (λ w none passes. omega arith)
least_passing test f (suc n) = by_last (cases_Bool (test n)) (least_passing test f n)
  where
    before_or_here : (w : ℕ) → w < suc n → (w < n) ⊎ (w ≡ n)
    before_or_here w within = by_order (cases_lt w n)
      where
        by_order : (w < n) ⊎ (n ≤ w) → (w < n) ⊎ (w ≡ n)
        by_order (inl before) = inl before
        by_order (inr after) = inr (omega arith)

    at_last : (w : ℕ) → (w < n) ⊎ (w ≡ n) → test n ≡ false → test w ≡ true → w < n
    at_last w (inl before) fails passes = before
    at_last w (inr here) fails passes = absurd (both_ways (test n) fails (ap test (sym here) ∙ passes))

    not_above : (v : ℕ) (z : ℤ) → z ≤ℤ f n → ((w : ℕ) → w < n → test w ≡ true → z ≤ℤ f w) →
        (w : ℕ) → (w < n) ⊎ (w ≡ n) → test w ≡ true → z ≤ℤ f w
    not_above v z here all w (inl before) passes = all w before passes
    not_above v z here all w (inr last) passes = subst (λ (x : ℕ). z ≤ℤ f x) (sym last) here

    by_last : (test n ≡ true) ⊎ (test n ≡ false) → ((w : ℕ) → w < n → test w ≡ true → ⊥) ⊎ ((v : ℕ) × Least test f n v) →
        ((w : ℕ) → w < suc n → test w ≡ true → ⊥) ⊎ ((v : ℕ) × Least test f (suc n) v)
    by_last (inr fails) (inl none) = inl (λ w within passes. none w (at_last w (before_or_here w within) fails passes) passes)
    by_last (inr fails) (inr found) = inr (
      found.0,
      (
        omega (arith, found.1.0),
        found.1.1,
        λ w within passes. found.1.2 w (at_last w (before_or_here w within) fails passes) passes,
      ),
    )
    by_last (inl passes) (inl none) = inr (
      n,
      (
        omega arith,
        passes,
        λ w within holds. not_above n (f n) (omega (arith, ints)) (λ u before there. absurd (none u before there)) w (before_or_here w within) holds,
      ),
    )
    by_last (inl passes) (inr found) =
        by_lt_z (f n) (f found.0)
        (λ less. inr (
          n,
          (
            omega arith,
            passes,
            λ w within holds. not_above n (f n) (omega (arith, ints)) (λ u before there. let h = found.1.2 u before there in omega (arith, ints, less, h)) w (before_or_here w within) holds,
          ),
        ))
        (λ more. inr (
          found.0,
          (
            omega (arith, found.1.0),
            found.1.1,
            λ w within holds. not_above n (f found.0) (omega (arith, ints, more)) found.1.2 w (before_or_here w within) holds,
          ),
        ))

-- whether a number below n passes is decided
pub some_or_none : (test : ℕ → Bool) (n : ℕ) → ((v : ℕ) × (v < n) × (test v ≡ true)) ⊎ ((v : ℕ) → v < n → test v ≡ true → ⊥)
some_or_none test zero = inr (λ v none passes. omega arith)
some_or_none test (suc n) = by_last (cases_Bool (test n)) (some_or_none test n)
  where
    by_last : (test n ≡ true) ⊎ (test n ≡ false) →
        ((v : ℕ) × (v < n) × (test v ≡ true)) ⊎ ((v : ℕ) → v < n → test v ≡ true → ⊥) →
        ((v : ℕ) × (v < suc n) × (test v ≡ true)) ⊎ ((v : ℕ) → v < suc n → test v ≡ true → ⊥)
    by_last (inl passes) before = inl (n, omega arith, passes)
    by_last (inr fails) (inl found) = inl (found.0, omega (arith, found.1), found.2)
    by_last (inr fails) (inr none) = inr (λ v within passes. by_order v (cases_lt v n) within passes)
      where
        by_order : (v : ℕ) → (v < n) ⊎ (n ≤ v) → v < suc n → test v ≡ true → ⊥
        by_order v (inl before) within passes = none v before passes
        by_order v (inr after) within passes = let same : n ≡ v = omega arith in both_ways (test n) fails (ap test same ∙ passes)

-- what is found in a range, or 0, is below a bound of the range
pub found_below : (test : ℕ → Bool) (a n bound : ℕ) → 0 < bound → a + n ≤ bound → unwrap_or (find test (range_with_len a n)) 0 < bound
found_below test a zero bound some fits = some
found_below test a (suc n) bound some fits =
    cond_both (test a) (Some a) (find test (range_with_len (a + 1) n)) (λ (found : Option ℕ). unwrap_or found 0 < bound)
    (λ passes. omega (arith, fits)) (λ fails. found_below test (a + 1) n bound some (omega (arith, fits)))
