-- The numbers of lines, by counts of least vertices.
use Rattle.std.proofs.Common.{◌≡◌, ℕ, zero, suc, ◌<◌, ◌≤◌, Bool, true, false, ◌⊎◌, inl, inr, ap, ◌∙◌, arith}
use Rattle.std.proofs.lemmas.Bool.{cases_Bool, cases_order, cases_lt, cond-true, cond-false, eq-eqb, eqb-true, both_ways}
use Rattle.compact_types.specs.declared.places.Axis.{Axis}
use Rattle.compact_types.specs.declared.plan.Shape.{Shape}
use Rattle.bars.specs.Lines.{count_to, is_least, least_in_line, line_count, line_of}
use Rattle.bars.proofs.LineVertices.{least_below, least_own}

-- one number more
pub count_step : (test : ℕ → Bool) (n : ℕ) →
    ((test n ≡ true) × (count_to test (suc n) ≡ suc (count_to test n))) ⊎ ((test n ≡ false) × (count_to test (suc n) ≡ count_to test n))
count_step test n = by_test (cases_Bool (test n))
  where
    by_test : (test n ≡ true) ⊎ (test n ≡ false) →
        ((test n ≡ true) × (count_to test (suc n) ≡ suc (count_to test n))) ⊎ ((test n ≡ false) × (count_to test (suc n) ≡ count_to test n))
    by_test (inl passes) = inl (passes, cond-true _ _ _ passes)
    by_test (inr fails) = inr (fails, cond-false _ _ _ fails)

-- a count is at most the bound
pub count_below_bound : (test : ℕ → Bool) (n : ℕ) → count_to test n ≤ n
count_below_bound test zero = omega arith
count_below_bound test (suc n) = by_step (count_step test n) (count_below_bound test n)
  where
    by_step : ((test n ≡ true) × (count_to test (suc n) ≡ suc (count_to test n))) ⊎ ((test n ≡ false) × (count_to test (suc n) ≡ count_to test n)) →
        count_to test n ≤ n → count_to test (suc n) ≤ suc n
    by_step (inl is) before = omega (arith, is.1, before)
    by_step (inr is) before = omega (arith, is.1, before)

-- counts grow past a number that passes
pub count_below : (test : ℕ → Bool) (m n : ℕ) → m < n → test m ≡ true → count_to test m < count_to test n
count_below test m zero less passes = absurd (omega arith)
count_below test m (suc n) less passes = by_step (cases_lt m n) (count_step test n) (λ before. count_below test m n before passes)
  where
    by_step : (m < n) ⊎ (n ≤ m) →
        ((test n ≡ true) × (count_to test (suc n) ≡ suc (count_to test n))) ⊎ ((test n ≡ false) × (count_to test (suc n) ≡ count_to test n)) →
        (m < n → count_to test m < count_to test n) → count_to test m < count_to test (suc n)
    by_step (inl before) (inl step) hypothesis = let h = hypothesis before in omega (arith, step.1, h)
    by_step (inl before) (inr step) hypothesis = let h = hypothesis before in omega (arith, step.1, h)
    by_step (inr here) (inl step) hypothesis =
        let same : n ≡ m = omega arith in
        let counts : count_to test n ≡ count_to test m = ap (count_to test) same in omega (arith, step.1, counts)
    by_step (inr here) (inr step) hypothesis =
        let same : m ≡ n = omega arith in absurd (both_ways (test m) (ap test same ∙ step.0) passes)

-- the number that passes after k others
abbrev Counted : (ℕ → Bool) → ℕ → ℕ → Type 0
Counted test n k = (i : ℕ) × (i < n) × (test i ≡ true) × (count_to test i ≡ k)

-- each number below the count is reached
pub counted : (test : ℕ → Bool) (n k : ℕ) → k < count_to test n → Counted test n k
counted test zero k less = absurd (omega arith)
counted test (suc n) k less = by_step (count_step test n) (λ below. counted test n k below)
  where
    further : Counted test n k → Counted test (suc n) k
    further found = (found.0, omega (arith, found.1), found.2, found.3)

    by_step : ((test n ≡ true) × (count_to test (suc n) ≡ suc (count_to test n))) ⊎ ((test n ≡ false) × (count_to test (suc n) ≡ count_to test n)) →
        (k < count_to test n → Counted test n k) → Counted test (suc n) k
    by_step (inr step) hypothesis = further (hypothesis (omega (arith, step.1)))
    by_step (inl step) hypothesis = by_order (cases_lt k (count_to test n))
      where
        by_order : (k < count_to test n) ⊎ (count_to test n ≤ k) → Counted test (suc n) k
        by_order (inl below) = further (hypothesis below)
        by_order (inr above) = (n, omega arith, step.0, omega (arith, step.1))

module _ (axis : Axis) (shape : Shape) where
  -- the least vertex of a line passes the test of least vertices
  pub least_is_least : (v : ℕ) → is_least axis shape (least_in_line axis shape v) ≡ true
  least_is_least v = eq-eqb _ _ (least_own axis shape v)

  -- one line number, one least vertex
  pub least_from_line : (v w : ℕ) → line_of axis shape v ≡ line_of axis shape w → least_in_line axis shape v ≡ least_in_line axis shape w
  least_from_line v w same = by_order (cases_order (least_in_line axis shape v) (least_in_line axis shape w))
    where
      by_order : (least_in_line axis shape v ≡ least_in_line axis shape w) ⊎
          ((least_in_line axis shape v < least_in_line axis shape w) ⊎ (least_in_line axis shape w < least_in_line axis shape v)) →
          least_in_line axis shape v ≡ least_in_line axis shape w
      by_order (inl equal) = equal
      by_order (inr (inl less)) =
          let counts = count_below (is_least axis shape) _ _ less (least_is_least v) in absurd (omega (arith, counts, same))
      by_order (inr (inr more)) =
          let counts = count_below (is_least axis shape) _ _ more (least_is_least w) in absurd (omega (arith, counts, same))

  -- one least vertex, one line number
  pub line_from_least : (v w : ℕ) → least_in_line axis shape v ≡ least_in_line axis shape w → line_of axis shape v ≡ line_of axis shape w
  line_from_least v w same = ap (count_to (is_least axis shape)) same

  -- the line number of a vertex is below the number of lines
  pub line_below : (v : ℕ) → v < shape.plan.vertices → line_of axis shape v < line_count axis shape
  line_below v within =
      let below = least_below axis shape v in
      count_below (is_least axis shape) (least_in_line axis shape v) shape.plan.vertices (omega (arith, below, within)) (least_is_least v)

  -- every line number is that of a vertex, which is the least of its line
  pub line_taken : (line : ℕ) → line < line_count axis shape →
      (v : ℕ) × (v < shape.plan.vertices) × (least_in_line axis shape v ≡ v) × (line_of axis shape v ≡ line)
  line_taken line within =
      let found = counted (is_least axis shape) shape.plan.vertices line within in
      let own = eqb-true _ _ found.2 in
      (found.0, found.1, own, ap (count_to (is_least axis shape)) own ∙ found.3)

  -- the numbers go up with the least vertices
  pub lines_in_order : (v w : ℕ) →
      (line_of axis shape v < line_of axis shape w → least_in_line axis shape v < least_in_line axis shape w) ×
      (least_in_line axis shape v < least_in_line axis shape w → line_of axis shape v < line_of axis shape w)
  lines_in_order v w = (
    λ less. by_order less (cases_order (least_in_line axis shape v) (least_in_line axis shape w)),
    λ less. count_below (is_least axis shape) _ _ less (least_is_least v),
  )
    where
      by_order : line_of axis shape v < line_of axis shape w →
          (least_in_line axis shape v ≡ least_in_line axis shape w) ⊎
          ((least_in_line axis shape v < least_in_line axis shape w) ⊎ (least_in_line axis shape w < least_in_line axis shape v)) →
          least_in_line axis shape v < least_in_line axis shape w
      by_order less (inl equal) = let same = line_from_least v w equal in absurd (omega (arith, less, same))
      by_order less (inr (inl before)) = before
      by_order less (inr (inr after)) =
          let counts = count_below (is_least axis shape) _ _ after (least_is_least w) in absurd (omega (arith, less, counts))
