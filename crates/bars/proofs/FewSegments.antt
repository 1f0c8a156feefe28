-- There are at most as many segments as vertices: each row with a piece has two vertices of its own, and so has each column.
use Rattle.std.proofs.Common.{◌≡◌, ℕ, zero, suc, ◌+◌, ◌<◌, ◌≤◌, ◌==◌, Bool, true, false, ◌∷◌, length, ltb, ◌⊎◌, inl, inr, ap, arith}
use Rattle.std.specs.List.{filter, range_with_len}
use Rattle.std.proofs.lemmas.Int.{ints}
use Rattle.std.proofs.lemmas.Bool.{cases_order, eq-eqb, eqb-true, ltb-true, lt-ltb, both_ways}
use Rattle.compact_types.specs.declared.places.Axis.{Axis}
use Rattle.compact_types.specs.declared.places.Axis.TheVariants.{X, Y}
use Rattle.compact_types.specs.declared.plan.Shape.{Shape}
use Rattle.bars.specs.Lines.{count_to, line_of, line_count}
use Rattle.bars.specs.Segments.{segment_count, has_piece}
use Rattle.bars.specs.Solutions.{HasDrawing}
use Rattle.bars.proofs.LineNumbers.{count_step, count_below, count_below_bound}
use Rattle.bars.proofs.LinePositions.{low_of, high_of, coordinate, rises}
use Rattle.bars.proofs.LineEnds.{low_is_vertex, high_is_vertex}
use Rattle.bars.proofs.SegmentLists.{filter_step, line_with_piece, count_is}

-- what passes one of two tests that never both pass, and each of which passes a third
count_both : (p q r : ℕ → Bool) (n : ℕ) → ((v : ℕ) → p v ≡ true → (r v ≡ true) × (q v ≡ true → ⊥)) → ((v : ℕ) → q v ≡ true → r v ≡ true) →
    count_to p n + count_to q n ≤ count_to r n
count_both p q r zero first second = omega arith
count_both p q r (suc n) first second = by_steps (count_step p n) (count_step q n) (count_step r n) (count_both p q r n first second)
  where
    by_steps : ((p n ≡ true) × (count_to p (suc n) ≡ suc (count_to p n))) ⊎ ((p n ≡ false) × (count_to p (suc n) ≡ count_to p n)) →
        ((q n ≡ true) × (count_to q (suc n) ≡ suc (count_to q n))) ⊎ ((q n ≡ false) × (count_to q (suc n) ≡ count_to q n)) →
        ((r n ≡ true) × (count_to r (suc n) ≡ suc (count_to r n))) ⊎ ((r n ≡ false) × (count_to r (suc n) ≡ count_to r n)) →
        count_to p n + count_to q n ≤ count_to r n → count_to p (suc n) + count_to q (suc n) ≤ count_to r (suc n)
    by_steps (inl a) (inl b) c before = absurd ((first n a.0).1 b.0)
    by_steps (inl a) (inr b) (inl c) before = omega (arith, a.1, b.1, c.1, before)
    by_steps (inl a) (inr b) (inr c) before = absurd (both_ways (r n) c.0 (first n a.0).0)
    by_steps (inr a) (inl b) (inl c) before = omega (arith, a.1, b.1, c.1, before)
    by_steps (inr a) (inl b) (inr c) before = absurd (both_ways (r n) c.0 (second n b.0))
    by_steps (inr a) (inr b) (inl c) before = omega (arith, a.1, b.1, c.1, before)
    by_steps (inr a) (inr b) (inr c) before = omega (arith, a.1, b.1, c.1, before)

-- two different numbers that pass
count_two : (p : ℕ → Bool) (n v w : ℕ) → v < n → w < n → (v ≡ w → ⊥) → p v ≡ true → p w ≡ true → 2 ≤ count_to p n
count_two p n v w v_below w_below differ v_passes w_passes = by_order (cases_order v w)
  where
    by_order : (v ≡ w) ⊎ ((v < w) ⊎ (w < v)) → 2 ≤ count_to p n
    by_order (inl same) = absurd (differ same)
    by_order (inr (inl less)) =
        let first = count_below p v w less v_passes in let second = count_below p w n w_below w_passes in omega (arith, first, second)
    by_order (inr (inr more)) =
        let first = count_below p w v more w_passes in let second = count_below p v n v_below v_passes in omega (arith, first, second)

-- two numbers below n of one class
abbrev HasTwo : (ℕ → ℕ) → ℕ → ℕ → Type 0
HasTwo class n k = (v w : ℕ) × (v < n) × (w < n) × (v ≡ w → ⊥) × (class v ≡ k) × (class w ≡ k)

-- where each class that passes has two numbers, twice the classes are at most the numbers
twice : (class : ℕ → ℕ) (has : ℕ → Bool) (n k : ℕ) → ((l : ℕ) → l < k → has l ≡ true → HasTwo class n l) →
    count_to has k + count_to has k ≤ count_to (λ v. ltb (class v) k) n
twice class has n zero two = omega arith
twice class has n (suc k) two = by_step (count_step has k) (twice class has n k (λ l below holds. two l (omega (arith, below)) holds)) grows
  where
    grows : count_to (λ v. ltb (class v) k) n + count_to (λ v. class v == k) n ≤ count_to (λ v. ltb (class v) (suc k)) n
    grows = count_both (λ v. ltb (class v) k) (λ v. class v == k) (λ v. ltb (class v) (suc k)) n
        (λ v below. (
          lt-ltb _ _ (let less = ltb-true (class v) k below in omega (arith, less)),
          λ same. (let less = ltb-true (class v) k below in let equal = eqb-true (class v) k same in omega (arith, less, equal)),
        ))
        (λ v same. lt-ltb _ _ (let equal = eqb-true (class v) k same in omega (arith, equal)))

    by_step : ((has k ≡ true) × (count_to has (suc k) ≡ suc (count_to has k))) ⊎ ((has k ≡ false) × (count_to has (suc k) ≡ count_to has k)) →
        count_to has k + count_to has k ≤ count_to (λ v. ltb (class v) k) n →
        count_to (λ v. ltb (class v) k) n + count_to (λ v. class v == k) n ≤ count_to (λ v. ltb (class v) (suc k)) n →
        count_to has (suc k) + count_to has (suc k) ≤ count_to (λ v. ltb (class v) (suc k)) n
    by_step (inr is) before more = omega (arith, is.1, before, more)
    by_step (inl is) before more =
        let both = two k (omega arith) is.0 in
        let here = count_two (λ v. class v == k) n both.0 both.1 both.2 both.3 both.4 (eq-eqb _ _ both.5) (eq-eqb _ _ both.6) in
        omega (arith, is.1, before, more, here)

-- how long a filtered range is
filtered_count : (test : ℕ → Bool) (a n : ℕ) → length (filter test (range_with_len a n)) + count_to test a ≡ count_to test (a + n)
filtered_count test a zero =
    let same : a + 0 ≡ a = omega arith in let counts : count_to test (a + 0) ≡ count_to test a = ap (count_to test) same in omega (arith, counts)
filtered_count test a (suc n) = by_steps (filter_step test a n) (count_step test a) (filtered_count test (a + 1) n)
  where
    by_steps : ((test a ≡ true) × (filter test (range_with_len a (suc n)) ≡ a ∷ filter test (range_with_len (a + 1) n))) ⊎
        ((test a ≡ false) × (filter test (range_with_len a (suc n)) ≡ filter test (range_with_len (a + 1) n))) →
        ((test a ≡ true) × (count_to test (suc a) ≡ suc (count_to test a))) ⊎ ((test a ≡ false) × (count_to test (suc a) ≡ count_to test a)) →
        length (filter test (range_with_len (a + 1) n)) + count_to test (a + 1) ≡ count_to test (a + 1 + n) →
        length (filter test (range_with_len a (suc n))) + count_to test a ≡ count_to test (a + suc n)
    by_steps (inl l) (inl c) rest =
        let long : length (filter test (range_with_len a (suc n))) ≡ suc (length (filter test (range_with_len (a + 1) n))) = ap length l.1 in
        let next : count_to test (a + 1) ≡ count_to test (suc a) = let same : a + 1 ≡ suc a = omega arith in ap (count_to test) same in
        let end : count_to test (a + 1 + n) ≡ count_to test (a + suc n) = let same : a + 1 + n ≡ a + suc n = omega arith in ap (count_to test) same in
        omega (arith, long, c.1, next, end, rest)
    by_steps (inr l) (inr c) rest =
        let long : length (filter test (range_with_len a (suc n))) ≡ length (filter test (range_with_len (a + 1) n)) = ap length l.1 in
        let next : count_to test (a + 1) ≡ count_to test (suc a) = let same : a + 1 ≡ suc a = omega arith in ap (count_to test) same in
        let end : count_to test (a + 1 + n) ≡ count_to test (a + suc n) = let same : a + 1 + n ≡ a + suc n = omega arith in ap (count_to test) same in
        omega (arith, long, c.1, next, end, rest)
    by_steps (inl l) (inr c) rest = absurd (both_ways (test a) c.0 l.0)
    by_steps (inr l) (inl c) rest = absurd (both_ways (test a) l.0 c.0)

module _ (shape : Shape) (drawing : HasDrawing shape) where
  -- a line with a piece has two vertices
  two_in_line : (axis : Axis) (line : ℕ) → line < line_count axis shape → has_piece axis shape line ≡ true → HasTwo (line_of axis shape) shape.plan.vertices line
  two_in_line axis line within holds =
      let some = (line_with_piece shape axis line (omega arith, omega (arith, within), holds)).some_piece in
      let rise = rises axis shape drawing.0 drawing.1.crossing_free.ways some.0 some.1 in (
        low_of shape some.0,
        high_of shape some.0,
        low_is_vertex shape some.0 some.1.inside,
        high_is_vertex shape some.0 some.1.inside,
        λ same. (let equal : coordinate axis drawing.0 (low_of shape some.0) ≡ coordinate axis drawing.0 (high_of shape some.0) = ap (coordinate axis drawing.0) same in omega (arith, ints, rise, equal)),
        some.2,
        some.3,
      )

  half : (axis : Axis) → length (filter (has_piece axis shape) (range_with_len 0 (line_count axis shape))) + length (filter (has_piece axis shape) (range_with_len 0 (line_count axis shape))) ≤ shape.plan.vertices
  half axis =
      let count = filtered_count (has_piece axis shape) 0 (line_count axis shape) in
      let all : count_to (has_piece axis shape) (0 + line_count axis shape) ≡ count_to (has_piece axis shape) (line_count axis shape) =
      let same : 0 + line_count axis shape ≡ line_count axis shape = omega arith in ap (count_to (has_piece axis shape)) same in
      let both = twice (line_of axis shape) (has_piece axis shape) shape.plan.vertices (line_count axis shape) (two_in_line axis) in
      let most = count_below_bound (λ v. ltb (line_of axis shape v) (line_count axis shape)) shape.plan.vertices in
      omega (arith, count, all, both, most)

  -- there are at most as many segments as vertices
  pub few_segments : segment_count shape ≤ shape.plan.vertices
  few_segments = let rows = half X in let columns = half Y in let count = count_is shape in omega (arith, rows, columns, count)

-- and at most as many lines along an axis
pub few_lines : (axis : Axis) (shape : Shape) → line_count axis shape ≤ shape.plan.vertices
few_lines axis shape = count_below_bound _ shape.plan.vertices
