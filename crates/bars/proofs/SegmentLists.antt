-- The segments by their numbers.
use Rattle.std.proofs.Common.{◌≡◌, ℕ, zero, suc, ◌<◌, ◌≤◌, ◌+◌, ◌-◌, Bool, true, false, List, ◌∷◌, length, slice_index_or, ◌⊎◌, inl, inr, subst, sym, ap, refl, ◌∙◌, arith, length-append}
use Rattle.std.specs.List.{filter, range_with_len}
use Rattle.std.proofs.lemmas.Bool.{cases_Bool, cases_lt, cond-true, cond-false, and_parts, and_from, eq-eqb, eqb-true}
use Rattle.std.proofs.lemmas.List.{length-map, get_or-map, get_or-append_right, get_or_append_left}
use Rattle.compact_types.specs.declared.places.Axis.{Axis}
use Rattle.compact_types.specs.declared.places.Axis.TheVariants.{X, Y}
use Rattle.compact_types.specs.declared.plan.Shape.{Shape}
use Rattle.compact_types.specs.Lookups.{other_axis}
use Rattle.bars.specs.Lines.{line_of, line_count}
use Rattle.bars.specs.Segments.{Segment, has_piece, is_in_line, segments_along, segment_count, segment_at}
use Rattle.bars.proofs.LineVertices.{is_axis_same}
use Rattle.bars.proofs.LineNumbers.{line_below}
use Rattle.bars.proofs.RangeSearches.{Passes, any_range, any_range_at, first_or_later}
use Rattle.bars.proofs.LinePositions.{GoesAlong, low_of, high_of}
use Rattle.bars.proofs.LineEnds.{is_axis_at, line_of_low, line_of_high, low_is_vertex}

-- one number more of a range that is filtered
pub filter_step : (test : ℕ → Bool) (a n : ℕ) →
    ((test a ≡ true) × (filter test (range_with_len a (suc n)) ≡ a ∷ filter test (range_with_len (a + 1) n))) ⊎
    ((test a ≡ false) × (filter test (range_with_len a (suc n)) ≡ filter test (range_with_len (a + 1) n)))
filter_step test a n = by_test (cases_Bool (test a))
  where
    by_test : (test a ≡ true) ⊎ (test a ≡ false) →
        ((test a ≡ true) × (filter test (range_with_len a (suc n)) ≡ a ∷ filter test (range_with_len (a + 1) n))) ⊎
        ((test a ≡ false) × (filter test (range_with_len a (suc n)) ≡ filter test (range_with_len (a + 1) n)))
    by_test (inl passes) = inl (passes, cond-true _ _ _ passes)
    by_test (inr fails) = inr (fails, cond-false _ _ _ fails)

-- the number k of the list
abbrev pub nth : List ℕ → ℕ → ℕ
nth numbers k = slice_index_or numbers k 0

-- each number of the list passes and lies in the range, and they rise
record AreFiltered (test : ℕ → Bool) (a n : ℕ) (numbers : List ℕ) : Type 0 where
  passes : (k : ℕ) → k < length numbers → Passes test a n (nth numbers k)
  rise : (j k : ℕ) → j < k → k < length numbers → nth numbers j < nth numbers k
  all : (v : ℕ) → Passes test a n v → (k : ℕ) × (k < length numbers) × (nth numbers k ≡ v)

-- the number of the range stands before those of the rest
with_first : (test : ℕ → Bool) (a n : ℕ) (rest : List ℕ) → test a ≡ true → AreFiltered test (a + 1) n rest → AreFiltered test a (suc n) (a ∷ rest)
with_first test a n rest holds are = record { passes = passes; rise = rise; all = λ v its. all v (first_or_else v its) }
  where
    passes : (k : ℕ) → k < length (a ∷ rest) → Passes test a (suc n) (nth (a ∷ rest) k)
    passes zero within = (omega arith, omega arith, holds)
    passes (suc k) within = let its = are.passes k (omega arith) in (omega (arith, its.0), omega (arith, its.1), its.2)

    rise : (j k : ℕ) → j < k → k < length (a ∷ rest) → nth (a ∷ rest) j < nth (a ∷ rest) k
    rise zero zero less within = absurd (omega arith)
    rise (suc j) zero less within = absurd (omega arith)
    rise zero (suc k) less within = let its = are.passes k (omega arith) in omega (arith, its.0)
    rise (suc j) (suc k) less within = are.rise j k (omega arith) (omega arith)

    first_or_else : (v : ℕ) → Passes test a (suc n) v → (a ≡ v) ⊎ Passes test (a + 1) n v
    first_or_else v its = by_order (cases_lt a v)
      where
        by_order : (a < v) ⊎ (v ≤ a) → (a ≡ v) ⊎ Passes test (a + 1) n v
        by_order (inl later) = inr (omega arith, omega (arith, its.1), its.2)
        by_order (inr first) = inl (omega (arith, its.0))

    all : (v : ℕ) → (a ≡ v) ⊎ Passes test (a + 1) n v → (k : ℕ) × (k < length (a ∷ rest)) × (nth (a ∷ rest) k ≡ v)
    all v (inl first) = (0, omega arith, first)
    all v (inr later) = let found = are.all v later in (suc found.0, omega (arith, found.1), found.2)

without_first : (test : ℕ → Bool) (a n : ℕ) (rest : List ℕ) → test a ≡ false → AreFiltered test (a + 1) n rest → AreFiltered test a (suc n) rest
without_first test a n rest fails are = record {
  passes = λ k within. (let its = are.passes k within in (omega (arith, its.0), omega (arith, its.1), its.2));
  rise = are.rise;
  all = λ v its. all v (first_or_later test a n v its);
}
  where
    all : (v : ℕ) → (test a ≡ true) ⊎ Passes test (a + 1) n v → (k : ℕ) × (k < length rest) × (nth rest k ≡ v)
    all v (inl holds) = absurd (let e : true ≡ false = sym holds ∙ fails in cc)
    all v (inr later) = are.all v later

-- the numbers of a range that pass
filtered : (test : ℕ → Bool) (a n : ℕ) → AreFiltered test a n (filter test (range_with_len a n))
filtered test a zero = record { passes = λ k none. absurd (omega arith); rise = λ j k less none. absurd (omega arith); all = λ v its. absurd (omega (arith, its.0, its.1)) }
filtered test a (suc n) = by_step (filter_step test a n) (filtered test (a + 1) n)
  where
    by_step : ((test a ≡ true) × (filter test (range_with_len a (suc n)) ≡ a ∷ filter test (range_with_len (a + 1) n))) ⊎
        ((test a ≡ false) × (filter test (range_with_len a (suc n)) ≡ filter test (range_with_len (a + 1) n))) →
        AreFiltered test (a + 1) n (filter test (range_with_len (a + 1) n)) → AreFiltered test a (suc n) (filter test (range_with_len a (suc n)))
    by_step (inl is) are = subst (λ (l : List ℕ). AreFiltered test a (suc n) l) (sym is.1) (with_first test a n _ is.0 are)
    by_step (inr is) are = subst (λ (l : List ℕ). AreFiltered test a (suc n) l) (sym is.1) (without_first test a n _ is.0 are)

module _ (shape : Shape) where
  -- the lines along an axis that have a piece
  abbrev pub lines : Axis → List ℕ
  lines axis = filter (has_piece axis shape) (range_with_len 0 (line_count axis shape))

  abbrev lines_are : (axis : Axis) → AreFiltered (has_piece axis shape) 0 (line_count axis shape) (lines axis)
  lines_are axis = filtered (has_piece axis shape) 0 (line_count axis shape)

  abbrev pub no_segment : Segment
  no_segment = record { axis = X; line = 0 }

  abbrev pub as_segment : Axis → ℕ → Segment
  as_segment axis line = record { axis = axis; line = line }

  pub length_along : (axis : Axis) → length (segments_along axis shape) ≡ length (lines axis)
  length_along axis = length-map (lines axis) (as_segment axis)

  rows : ℕ
  rows = length (lines X)

  -- the number is that of a row, or that of a column
  pub data IsNumbered (s : ℕ) : Type 0 where
    of_row : (k : ℕ) → s ≡ k → k < length (lines X) → segment_at shape s ≡ as_segment X (nth (lines X) k) → IsNumbered s
    of_column : (k : ℕ) → s ≡ length (lines X) + k → k < length (lines Y) → segment_at shape s ≡ as_segment Y (nth (lines Y) k) → IsNumbered s

  row_at : (k : ℕ) → k < length (lines X) → segment_at shape k ≡ as_segment X (nth (lines X) k)
  row_at k within =
      let fits = length_along X in
      let inside : k < length (segments_along X shape) = omega (arith, fits, within) in
      get_or_append_left (segments_along X shape) (segments_along Y shape) no_segment k inside ∙
      get_or-map (as_segment X) (lines X) k 0 no_segment within

  column_at : (k : ℕ) → k < length (lines Y) → segment_at shape (length (lines X) + k) ≡ as_segment Y (nth (lines Y) k)
  column_at k within =
      let left : length (lines X) + k - length (lines X) ≡ k = omega arith in
      get_or-append_right (segments_along X shape) (segments_along Y shape) (length (lines X)) (length (lines X) + k) no_segment (length_along X) (omega arith) ∙
      ap (λ (i : ℕ). slice_index_or (segments_along Y shape) i no_segment) left ∙
      get_or-map (as_segment Y) (lines Y) k 0 no_segment within

  pub count_is : segment_count shape ≡ length (lines X) + length (lines Y)
  count_is =
      let both = length-append (segments_along X shape) (segments_along Y shape) in
      let x = length_along X in
      let y = length_along Y in
      omega (arith, both, x, y)

  pub numbered : (s : ℕ) → s < segment_count shape → IsNumbered s
  numbered s within = by_order (cases_lt s (length (lines X)))
    where
      by_order : (s < length (lines X)) ⊎ (length (lines X) ≤ s) → IsNumbered s
      by_order (inl row) = of_row s refl row (row_at s row)
      by_order (inr column) =
          let count = count_is in
          let is : s ≡ length (lines X) + (s - length (lines X)) = omega (arith, column) in
          let inside : s - length (lines X) < length (lines Y) = omega (arith, count, within, column) in
          of_column (s - length (lines X)) is inside (ap (segment_at shape) is ∙ column_at (s - length (lines X)) inside)

  -- what is known of the line of a segment
  pub record IsLineWithPiece (axis : Axis) (line : ℕ) : Type 0 where
    pub below : line < line_count axis shape
    pub some_piece : (i : ℕ) × GoesAlong axis shape i × (line_of axis shape (low_of shape i) ≡ line) × (line_of axis shape (high_of shape i) ≡ line)

  pub line_with_piece : (axis : Axis) (line : ℕ) → Passes (has_piece axis shape) 0 (line_count axis shape) line → IsLineWithPiece axis line
  line_with_piece axis line passes =
      let found = any_range (is_in_line axis shape line) 0 (length shape.plan.pieces) passes.2 in
      let both = and_parts _ _ found.1.2 in
      let goes : GoesAlong axis shape found.0 = record { inside = omega (arith, found.1.1); along = is_axis_same _ _ both.0 } in
      let from = eqb-true _ _ both.1 in
      record { below = omega (arith, passes.1); some_piece = (found.0, goes, line_of_low axis shape found.0 goes ∙ from, line_of_high axis shape found.0 goes ∙ from) }

  -- the line of a segment has a piece
  pub segment_line : (s : ℕ) → s < segment_count shape → IsLineWithPiece (segment_at shape s).axis (segment_at shape s).line
  segment_line s within = by_number (numbered s within)
    where
      by_number : IsNumbered s → IsLineWithPiece (segment_at shape s).axis (segment_at shape s).line
      by_number (of_row k is inside at) =
          subst (λ (segment : Segment). IsLineWithPiece segment.axis segment.line) (sym at) (line_with_piece X _ ((lines_are X).passes k inside))
      by_number (of_column k is inside at) =
          subst (λ (segment : Segment). IsLineWithPiece segment.axis segment.line) (sym at) (line_with_piece Y _ ((lines_are Y).passes k inside))

  -- the segment of this number goes along the axis in this line
  pub record IsSegment (axis : Axis) (line s : ℕ) : Type 0 where
    pub within : s < segment_count shape
    pub along : (segment_at shape s).axis ≡ axis
    pub in_line : (segment_at shape s).line ≡ line

  segment_of_line : (axis : Axis) (line : ℕ) → Passes (has_piece axis shape) 0 (line_count axis shape) line → (s : ℕ) × IsSegment axis line s
  segment_of_line X line passes =
      let found = (lines_are X).all line passes in
      let at = row_at found.0 found.1 in
      let count = count_is in
      (found.0, record { within = omega (arith, count, found.1); along = ap (λ (segment : Segment). segment.axis) at; in_line = ap (λ (segment : Segment). segment.line) at ∙ found.2 })
  segment_of_line Y line passes =
      let found = (lines_are Y).all line passes in
      let at = column_at found.0 found.1 in
      let count = count_is in
      (length (lines X) + found.0, record { within = omega (arith, count, found.1); along = ap (λ (segment : Segment). segment.axis) at; in_line = ap (λ (segment : Segment). segment.line) at ∙ found.2 })

  -- every piece has its segment
  pub segment_of_piece : (axis : Axis) (i : ℕ) → GoesAlong axis shape i → (s : ℕ) × IsSegment axis (line_of axis shape (low_of shape i)) s
  segment_of_piece axis i goes =
      let line = line_of axis shape (low_of shape i) in
      let from = line_of_low axis shape i goes in
      let inside = goes.inside in
      segment_of_line axis line (
        omega arith,
        (let below = line_below axis shape (low_of shape i) (low_is_vertex shape i goes.inside) in omega (arith, below)),
        any_range_at (is_in_line axis shape line) 0 (length shape.plan.pieces) i
            (omega arith, omega (arith, inside), and_from _ _ (is_axis_at _ _ goes.along) (eq-eqb _ _ (sym from))),
      )

  -- segments in order go along different axes or in different lines
  pub segments_differ : (s t : ℕ) → s < t → t < segment_count shape →
      (segment_at shape s).axis ≡ (segment_at shape t).axis → (segment_at shape s).line ≡ (segment_at shape t).line → ⊥
  segments_differ s t less within same_axis same_line = by_numbers (numbered s (omega arith)) (numbered t within)
    where
      by_numbers : IsNumbered s → IsNumbered t → ⊥
      by_numbers (of_row k is inside at) (of_row l is_t inside_t at_t) =
          let first = ap (λ (segment : Segment). segment.line) at in
          let second = ap (λ (segment : Segment). segment.line) at_t in
          let rise = (lines_are X).rise k l (omega (arith, is, is_t, less)) inside_t in
          omega (arith, rise, first, second, same_line)
      by_numbers (of_row k is inside at) (of_column l is_t inside_t at_t) =
          let e : X ≡ Y = sym (ap (λ (segment : Segment). segment.axis) at) ∙ same_axis ∙ ap (λ (segment : Segment). segment.axis) at_t in cc
      by_numbers (of_column k is inside at) (of_row l is_t inside_t at_t) =
          let e : Y ≡ X = sym (ap (λ (segment : Segment). segment.axis) at) ∙ same_axis ∙ ap (λ (segment : Segment). segment.axis) at_t in cc
      by_numbers (of_column k is inside at) (of_column l is_t inside_t at_t) =
          let first = ap (λ (segment : Segment). segment.line) at in
          let second = ap (λ (segment : Segment). segment.line) at_t in
          let rise = (lines_are Y).rise k l (omega (arith, is, is_t, less)) inside_t in
          omega (arith, rise, first, second, same_line)

  -- of two segments across each other the one with the lesser number is the row
  pub row_before_column : (s t : ℕ) → s < t → t < segment_count shape → (segment_at shape s).axis ≡ other_axis (segment_at shape t).axis →
      ((segment_at shape s).axis ≡ X) × ((segment_at shape t).axis ≡ Y)
  row_before_column s t less within across = by_numbers (numbered s (omega arith)) (numbered t within)
    where
      axis_is : (u : ℕ) (axis : Axis) (line : ℕ) → segment_at shape u ≡ as_segment axis line → (segment_at shape u).axis ≡ axis
      axis_is u axis line at = ap (λ (segment : Segment). segment.axis) at

      by_numbers : IsNumbered s → IsNumbered t → ((segment_at shape s).axis ≡ X) × ((segment_at shape t).axis ≡ Y)
      by_numbers (of_row k is inside at) (of_column l is_t inside_t at_t) = (axis_is s X _ at, axis_is t Y _ at_t)
      by_numbers (of_row k is inside at) (of_row l is_t inside_t at_t) =
          let e : X ≡ Y = sym (axis_is s X _ at) ∙ across ∙ ap other_axis (axis_is t X _ at_t) in absurd cc
      by_numbers (of_column k is inside at) (of_column l is_t inside_t at_t) =
          let e : Y ≡ X = sym (axis_is s Y _ at) ∙ across ∙ ap other_axis (axis_is t Y _ at_t) in absurd cc
      by_numbers (of_column k is inside at) (of_row l is_t inside_t at_t) = absurd (omega (arith, is, is_t, less, inside_t))
