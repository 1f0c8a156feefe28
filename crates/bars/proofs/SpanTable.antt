-- The spans of the segments, as they are added.
use Rattle.std.proofs.Common.{◌≡◌, ℕ, suc, ◌+◌, ◌-◌, ◌<◌, Bool, true, false, List, [], ◌∷◌, ◌++◌, map, length, slice_index, if◌then◌else◌, sym, ap, ◌∙◌, arith, append_assoc, append-nil, length-append}
use Rattle.std.specs.List.{filter, range_with_len}
use Rattle.std.proofs.lemmas.Bool.{cond-true, cond-false}
use Rattle.std.proofs.lemmas.List.{length-map, get_or-map, get_or-append_right, get_or_append_left, map-append}
use Rattle.std.proofs.lemmas.List.Elements.{filter-append}
use Rattle.compact_types.specs.declared.places.Axis.{Axis}
use Rattle.compact_types.specs.declared.places.Axis.TheVariants.{X, Y}
use Rattle.compact_types.specs.declared.plan.Shape.{Shape}
use Rattle.compact_types.specs.Lookups.{other_axis}
use Rattle.bars.specs.declared.lines.Lines.{Lines}
use Rattle.bars.specs.declared.marks.LineEnds.{LineEnds}
use Rattle.bars.specs.declared.spans.SegmentSpan.{SegmentSpan}
use Rattle.bars.specs.Lines.{line_count}
use Rattle.bars.specs.Segments.{Segment, has_piece, first_vertex, last_vertex, segment_at}
use Rattle.bars.specs.inner.Marks.{AreLineEnds}
use Rattle.bars.specs.inner.Spans.{segment_span, spans_below, spans_along, span_at, AreSpans}
use Rattle.bars.specs.inner.Tables.{AreLines}
use Rattle.compact_types.proofs.Laws.{range_push}
use Rattle.bars.proofs.RangeSearches.{found_below}
use Rattle.bars.proofs.SegmentLists.{lines, IsNumbered, numbered, count_is}
use Rattle.bars.proofs.SegmentLists.IsNumbered.{of_row, of_column}

-- one line more, where it has a piece
spans_more : (axis : Axis) (shape : Shape) (n : ℕ) (has : Bool) → has ≡ has_piece axis shape n →
    spans_below axis shape (n + 1) ≡ (if has then spans_below axis shape n ++ segment_span axis shape n ∷ [] else spans_below axis shape n)
spans_more axis shape n has is =
    let next : n + 1 ≡ suc n = omega arith in
    let from : 0 + n ≡ n = omega arith in
    let test = has_piece axis shape in
    let below = range_with_len 0 n in
    ap (λ (m : ℕ). spans_below axis shape m) next
    ∙ ap (λ (l : List ℕ). map (segment_span axis shape) (filter test l)) (range_push 0 n ∙ ap (λ (x : ℕ). below ++ x ∷ []) from)
    ∙ ap (map (segment_span axis shape)) (filter-append test below (n ∷ []))
    ∙ map-append (segment_span axis shape) (filter test below) (filter test (n ∷ []))
    ∙ by_test has (filter-one has is)
  where
    filter-one : (b : Bool) → b ≡ has_piece axis shape n → filter (has_piece axis shape) (n ∷ []) ≡ (if b then n ∷ [] else [])
    filter-one true holds = cond-true _ _ _ (sym holds)
    filter-one false fails = cond-false _ _ _ (sym fails)

    by_test : (b : Bool) → filter (has_piece axis shape) (n ∷ []) ≡ (if b then n ∷ [] else []) →
        map (segment_span axis shape) (filter (has_piece axis shape) (range_with_len 0 n)) ++ map (segment_span axis shape) (filter (has_piece axis shape) (n ∷ []))
        ≡ (if b then spans_below axis shape n ++ segment_span axis shape n ∷ [] else spans_below axis shape n)
    by_test true holds = ap (λ (l : List ℕ). spans_below axis shape n ++ map (segment_span axis shape) l) holds
    by_test false fails = ap (λ (l : List ℕ). spans_below axis shape n ++ map (segment_span axis shape) l) fails ∙ append-nil (spans_below axis shape n)

pub first_below : (axis : Axis) (shape : Shape) (line : ℕ) → 0 < shape.plan.vertices → first_vertex axis shape line < shape.plan.vertices
first_below axis shape line some = found_below _ 0 shape.plan.vertices shape.plan.vertices some (omega arith)

pub last_below : (axis : Axis) (shape : Shape) (line : ℕ) → 0 < shape.plan.vertices → last_vertex axis shape line < shape.plan.vertices
last_below axis shape line some = found_below _ 0 shape.plan.vertices shape.plan.vertices some (omega arith)

module _ (axis : Axis) (shape : Shape) (ends : LineEnds) (across : Lines) (are : AreLineEnds axis shape ends) (are_across : AreLines (other_axis axis) shape across)
    (some : 0 < shape.plan.vertices) where
  -- the end vertices of a line, as they are read
  pub first_read : (firsts : List ℕ) → firsts ≡ ends.first.items → (line : ℕ) → line < line_count axis shape → slice_index firsts line ≡ first_vertex axis shape line
  first_read firsts is line within = ap (λ (l : List ℕ). slice_index l line) is ∙ are.first line within

  pub last_read : (lasts : List ℕ) → lasts ≡ ends.last.items → (line : ℕ) → line < line_count axis shape → slice_index lasts line ≡ last_vertex axis shape line
  last_read lasts is line within = ap (λ (l : List ℕ). slice_index l line) is ∙ are.last line within

  -- the span that is read is that of the line
  pub span_read : (span : SegmentSpan) (firsts lasts nodes : List ℕ) (line : ℕ) → firsts ≡ ends.first.items → lasts ≡ ends.last.items → nodes ≡ across.of.items →
      line < line_count axis shape → span.line ≡ line → span.first ≡ slice_index nodes (slice_index firsts line) → span.last ≡ slice_index nodes (slice_index lasts line) →
      span ≡ segment_span axis shape line
  span_read span firsts lasts nodes line is_firsts is_lasts is_nodes within is_line is_first is_last =
      same_span _ _ is_line
      (is_first ∙ ap (λ (l : List ℕ). slice_index l (slice_index firsts line)) is_nodes ∙ ap (slice_index across.of.items) (first_read firsts is_firsts line within)
      ∙ are_across.each _ (first_below axis shape line some))
      (is_last ∙ ap (λ (l : List ℕ). slice_index l (slice_index lasts line)) is_nodes ∙ ap (slice_index across.of.items) (last_read lasts is_lasts line within)
      ∙ are_across.each _ (last_below axis shape line some))
    where
      same_span : (a b : SegmentSpan) → a.line ≡ b.line → a.first ≡ b.first → a.last ≡ b.last → a ≡ b
      same_span a b line first last = λ i. record { line = line i; first = first i; last = last i }

-- one span more behind those that were there
pub added_more : (axis : Axis) (shape : Shape) (n : ℕ) (before spans more : List SegmentSpan) (span : SegmentSpan) (has : Bool) → has ≡ has_piece axis shape n →
    span ≡ segment_span axis shape n → spans ≡ before ++ spans_below axis shape n → more ≡ (if has then spans ++ span ∷ [] else spans) →
    more ≡ before ++ spans_below axis shape (n + 1)
added_more axis shape n before spans more span true is_true is_span is more_is =
    more_is ∙ ap (λ (l : List SegmentSpan). l ++ span ∷ []) is ∙ ap (λ (x : SegmentSpan). (before ++ spans_below axis shape n) ++ x ∷ []) is_span
    ∙ append_assoc before (spans_below axis shape n) (segment_span axis shape n ∷ []) ∙ ap (λ (l : List SegmentSpan). before ++ l) (sym (spans_more axis shape n true is_true))
added_more axis shape n before spans more span false is_false is_span is more_is =
    more_is ∙ is ∙ ap (λ (l : List SegmentSpan). before ++ l) (sym (spans_more axis shape n false is_false))

-- the spans of rows and of columns are those of all segments
pub all_spans : (shape : Shape) (spans : List SegmentSpan) → spans ≡ spans_along X shape ++ spans_along Y shape → AreSpans shape spans
all_spans shape spans is = record {
  one_for_each =
      let both = length-append (spans_along X shape) (spans_along Y shape) in
      let x = length-map (lines shape X) (segment_span X shape) in
      let y = length-map (lines shape Y) (segment_span Y shape) in
      let count = count_is shape in
      let all = ap length is in
      omega (arith, both, x, y, count, all);
  each = λ s within. ap (λ (l : List SegmentSpan). span_at l s) is ∙ by_number s (numbered shape s within);
}
  where
    by_number : (s : ℕ) → IsNumbered shape s → span_at (spans_along X shape ++ spans_along Y shape) s ≡ segment_span (segment_at shape s).axis shape (segment_at shape s).line
    by_number s (of_row k is_k inside at) =
        let fits = length-map (lines shape X) (segment_span X shape) in
        ap (span_at (spans_along X shape ++ spans_along Y shape)) is_k
        ∙ get_or_append_left (spans_along X shape) (spans_along Y shape) _ k (omega (arith, fits, inside))
        ∙ get_or-map (segment_span X shape) (lines shape X) k 0 _ inside
        ∙ sym (ap (λ (segment : Segment). segment_span segment.axis shape segment.line) at)
    by_number s (of_column k is_k inside at) =
        let fits = length-map (lines shape X) (segment_span X shape) in
        let left : length (lines shape X) + k - length (lines shape X) ≡ k = omega arith in
        ap (span_at (spans_along X shape ++ spans_along Y shape)) is_k
        ∙ get_or-append_right (spans_along X shape) (spans_along Y shape) (length (lines shape X)) (length (lines shape X) + k) _ fits (omega arith)
        ∙ ap (λ (i : ℕ). span_at (spans_along Y shape) i) left
        ∙ get_or-map (segment_span Y shape) (lines shape Y) k 0 _ inside
        ∙ sym (ap (λ (segment : Segment). segment_span segment.axis shape segment.line) at)
