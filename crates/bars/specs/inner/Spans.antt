-- How far each segment reaches, as the table has it.
use Rattle.std.specs.Prelude.{◌≡◌, ℕ, ◌<◌, List, map, length, slice_index_or}
use Rattle.std.specs.List.{filter, range_with_len}
use Rattle.compact_types.specs.declared.places.Axis.{Axis}
use Rattle.compact_types.specs.declared.plan.Shape.{Shape}
use Rattle.bars.specs.declared.spans.SegmentSpan.{SegmentSpan}
use Rattle.bars.specs.Lines.{line_count}
use Rattle.bars.specs.Segments.{has_piece, first_vertex, last_vertex, node_of, segment_count, segment_at}

-- the span of a line along the axis
abbrev pub segment_span : Axis → Shape → ℕ → SegmentSpan
segment_span axis shape line = record {
  line = line;
  first = node_of axis shape (first_vertex axis shape line);
  last = node_of axis shape (last_vertex axis shape line);
}

-- the spans of the lines below n that have a piece
abbrev pub spans_below : Axis → Shape → ℕ → List SegmentSpan
spans_below axis shape n = map (segment_span axis shape) (filter (has_piece axis shape) (range_with_len 0 n))

-- the spans of the segments along an axis
abbrev pub spans_along : Axis → Shape → List SegmentSpan
spans_along axis shape = spans_below axis shape (line_count axis shape)

-- the span of segment s
abbrev pub span_at : List SegmentSpan → ℕ → SegmentSpan
span_at spans s = slice_index_or spans s (record { line = 0; first = 0; last = 0 })

-- the list has the span of each segment
pub record AreSpans (shape : Shape) (spans : List SegmentSpan) : Type 0 where
  pub one_for_each : length spans ≡ segment_count shape
  pub each : (s : ℕ) → s < segment_count shape →
      span_at spans s ≡ segment_span (segment_at shape s).axis shape (segment_at shape s).line
