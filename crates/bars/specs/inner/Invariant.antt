-- What the tables of a shape's segments always hold.
use Rattle.std.specs.Prelude.{◌≡◌, ℕ, ◌<◌, ◌≤◌, ◌^◌, ◌==◌, ◌&&◌, Bool, true, false, List}
use Rattle.std.specs.List.{list_any, range_with_len}
use Rattle.compact_types.specs.declared.places.Axis.TheVariants.{X, Y}
use Rattle.compact_types.specs.declared.plan.Shape.{Shape}
use Rattle.bars.specs.declared.lines.Lines.{Lines}
use Rattle.bars.specs.declared.spans.SegmentSpan.{SegmentSpan}
use Rattle.bars.specs.Lines.{is_axis, row_of, column_of}
use Rattle.bars.specs.Segments.{segment_count, segment_at}
use Rattle.bars.specs.Solutions.{IsSound}
use Rattle.bars.specs.inner.Crossings.{AreCrossings}
use Rattle.bars.specs.inner.Spans.{AreSpans}
use Rattle.bars.specs.inner.Tables.{AreLines}

-- the tables are those of the shape, and the first of its segments are rows
pub record AreTables (shape : Shape) (rows columns : Lines) (spans : List SegmentSpan) (row_segments : ℕ) (crossings : List Bool) : Type 0 where
  pub sound : IsSound shape
  pub in_rows : AreLines X shape rows
  pub in_columns : AreLines Y shape columns
  pub of_segments : AreSpans shape spans
  pub few : segment_count shape < 2 ^ 32
  pub row : (s : ℕ) → s < row_segments → is_axis (segment_at shape s).axis X ≡ true
  pub column : (s : ℕ) → row_segments ≤ s → s < segment_count shape → is_axis (segment_at shape s).axis X ≡ false
  pub of_crossings : AreCrossings rows columns shape.plan.vertices crossings

-- whether a vertex is in the row and in the column
abbrev pub do_cross : Shape → ℕ → ℕ → Bool
do_cross shape row column =
    list_any (λ v. (row_of shape v == row) && (column_of shape v == column)) (range_with_len 0 shape.plan.vertices)
