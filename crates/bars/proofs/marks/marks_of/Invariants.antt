use Rattle.compact_types.specs.Axes.{low_end, high_end}
use Rattle.compact_types.specs.Lookups.{piece_at, way_at}
use Rattle.bars.specs.Lines.{is_along, line_of}
use Rattle.bars.specs.inner.Marks.{AreMarked}
use Rattle.bars.proofs.marks.marks_of.Given as goal

abbrev pub invariant-loop-i : goal.invariant-loop-i
invariant-loop-i l = record {
  lines : AreMarked (is_along l.axis l.shape) (λ i. line_of l.axis l.shape (piece_at l.shape.plan.pieces i).from) l.i l.marked_lines;
  before : AreMarked (is_along l.axis l.shape) (λ i. high_end (way_at l.shape.ways i) (piece_at l.shape.plan.pieces i)) l.i l.marked_before;
  after : AreMarked (is_along l.axis l.shape) (λ i. low_end (way_at l.shape.ways i) (piece_at l.shape.plan.pieces i)) l.i l.marked_after;
}
