use Rattle.compact_types.specs.declared.places.Axis.{Axis}
use Rattle.compact_types.specs.declared.places.Places.{Places}
use Rattle.compact_types.specs.Drawings.{HasWays}
use Rattle.bars.specs.Solutions.{HasDrawing}
use Rattle.separation.specs.inner.Extents.{AreExtentsAlong, BeginInOrder}
use Rattle.separation.specs.inner.Sweeps.{IsSeenWith, ShareBefore}
use Rattle.separation.proofs.sweep.next_in_row.Given as goal

-- none of the pairs so far shares a point, but those before the position
abbrev pub invariant-loop-j : goal.invariant-loop-j
invariant-loop-j l =
    (axis : Axis) (places : Places) → HasDrawing l.bars → HasWays l.bars places → AreExtentsAlong axis l.bars places l.extents → BeginInOrder l.extents →
    ShareBefore l.bars places (IsSeenWith l.extents l.from.first l.j) (IsSeenWith l.extents l.from.first l.from.second)
