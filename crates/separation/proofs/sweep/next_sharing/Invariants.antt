use Rattle.std.proofs.Common.{◌-◌, length}
use Rattle.compact_types.specs.declared.places.Axis.{Axis}
use Rattle.compact_types.specs.declared.places.Places.{Places}
use Rattle.compact_types.specs.Drawings.{HasWays}
use Rattle.bars.specs.Solutions.{HasDrawing}
use Rattle.separation.specs.inner.Extents.{AreExtentsAlong, BeginInOrder}
use Rattle.separation.specs.inner.Sweeps.{IsNotBefore, IsSwept, ShareBefore}
use Rattle.separation.proofs.sweep.next_sharing.Given as goal

-- none of the pairs so far shares a point, but those before the position where the sweep began
abbrev pub invariant-loop-at : goal.invariant-loop-at
invariant-loop-at l = record {
  order : IsNotBefore l.fn.from l.at;
  none : (axis : Axis) (places : Places) → HasDrawing l.bars → HasWays l.bars places → AreExtentsAlong axis l.bars places l.extents → BeginInOrder l.extents →
      ShareBefore l.bars places (IsSwept l.extents l.at) (IsSwept l.extents l.fn.from);
}

abbrev pub decreases-loop-at : goal.decreases-loop-at
decreases-loop-at l = length l.extents - l.at.first
