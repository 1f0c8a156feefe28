-- The corner of the points so far.
use Rattle.compact_types.specs.inner.Corners.{IsCorner}
use Rattle.compact_types.proofs.shifts.corner_of.Given as goal

abbrev pub invariant-loop-v : goal.invariant-loop-v
invariant-loop-v l = IsCorner l.points l.v l.corner
