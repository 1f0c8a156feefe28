use Rattle.compact_types.specs.Drawings.{HasWays}
use Rattle.separation.specs.inner.Extents.{AreAtNodes}
use Rattle.separation.proofs.extents.put_coordinates.Given as goal

-- the coordinates are those of the vertices so far
abbrev pub invariant-loop-v : goal.invariant-loop-v
invariant-loop-v l = HasWays l.bars l.places → AreAtNodes l.axis l.bars l.places l.v l.numbers
