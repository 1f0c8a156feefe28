use Rattle.separation.specs.inner.Extents.{ArePut}
use Rattle.separation.proofs.extents.put_extents.Given as goal

abbrev pub invariant-loop-s : goal.invariant-loop-s
invariant-loop-s l = ArePut l.bars l.places l.s l.extents
