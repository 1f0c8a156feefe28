use Rattle.bars.specs.inner.Tables.{AreNumbered}
use Rattle.bars.proofs.lines.lines_along.Given as goal

abbrev pub invariant-loop-v : goal.invariant-loop-v
invariant-loop-v l = AreNumbered l.fn.axis l.shape l.v l.of.items l.count
