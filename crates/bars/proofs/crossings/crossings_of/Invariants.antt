use Rattle.bars.specs.inner.Crossings.{AreCrossings}
use Rattle.bars.proofs.crossings.crossings_of.Given as goal

abbrev pub invariant-loop-v : goal.invariant-loop-v
invariant-loop-v l = AreCrossings l.rows l.columns l.v l.marks
