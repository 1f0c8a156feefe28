use Rattle.separation.proofs.EndLemmas.{AreTurnedTo}
use Rattle.separation.proofs.extents.turn.Given as goal

abbrev pub invariant-loop-k : goal.invariant-loop-k
invariant-loop-k l = AreTurnedTo l.k l.initial.extents l.extents
