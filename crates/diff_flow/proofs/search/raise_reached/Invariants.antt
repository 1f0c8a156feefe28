use Rattle.diff_flow.proofs.TreeLemmas.{AreRaised}
use Rattle.diff_flow.proofs.search.raise_reached.Given as goal

abbrev pub invariant-loop-at : goal.invariant-loop-at
invariant-loop-at l = AreRaised l.tree.places.items l.initial.numbers l.numbers l.by l.at
