use Rattle.diff_flow.specs.inner.Steps.{AreRows}
use Rattle.diff_flow.proofs.steps.rows_of.Given as goal

abbrev pub invariant-loop-k : goal.invariant-loop-k
invariant-loop-k l = AreRows l.nodes l.k l.list l.last.items l.before.items
