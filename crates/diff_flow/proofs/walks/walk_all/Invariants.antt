use Rattle.diff_flow.specs.inner.Numbers.{AreWalked}
use Rattle.diff_flow.proofs.walks.walk_all.Given as goal

abbrev pub invariant-loop-at : goal.invariant-loop-at
invariant-loop-at l = AreWalked l.steps.nodes l.steps.list.items l.limit l.order l.at l.numbers
