use Rattle.std.proofs.Common.{◌*◌}
use Rattle.diff_flow.specs.inner.Surpluses.{BalanceBelow}
use Rattle.diff_flow.proofs.flow.balanced.Given as goal

abbrev pub invariant-loop-block : goal.invariant-loop-block
invariant-loop-block l = BalanceBelow (l.block * 1024) l.graph.nodes l.graph.arcs l.flow.amounts
