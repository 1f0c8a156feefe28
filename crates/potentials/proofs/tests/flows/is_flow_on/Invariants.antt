use Rattle.std.proofs.Common.{ℕ, ◌<◌, ◌≤◌}
use Rattle.shape_graphs.specs.Flows.{amount_at}
use Rattle.shape_graphs.specs.declared.graph.TheConstants.{MOST_AMOUNT}
use Rattle.potentials.proofs.tests.flows.is_flow_on.Given as goal

abbrev pub invariant-loop-i : goal.invariant-loop-i
invariant-loop-i l = (k : ℕ) → k < l.i → amount_at l.amounts k ≤ MOST_AMOUNT
