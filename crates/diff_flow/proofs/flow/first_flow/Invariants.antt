use Rattle.std.proofs.Common.{◌≡◌, ℕ, ◌<◌, ◌≤◌, pos, length}
use Rattle.shape_graphs.specs.Arcs.{arc_at}
use Rattle.shape_graphs.specs.Flows.{amount_at}
use Rattle.shape_graphs.specs.declared.graph.TheConstants.{MOST_AMOUNT}
use Rattle.diff_flow.proofs.flow.first_flow.Given as goal

abbrev pub invariant-loop-i : goal.invariant-loop-i
invariant-loop-i l = record {
  one_for_each : length l.amounts.items ≡ l.i;
  each : (k : ℕ) → k < l.i → pos (amount_at l.amounts.items k) ≡ (arc_at l.arcs k).pull;
  most : (k : ℕ) → k < l.i → amount_at l.amounts.items k ≤ MOST_AMOUNT;
}
