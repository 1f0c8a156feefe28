use Rattle.std.proofs.Common.{◌≡◌, ◌^◌, ◌*◌, pos, ◌*ℤ◌, ◌≤ℤ◌}
use Rattle.compact_types.specs.Sums.{sum_to}
use Rattle.shape_graphs.specs.Arcs.{arc_at}
use Rattle.shape_graphs.specs.Flows.{amount_at}
use Rattle.diff_flow.proofs.flow.bound.Given as goal

abbrev pub invariant-loop-i : goal.invariant-loop-i
invariant-loop-i l = record {
  so_far : l.sum ≡ sum_to (λ i. pos (amount_at l.amounts i) *ℤ (arc_at l.arcs i).least) l.i;
  low : pos 0 ≤ℤ l.sum;
  high : l.sum ≤ℤ pos (2 ^ 60 * l.i);
}
