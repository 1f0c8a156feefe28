use Rattle.std.proofs.Common.{◌≤◌, length, drop, map}
use Rattle.shape_graphs.specs.Arcs.{arc_at}
use Rattle.reach_rows.specs.Bits.{AreBitsOf}
use Rattle.reach_rows.proofs.adding.take_in_order.Given as goal

abbrev pub invariant-loop-k : goal.invariant-loop-k
invariant-loop-k l = record {
  within : l.k ≤ length l.order;
  bits : AreBitsOf l.words l.bits l.nodes (map (arc_at l.arcs) (drop l.k l.order));
}

abbrev pub decreases-loop-k : goal.decreases-loop-k
decreases-loop-k l = l.k
