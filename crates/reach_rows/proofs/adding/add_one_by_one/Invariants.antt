use Rattle.std.proofs.Common.{take}
use Rattle.reach_rows.specs.Bits.{AreBitsOf}
use Rattle.reach_rows.proofs.adding.add_one_by_one.Given as goal

abbrev pub invariant-loop-i : goal.invariant-loop-i
invariant-loop-i l = AreBitsOf l.words l.bits l.nodes (take l.i l.arcs)
