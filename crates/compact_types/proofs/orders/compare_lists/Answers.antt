use Rattle.std.proofs.Common.{arith}
use Rattle.compact_types.proofs.CompareLemmas.{decided_by_point, same_points}
use Rattle.compact_types.proofs.orders.compare_lists.Goals as goal

pub returns-in_default : goal.returns-in_default
returns-in_default c =
    decided_by_point c.compare_points.result c.args.a.now c.args.b.now c.loop-i.i c.loop-i-test.true c.requires c.loop-i.invariant
    c.compare_points.ensures c.in_default.not-Equal

pub returns : goal.returns
returns c = same_points c.args.a.now c.args.b.now c.loop-i.i (omega arith) c.requires c.loop-i.invariant
