use Rattle.reach_rows.specs.inner.Buckets.{AreFirstIn}
use Rattle.reach_rows.proofs.buckets.buckets_of.Given as goal

abbrev pub invariant-loop-i : goal.invariant-loop-i
invariant-loop-i l = AreFirstIn l.i l.arcs l.numbers l.last.items l.before.items
