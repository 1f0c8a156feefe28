use Rattle.drawing_check.specs.inner.Groups.{AreGroups}
use Rattle.drawing_check.proofs.joined.join_all.Given as goal

abbrev pub invariant-loop-i : goal.invariant-loop-i
invariant-loop-i l = AreGroups l.plan l.i l.leads
