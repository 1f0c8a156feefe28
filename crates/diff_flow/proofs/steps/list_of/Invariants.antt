use Rattle.std.proofs.Common.{take}
use Rattle.diff_flow.specs.inner.Steps.{AreStepsOf}
use Rattle.diff_flow.proofs.steps.list_of.Given as goal

abbrev pub invariant-loop-i : goal.invariant-loop-i
invariant-loop-i l = AreStepsOf (take l.i l.arcs) l.list.items
