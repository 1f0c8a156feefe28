use Rattle.std.proofs.Common.{◌+◌, ◌-◌, ◌*◌, length, sum}
use Rattle.diff_flow.specs.inner.Numbers.{NoneLate}
use Rattle.diff_flow.specs.inner.Lengthening.{Lengthens, StayBelow}
use Rattle.diff_flow.proofs.lengthen.lengthen_all.Given as goal

abbrev pub invariant-loop-node : goal.invariant-loop-node
invariant-loop-node l = record {
  state : Lengthens l.steps.nodes l.steps.list.items l.limit l.start l.numbers l.waits l.queue.items NoneLate;
  below : StayBelow l.steps.nodes l.steps.list.items l.initial.numbers l.numbers;
}

abbrev pub decreases-loop-node : goal.decreases-loop-node
decreases-loop-node l = length l.queue.items + (l.steps.nodes * l.limit - sum l.numbers)
