use Rattle.std.proofs.Common.{◌+◌, ◌-◌, ◌*◌, length, sum}
use Rattle.diff_flow.specs.inner.Numbers.{Rises, NoneLate}
use Rattle.diff_flow.proofs.labels.settle.Given as goal

abbrev pub invariant-loop-node : goal.invariant-loop-node
invariant-loop-node l =
    Rises l.steps.nodes l.steps.list.items l.amounts l.limit l.numbers l.waits l.queue.items NoneLate

abbrev pub decreases-loop-node : goal.decreases-loop-node
decreases-loop-node l = length l.queue.items + (l.steps.nodes * l.limit - sum l.numbers)
