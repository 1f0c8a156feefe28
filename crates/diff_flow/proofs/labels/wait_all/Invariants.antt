use Rattle.std.proofs.Common.{◌-◌, ◌*◌}
use Rattle.diff_flow.specs.inner.Numbers.{Rises, IsAtLeast}
use Rattle.diff_flow.proofs.labels.wait_all.Given as goal

abbrev pub invariant-loop-i : goal.invariant-loop-i
invariant-loop-i l =
    Rises l.steps.nodes l.steps.list.items l.amounts ((l.steps.nodes - 1) * l.steps.reach) l.walks l.waits l.queue.items
    (IsAtLeast l.i)
