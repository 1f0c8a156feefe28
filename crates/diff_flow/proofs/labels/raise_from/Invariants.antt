use Rattle.std.proofs.Common.{◌≡◌, ◌+◌, ◌-◌, ◌<◌, ◌≤◌, length, sum}
use Rattle.diff_flow.specs.inner.Steps.{step_at}
use Rattle.diff_flow.specs.inner.Numbers.{Rises, AreLate}
use Rattle.diff_flow.proofs.labels.raise_from.Given as goal

abbrev pub invariant-loop-entry : goal.invariant-loop-entry
invariant-loop-entry l = record {
  most : l.entry ≤ length l.steps.list.items;
  from : 0 < l.entry → (step_at l.steps.list.items (l.entry - 1)).from ≡ l.node;
  rises : Rises l.steps.nodes l.steps.list.items l.amounts l.limit l.numbers l.waits l.queue.items
      (AreLate l.steps.list.items l.node l.entry);
  shorter : length l.queue.items + sum l.initial.numbers ≤ length l.initial.queue.items + sum l.numbers;
}

abbrev pub decreases-loop-entry : goal.decreases-loop-entry
decreases-loop-entry l = l.entry
