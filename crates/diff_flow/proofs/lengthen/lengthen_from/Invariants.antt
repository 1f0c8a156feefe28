use Rattle.std.proofs.Common.{◌≡◌, ◌-◌, ◌<◌, ◌≤◌, length}
use Rattle.diff_flow.specs.inner.Steps.{step_at}
use Rattle.diff_flow.specs.inner.Numbers.{AreLate}
use Rattle.diff_flow.specs.inner.Lengthening.{AreLengthened}
use Rattle.diff_flow.proofs.lengthen.lengthen_from.Given as goal

abbrev pub invariant-loop-entry : goal.invariant-loop-entry
invariant-loop-entry l = record {
  most : l.entry ≤ length l.steps.list.items;
  from : 0 < l.entry → (step_at l.steps.list.items (l.entry - 1)).from ≡ l.node;
  lengthened : AreLengthened l.steps.nodes l.steps.list.items l.limit l.start l.node l.initial.numbers l.initial.queue.items
      l.numbers l.waits l.queue.items (AreLate l.steps.list.items l.node l.entry);
}

abbrev pub decreases-loop-entry : goal.decreases-loop-entry
decreases-loop-entry l = l.entry
