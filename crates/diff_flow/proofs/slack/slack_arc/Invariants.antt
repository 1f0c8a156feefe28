use Rattle.std.proofs.Common.{◌+◌, ◌<◌, ◌≤◌, ℕ}
use Rattle.shape_graphs.specs.Flows.{amount_at}
use Rattle.diff_flow.specs.inner.Steps.{along_at}
use Rattle.diff_flow.specs.inner.Numbers.{height}
use Rattle.diff_flow.proofs.slack.slack_arc.Given as goal

abbrev pub invariant-loop-i : goal.invariant-loop-i
invariant-loop-i l = (k : ℕ) → k < l.i → 0 < amount_at l.amounts k →
    height l.numbers (along_at l.steps.list.items k).to ≤ height l.numbers (along_at l.steps.list.items k).from + (along_at l.steps.list.items k).up
