use Rattle.std.proofs.Common.{◌≡◌, ◌-◌, ◌<◌, ◌≤◌, ℕ, length}
use Rattle.diff_flow.specs.inner.Steps.{step_at}
use Rattle.diff_flow.specs.inner.Search.{IsLeastLeaving, IsScanned, IsScannedBefore}
use Rattle.diff_flow.proofs.leaving.lesser_from.Given as goal

abbrev pub invariant-loop-entry : goal.invariant-loop-entry
invariant-loop-entry l = record {
  most : l.entry ≤ length l.steps.list.items;
  from : 0 < l.entry → (step_at l.steps.list.items (l.entry - 1)).from ≡ l.node;
  least : (at : ℕ) →
      IsLeastLeaving (IsScannedBefore l.steps.list.items l.places at) l.steps.list.items l.numbers l.places l.fn.least →
      IsLeastLeaving (IsScanned l.steps.list.items l.places at l.node l.entry) l.steps.list.items l.numbers l.places l.lesser;
}

abbrev pub decreases-loop-entry : goal.decreases-loop-entry
decreases-loop-entry l = l.entry
