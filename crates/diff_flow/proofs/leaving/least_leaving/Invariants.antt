use Rattle.diff_flow.specs.inner.Search.{IsLeastLeaving, IsScannedBefore}
use Rattle.diff_flow.proofs.leaving.least_leaving.Given as goal

abbrev pub invariant-loop-at : goal.invariant-loop-at
invariant-loop-at l =
    IsLeastLeaving (IsScannedBefore l.steps.list.items l.tree.places.items l.at) l.steps.list.items l.numbers l.tree.places.items l.least
