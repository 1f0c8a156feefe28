use Rattle.std.proofs.Common.{◌≡◌, ◌-◌, ◌<◌, ◌≤◌, length, slice_index}
use Rattle.diff_flow.specs.inner.Steps.{step_at}
use Rattle.diff_flow.specs.inner.Search.{IsTree, Grows, NoneLacks, AreFollowedFrom}
use Rattle.diff_flow.proofs.search.reach_from.Given as goal

abbrev pub invariant-loop-entry : goal.invariant-loop-entry
invariant-loop-entry l = record {
  most : l.entry ≤ length l.steps.list.items;
  from : 0 < l.entry → (step_at l.steps.list.items (l.entry - 1)).from ≡ l.node;
  place : 0 < slice_index l.tree.places.items l.node;
  tree : IsTree l.steps.nodes l.steps.list.items l.amounts l.numbers l.tree.entries.items l.tree.places.items;
  grows : Grows l.initial.tree.entries.items l.initial.tree.places.items l.tree.entries.items l.tree.places.items;
  none : NoneLacks l.want l.tree.places.items;
  passed : AreFollowedFrom l.steps.list.items l.amounts l.numbers l.tree.places.items l.node l.entry;
}

abbrev pub decreases-loop-entry : goal.decreases-loop-entry
decreases-loop-entry l = l.entry
