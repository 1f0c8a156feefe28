use Rattle.std.proofs.Common.{◌-◌, ◌≤◌, length}
use Rattle.diff_flow.specs.inner.Search.{IsTree, Grows, NoneLacks, AreFollowed}
use Rattle.diff_flow.proofs.search.spread.Given as goal

abbrev pub invariant-loop-at : goal.invariant-loop-at
invariant-loop-at l = record {
  tree : IsTree l.steps.nodes l.steps.list.items l.amounts l.numbers l.tree.entries.items l.tree.places.items;
  grows : Grows l.initial.tree.entries.items l.initial.tree.places.items l.tree.entries.items l.tree.places.items;
  none : NoneLacks l.want l.tree.places.items;
  within : l.at ≤ length l.tree.entries.items;
  passed : AreFollowed l.steps.list.items l.amounts l.numbers l.tree.entries.items l.tree.places.items l.at;
}

abbrev pub decreases-loop-at : goal.decreases-loop-at
decreases-loop-at l = l.steps.nodes - l.at
