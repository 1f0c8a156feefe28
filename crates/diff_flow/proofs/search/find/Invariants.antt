use Rattle.std.proofs.Common.{◌≡◌, ◌-◌, ◌*◌, ◌<◌, length, slice_index, MatchBool}
use Rattle.diff_flow.specs.inner.Search.{AreFit, entry_at, IsTree, NoneLacks}
use Rattle.diff_flow.proofs.search.find.Given as goal

abbrev pub invariant-loop-found : goal.invariant-loop-found
invariant-loop-found l = record {
  tree : IsTree l.steps.nodes l.steps.list.items l.amounts l.numbers l.tree.entries.items l.tree.places.items;
  fit : AreFit l.steps.nodes ((l.steps.nodes - 1) * l.steps.reach) l.steps.list.items l.amounts l.numbers l.want;
  start : (entry_at l.tree.entries.items 0).node ≡ l.start;
  most : (entry_at l.tree.entries.items 0).room ≡ l.most;
  search : MatchBool l.found
      (0 < slice_index l.want (entry_at l.tree.entries.items (length l.tree.entries.items - 1)).node)
      (NoneLacks l.want l.tree.places.items);
}

abbrev pub decreases-loop-found : goal.decreases-loop-found
decreases-loop-found l = l.steps.nodes - length l.tree.entries.items
