use Rattle.std.proofs.Common.{◌≡◌}
use Rattle.diff_flow.proofs.TreeLemmas.{AreCleared}
use Rattle.diff_flow.proofs.tree.clear.Given as goal

abbrev pub invariant-loop-at : goal.invariant-loop-at
invariant-loop-at l = record {
  entries : l.tree.entries.items ≡ l.initial.tree.entries.items;
  cleared : AreCleared l.nodes l.initial.tree.entries.items l.initial.tree.places.items l.tree.places.items l.at;
}
