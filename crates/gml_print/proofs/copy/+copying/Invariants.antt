use Rattle.std.proofs.Common.{◌≡◌, take}
use Rattle.gml_print.proofs.copy.+copying.Given as goal

abbrev pub invariant-copy_tree-loop-pair : goal.invariant-copy_tree-loop-pair
invariant-copy_tree-loop-pair l = l.pairs ≡ take l.pair-index l.pair-items
