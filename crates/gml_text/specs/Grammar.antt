-- What every tree has that is read from a text.
use Rattle.std.specs.Prelude.{◌≡◌, ◌≤◌, true}
use Rattle.gml_text.specs.declared.limits.TheConstants.{MOST_BYTES, MOST_DEPTH}
use Rattle.gml_text.specs.declared.tree.Tree.{Tree}
use Rattle.gml_text.specs.RightWords.{has_right_words}
use Rattle.gml_text.specs.Depths.{depth_of}
use Rattle.gml_text.specs.PairCounts.{pair_count}

-- the words of the tree are right, and it is no deeper than a tree that is read
pub record IsWithinGrammar (tree : Tree) : Type 0 where
  pub words : has_right_words tree ≡ true
  pub depth : depth_of tree ≤ MOST_DEPTH

-- and it has no more pairs than a text has bytes
pub record IsReadable (tree : Tree) : Type 0 where
  pub grammar : IsWithinGrammar tree
  pub few : pair_count tree ≤ MOST_BYTES
