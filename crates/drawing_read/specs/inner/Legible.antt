-- Pairs and lists as they stand in legible trees: their words can be read, and they are few.
use Rattle.std.specs.Prelude.{◌≡◌, ℕ, ◌≤◌, true, List}
use Rattle.gml_text.specs.declared.limits.TheConstants.{MOST_BYTES}
use Rattle.gml_text.specs.declared.tree.Pair.{Pair}
use Rattle.gml_text.specs.PairCounts.{count_in_pair, count_in_pairs}
use Rattle.drawing_read.specs.Legible.{pair_has_legible_words, have_legible_words}

-- the most pairs of a legible tree
abbrev pub most_pairs : ℕ
most_pairs = MOST_BYTES

-- a pair as it stands in a legible tree
pub record IsLegiblePair (pair : Pair) : Type 0 where
  pub words : pair_has_legible_words pair ≡ true
  pub few : count_in_pair pair ≤ most_pairs

-- pairs as they stand in a list of such a tree
pub record AreLegible (pairs : List Pair) : Type 0 where
  pub words : have_legible_words pairs ≡ true
  pub few : count_in_pairs pairs ≤ most_pairs
