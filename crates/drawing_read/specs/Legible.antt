-- Trees that can be read as drawings: at every depth a key is a key and a numeral is a numeral, and
-- the pairs are few. Nothing is asked of the depth, nor of the inside of a string.
use Rattle.std.specs.Prelude.{◌≡◌, ◌≤◌, Bool, true, List}
use Rattle.std.specs.List.{list_all}
use Rattle.gml_text.specs.declared.limits.TheConstants.{MOST_BYTES}
use Rattle.gml_text.specs.declared.tree.Tree.{Tree, fold-Tree}
use Rattle.gml_text.specs.declared.tree.Pair.{Pair, fold-Pair}
use Rattle.gml_text.specs.declared.tree.Value.{Value, Value-F, fold-Value}
use Rattle.gml_text.specs.declared.tree.Value.TheOpen.{Whole, Real, Text, Inner}
use Rattle.gml_text.specs.Numerals.{is_whole_numeral}
use Rattle.gml_text.specs.NumeralKinds.{is_numeral}
use Rattle.gml_text.specs.PairCounts.{pair_count}
use Rattle.gml_text.specs.RightWords.{pair_words_step, list_words_step}

-- a whole numeral is one, any other number is a numeral of either kind, and a list has what its
-- pairs have
abbrev pub value_legible_step : Value-F Bool Bool Bool → Bool
value_legible_step (Whole word) = is_whole_numeral word
value_legible_step (Real word) = is_numeral word
value_legible_step (Text inside) = true
value_legible_step (Inner tree) = tree

-- the words of a value can be read, of a pair, of a list of pairs, of a tree: each key is a key,
-- and each value as above
abbrev pub value_has_legible_words : Value → Bool
value_has_legible_words = fold-Value Bool Bool Bool value_legible_step pair_words_step
    list_words_step

abbrev pub pair_has_legible_words : Pair → Bool
pair_has_legible_words = fold-Pair Bool Bool Bool value_legible_step pair_words_step list_words_step

abbrev pub have_legible_words : List Pair → Bool
have_legible_words pairs = list_all pair_has_legible_words pairs

abbrev pub has_legible_words : Tree → Bool
has_legible_words = fold-Tree Bool Bool Bool value_legible_step pair_words_step list_words_step

-- what the reading of a drawing asks of a tree
pub record IsLegible (tree : Tree) : Type 0 where
  -- at every depth each key is a key and each numeral is a numeral
  pub words : has_legible_words tree ≡ true
  -- it has no more pairs, at all depths together, than the longest text has bytes
  pub few : pair_count tree ≤ MOST_BYTES
