-- Right words at every depth: a key is a key, a numeral is a numeral of its kind, and no string has
-- a quote inside.
use Rattle.std.specs.Prelude.{Bool, ◌&&◌, List}
use Rattle.std.specs.List.{list_all}
use Rattle.gml_text.specs.declared.marks.TheConstants.{QUOTE}
use Rattle.gml_text.specs.declared.tree.Tree.{Tree, Tree-F, fold-Tree}
use Rattle.gml_text.specs.declared.tree.Pair.{Pair, Pair-F, fold-Pair}
use Rattle.gml_text.specs.declared.tree.Value.{Value, Value-F, fold-Value}
use Rattle.gml_text.specs.declared.tree.Value.TheOpen.{Whole, Real, Text, Inner}
use Rattle.gml_text.specs.Bytes.{lacks, is_key}
use Rattle.gml_text.specs.Numerals.{is_whole_numeral}
use Rattle.gml_text.specs.NumeralKinds.{is_real_numeral}

-- a value is right by itself, or as the list that it is
abbrev pub value_words_step : Value-F Bool Bool Bool → Bool
value_words_step (Whole word) = is_whole_numeral word
value_words_step (Real word) = is_real_numeral word
value_words_step (Text inside) = lacks QUOTE inside
value_words_step (Inner tree) = tree

-- the key is right, and the value
abbrev pub pair_words_step : Pair-F Bool Bool Bool → Bool
pair_words_step pair = is_key pair.key && pair.value

-- every pair of the list is right
abbrev pub list_words_step : Tree-F Bool Bool Bool → Bool
list_words_step tree = list_all (λ pair. pair) tree.pairs

-- all words of a value are right, of a pair, of a list of pairs, of a tree
abbrev pub value_has_right_words : Value → Bool
value_has_right_words = fold-Value Bool Bool Bool value_words_step pair_words_step list_words_step

abbrev pub pair_has_right_words : Pair → Bool
pair_has_right_words = fold-Pair Bool Bool Bool value_words_step pair_words_step list_words_step

abbrev pub have_right_words : List Pair → Bool
have_right_words pairs = list_all pair_has_right_words pairs

abbrev pub has_right_words : Tree → Bool
has_right_words = fold-Tree Bool Bool Bool value_words_step pair_words_step list_words_step
