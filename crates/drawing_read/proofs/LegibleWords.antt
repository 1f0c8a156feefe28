-- The words that the reading asks for, a level at a time; right words are legible.
use Rattle.std.proofs.Common.{◌≡◌, Bool, true, ◌&&◌, List, [], ◌∷◌, refl, sym, ◌∙◌}
use Rattle.std.proofs.lemmas.Bool.{and_from, and_parts}
use Rattle.gml_text.specs.declared.tree.Tree.{Tree, out-Tree, fold_out-Tree}
use Rattle.gml_text.specs.declared.tree.Pair.{Pair, fold_out-Pair}
use Rattle.gml_text.specs.declared.tree.Value.{Value, out-Value, fold_out-Value}
use Rattle.gml_text.specs.declared.tree.Value.TheVariants.{Whole, Real, Text, Inner}
use Rattle.gml_text.specs.Bytes.{is_key}
use Rattle.gml_text.specs.Grammar.{IsReadable}
use Rattle.gml_text.specs.Numerals.{is_whole_numeral}
use Rattle.gml_text.specs.NumeralKinds.{is_numeral}
use Rattle.gml_text.specs.RightWords.{pair_words_step, list_words_step, value_has_right_words, pair_has_right_words, have_right_words, has_right_words}
use Rattle.gml_text.proofs.Laws.{list_all-map, tree_words, pair_words, value_words, EachValue, each_in, is_numeral-real}
use Rattle.drawing_read.specs.Legible.{value_legible_step, value_has_legible_words, pair_has_legible_words, have_legible_words, has_legible_words, IsLegible}

-- the words of a tree are those of its pairs
pub tree_legible : (tree : Tree) → has_legible_words tree ≡ have_legible_words (out-Tree tree).pairs
tree_legible tree =
    fold_out-Tree Bool Bool Bool value_legible_step pair_words_step list_words_step tree
    ∙ list_all-map pair_has_legible_words (out-Tree tree).pairs

-- the words of a pair are its key and those of its value
pub pair_legible : (pair : Pair) → pair_has_legible_words pair ≡ (is_key pair.key && value_has_legible_words pair.value)
pair_legible pair = fold_out-Pair Bool Bool Bool value_legible_step pair_words_step list_words_step pair

-- whether the word of a value can be read, or the words of its tree
abbrev pub has_legible_word : Value → Bool
has_legible_word (Whole word) = is_whole_numeral word
has_legible_word (Real word) = is_numeral word
has_legible_word (Text inside) = true
has_legible_word (Inner tree) = has_legible_words tree

pub value_legible : (value : Value) → value_has_legible_words value ≡ has_legible_word value
unfolding out-Value denote.Hole.Carrier.out
value_legible (Whole word) = fold_out-Value Bool Bool Bool value_legible_step pair_words_step list_words_step (Whole word)
value_legible (Real word) = fold_out-Value Bool Bool Bool value_legible_step pair_words_step list_words_step (Real word)
value_legible (Text inside) = fold_out-Value Bool Bool Bool value_legible_step pair_words_step list_words_step (Text inside)
value_legible (Inner tree) = fold_out-Value Bool Bool Bool value_legible_step pair_words_step list_words_step (Inner tree)

-- the words of the value can be read where they are right
abbrev Reads : Value → Type 0
Reads value = value_has_right_words value ≡ true → value_has_legible_words value ≡ true

pairs_read : (pairs : List Pair) → EachValue Reads pairs → have_right_words pairs ≡ true → have_legible_words pairs ≡ true
pairs_read [] each right = refl
pairs_read (pair ∷ pairs) each right =
    let both = and_parts (pair_has_right_words pair) (have_right_words pairs) right in
    let parts = and_parts (is_key pair.key) (value_has_right_words pair.value) (sym (pair_words pair) ∙ both.0) in
    and_from (pair_has_legible_words pair) (have_legible_words pairs)
    (pair_legible pair ∙ and_from (is_key pair.key) (value_has_legible_words pair.value) parts.0 (each.0 parts.1))
    (pairs_read pairs each.1 both.1)

tree_read : (tree : Tree) → EachValue Reads (out-Tree tree).pairs → has_right_words tree ≡ true → has_legible_words tree ≡ true
tree_read tree each right = tree_legible tree ∙ pairs_read (out-Tree tree).pairs each (sym (tree_words tree) ∙ right)

each_reads : (tree : Tree) → EachValue Reads (out-Tree tree).pairs
each_reads = each_in Reads
    (λ word right. value_legible (Whole word) ∙ (sym (value_words (Whole word)) ∙ right))
    (λ word right. value_legible (Real word) ∙ is_numeral-real word (sym (value_words (Real word)) ∙ right))
    (λ inside right. value_legible (Text inside))
    (λ tree each right. value_legible (Inner tree) ∙ tree_read tree each (sym (value_words (Inner tree)) ∙ right))

-- a tree as it is read from a text can be read as a drawing
pub readable_legible : (tree : Tree) → IsReadable tree → IsLegible tree
readable_legible tree readable = record {
  words = tree_read tree (each_reads tree) readable.grammar.words;
  few = readable.few;
}
