-- What a legible list says of its pairs, and a legible pair of its value.
use Rattle.std.proofs.Common.{◌≡◌, ℕ, zero, suc, ◌<◌, ◌≤◌, true, List, [], ◌∷◌, length, get_or, sym, ap, ◌∙◌, subst, ◌⊎◌, ⊎_elim, arith}
use Rattle.std.proofs.lemmas.List.Sums.{get_or-le-sum_by, sum_by-cons}
use Rattle.std.proofs.lemmas.Bool.{and_parts}
use Rattle.gml_text.specs.declared.tree.Tree.{Tree, out-Tree}
use Rattle.gml_text.specs.declared.tree.Pair.{Pair}
use Rattle.gml_text.specs.declared.tree.Value.TheVariants.{Whole, Real, Inner}
use Rattle.gml_text.specs.Bytes.{is_key}
use Rattle.gml_text.specs.Numerals.{is_whole_numeral}
use Rattle.gml_text.specs.NumeralKinds.{is_numeral}
use Rattle.gml_text.specs.PairCounts.{count_in_value, count_in_pair, count_in_pairs, pair_count}
use Rattle.gml_text.proofs.Laws.{tree_count, pair_with_value, value_count, is_numeral-whole}
use Rattle.drawing_read.specs.Legible.{value_has_legible_words, pair_has_legible_words, have_legible_words, IsLegible}
use Rattle.drawing_read.specs.inner.Legible.{most_pairs, IsLegiblePair, AreLegible}
use Rattle.drawing_read.proofs.LegibleWords.{tree_legible, pair_legible, value_legible}

-- the list of a legible tree is legible
pub legible_tree : (tree : Tree) → IsLegible tree → AreLegible (out-Tree tree).pairs
legible_tree tree legible = record {
  words = sym (tree_legible tree) ∙ legible.words;
  few = subst (λ n. n ≤ most_pairs) (tree_count tree) legible.few;
}

legible_value : (pair : Pair) → IsLegiblePair pair → value_has_legible_words pair.value ≡ true
legible_value pair legible = (and_parts (is_key pair.key) (value_has_legible_words pair.value) (sym (pair_legible pair) ∙ legible.words)).1

-- the list of a legible pair is legible
pub legible_list : (pair : Pair) (tree : Tree) → pair.value ≡ Inner tree → IsLegiblePair pair → AreLegible (out-Tree tree).pairs
legible_list pair tree is legible = record {
  words = sym (tree_legible tree) ∙ sym (value_legible (Inner tree)) ∙ ap value_has_legible_words (sym is) ∙ legible_value pair legible;
  few =
      let e : count_in_value pair.value ≡ pair_count tree = ap count_in_value is ∙ value_count (Inner tree) in
      let few : pair_count tree ≤ most_pairs = omega (arith, pair_with_value pair, legible.few) in
      subst (λ n. n ≤ most_pairs) (tree_count tree) few;
}

-- the word of a legible pair's whole numeral is one
pub whole_word : (pair : Pair) (word : List ℕ) → pair.value ≡ Whole word → IsLegiblePair pair → is_whole_numeral word ≡ true
whole_word pair word is legible = sym (value_legible (Whole word)) ∙ ap value_has_legible_words (sym is) ∙ legible_value pair legible

-- the word of a legible pair's numeral is one
pub numeral_word : (pair : Pair) (word : List ℕ) → (pair.value ≡ Whole word) ⊎ (pair.value ≡ Real word) → IsLegiblePair pair → is_numeral word ≡ true
numeral_word pair word is legible = ⊎_elim
    (λ whole. is_numeral-whole word (whole_word pair word whole legible))
    (λ real. sym (value_legible (Real word)) ∙ ap value_has_legible_words (sym real) ∙ legible_value pair legible) is

-- each pair of a legible list is legible
pub legible_at : (pairs : List Pair) (i : ℕ) (pair : Pair) → AreLegible pairs → i < length pairs → pair ≡ get_or pairs i pair → IsLegiblePair pair
legible_at pairs i pair legible within is = record {
  words = words pairs i pair within is legible.words;
  few =
      let e : count_in_pair pair ≡ count_in_pair (get_or pairs i pair) = ap count_in_pair is in
      omega (arith, get_or-le-sum_by count_in_pair pairs i pair within, legible.few);
}
  where
    words : (pairs : List Pair) (i : ℕ) (pair : Pair) → i < length pairs → pair ≡ get_or pairs i pair → have_legible_words pairs ≡ true → pair_has_legible_words pair ≡ true
    words [] i pair within is all = absurd (omega arith)
    words (x ∷ xs) zero pair within is all = ap pair_has_legible_words is ∙ (and_parts (pair_has_legible_words x) (have_legible_words xs) all).0
    words (x ∷ xs) (suc i) pair within is all = words xs i pair (omega arith) is (and_parts (pair_has_legible_words x) (have_legible_words xs) all).1

-- a legible list has few pairs
pub few_pairs : (pairs : List Pair) → AreLegible pairs → length pairs ≤ most_pairs
few_pairs pairs legible = omega (arith, count pairs, legible.few)
  where
    count : (pairs : List Pair) → length pairs ≤ count_in_pairs pairs
    count [] = omega arith
    count (x ∷ xs) = omega (arith, count xs, pair_with_value x, sum_by-cons count_in_pair x xs)
