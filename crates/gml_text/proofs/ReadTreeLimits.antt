-- Trees that are read are within the grammar, and have no more pairs than their text has bytes.
use Rattle.std.proofs.Common.{Option, None, Some, ◌≡◌, ℕ, ◌+◌, ◌-◌, ◌≤◌, true, List, [], ◌∷◌, ◌++◌, length, refl, ◌∙◌, ap, arith}
use Rattle.std.specs.Option.{is_some}
use Rattle.std.proofs.lemmas.Bool.{and_from, false≢true}
use Rattle.std.proofs.lemmas.List.{length-append}
use Rattle.std.proofs.lemmas.List.Folds.{list_all-append}
use Rattle.std.proofs.lemmas.List.Sums.{sum_by-append}
use Rattle.gml_text.specs.declared.limits.TheConstants.{MOST_BYTES, MOST_DEPTH}
use Rattle.gml_text.specs.declared.number.NumeralKind.{NumeralKind}
use Rattle.gml_text.specs.declared.tree.Tree.{Tree, roll-Tree}
use Rattle.gml_text.specs.declared.tree.Pair.{Pair}
use Rattle.gml_text.specs.declared.tree.Value.{Value}
use Rattle.gml_text.specs.declared.tree.Value.TheVariants.{Whole, Real, Text, Inner}
use Rattle.gml_text.specs.Bytes.{is_key}
use Rattle.gml_text.specs.Numerals.{is_whole_numeral}
use Rattle.gml_text.specs.NumeralKinds.{kind_of, is_numeral, is_real_kind, is_real_numeral}
use Rattle.gml_text.specs.Texts.{Pairs, OnePair, HasValue, no_more, a_space, a_comment, one_more, a_pair, a_whole_numeral, a_real_numeral, a_string, a_list, IsText, to_the_end, in_a_comment, Spells}
use Rattle.gml_text.specs.RightWords.{value_has_right_words, pair_has_right_words, have_right_words}
use Rattle.gml_text.specs.Depths.{depth_of_value, depth_of_pair, depth_of_pairs}
use Rattle.gml_text.specs.PairCounts.{count_in_value, count_in_pair, count_in_pairs}
use Rattle.gml_text.specs.Grammar.{IsWithinGrammar, IsReadable}
use Rattle.gml_text.proofs.NumeralLaws.{kind_of-whole, kind_of-real}
use Rattle.gml_text.proofs.TreeLevels.{tree_words, rolled_words, pair_words, value_words, tree_depth, rolled_depth, pair_depth, value_depth, push_at_most, tree_count, rolled_count, pair_with_value, value_count}

-- ---- words

mutual
  pairs_right : {depth offset : ℕ} {text : List ℕ} {pairs : List Pair} → Pairs depth offset text pairs → have_right_words pairs ≡ true
  pairs_right (no_more depth offset) = refl
  pairs_right (a_space depth offset text pairs b h space) = pairs_right h
  pairs_right (a_comment depth offset text pairs words h ends lack) = pairs_right h
  pairs_right (one_more depth offset text pairs piece pair h ends one) =
      list_all-append pair_has_right_words pairs (pair ∷ [])
      ∙ and_from (have_right_words pairs) (have_right_words (pair ∷ [])) (pairs_right h) (and_from (pair_has_right_words pair) true (pair_right one) refl)

  pair_right : {depth offset : ℕ} {piece : List ℕ} {pair : Pair} → OnePair depth offset piece pair → pair_has_right_words pair ≡ true
  pair_right (a_pair depth offset key gap text value is_one spaces apart h) =
      pair_words (record { key = key; value = value; at = offset + length key + length gap })
      ∙ and_from (is_key key) (value_has_right_words value) is_one (value_right h)

  value_right : {depth offset : ℕ} {text : List ℕ} {value : Value} → HasValue depth offset text value → value_has_right_words value ≡ true
  value_right (a_whole_numeral depth offset word h) = value_words (Whole word) ∙ h
  value_right (a_real_numeral depth offset word h) = value_words (Real word) ∙ ap is_real_kind (kind_of-real word h)
  value_right (a_string depth offset inside h) = value_words (Text inside) ∙ h
  value_right (a_list depth offset inside pairs room h) = value_words (Inner (roll-Tree (record { pairs = pairs }))) ∙ (rolled_words pairs ∙ pairs_right h)

-- ---- depth

mutual
  pairs_shallow : {depth offset : ℕ} {text : List ℕ} {pairs : List Pair} → Pairs depth offset text pairs → depth_of_pairs pairs ≤ MOST_DEPTH - depth
  pairs_shallow (no_more depth offset) = omega arith
  pairs_shallow (a_space depth offset text pairs b h space) = pairs_shallow h
  pairs_shallow (a_comment depth offset text pairs words h ends lack) = pairs_shallow h
  pairs_shallow (one_more depth offset text pairs piece pair h ends one) =
      push_at_most depth_of_pair pairs pair (MOST_DEPTH - depth) (pairs_shallow h) (pair_shallow one)

  pair_shallow : {depth offset : ℕ} {piece : List ℕ} {pair : Pair} → OnePair depth offset piece pair → depth_of_pair pair ≤ MOST_DEPTH - depth
  pair_shallow (a_pair depth offset key gap text value is_one spaces apart h) =
      omega (arith, value_shallow h, pair_depth (record { key = key; value = value; at = offset + length key + length gap }))

  value_shallow : {depth offset : ℕ} {text : List ℕ} {value : Value} → HasValue depth offset text value → depth_of_value value ≤ MOST_DEPTH - depth
  value_shallow (a_whole_numeral depth offset word h) = omega (arith, value_depth (Whole word))
  value_shallow (a_real_numeral depth offset word h) = omega (arith, value_depth (Real word))
  value_shallow (a_string depth offset inside h) = omega (arith, value_depth (Text inside))
  value_shallow (a_list depth offset inside pairs room h) =
      omega (arith, pairs_shallow h, value_depth (Inner (roll-Tree (record { pairs = pairs }))), rolled_depth pairs)

-- ---- pairs

key_has_a_byte : (key : List ℕ) → is_key key ≡ true → 1 ≤ length key
key_has_a_byte [] h = absurd (false≢true h)
key_has_a_byte (b ∷ bytes) h = omega arith

mutual
  pairs_few : {depth offset : ℕ} {text : List ℕ} {pairs : List Pair} → Pairs depth offset text pairs → count_in_pairs pairs ≤ length text
  pairs_few (no_more depth offset) = omega arith
  pairs_few (a_space depth offset text pairs b h space) = omega (arith, pairs_few h, length-append text (b ∷ []))
  pairs_few (a_comment depth offset text pairs words h ends lack) = omega (arith, pairs_few h, length-append (text ++ 35 ∷ words) (10 ∷ []), length-append text (35 ∷ words))
  pairs_few (one_more depth offset text pairs piece pair h ends one) =
      omega (arith, pairs_few h, pair_few one, length-append text piece, sum_by-append count_in_pair pairs (pair ∷ []))

  pair_few : {depth offset : ℕ} {piece : List ℕ} {pair : Pair} → OnePair depth offset piece pair → count_in_pair pair ≤ length piece
  pair_few (a_pair depth offset key gap text value is_one spaces apart h) =
      omega (
        arith,
        value_few h,
        key_has_a_byte key is_one,
        length-append (key ++ gap) text,
        length-append key gap,
        pair_with_value (record { key = key; value = value; at = offset + length key + length gap }),
      )

  value_few : {depth offset : ℕ} {text : List ℕ} {value : Value} → HasValue depth offset text value → count_in_value value ≤ length text
  value_few (a_whole_numeral depth offset word h) = omega (arith, value_count (Whole word))
  value_few (a_real_numeral depth offset word h) = omega (arith, value_count (Real word))
  value_few (a_string depth offset inside h) = omega (arith, value_count (Text inside))
  value_few (a_list depth offset inside pairs room h) =
      omega (arith, pairs_few h, value_count (Inner (roll-Tree (record { pairs = pairs }))), rolled_count pairs, length-append (91 ∷ inside) (93 ∷ []))

-- ---- trees

text_right : {text : List ℕ} {pairs : List Pair} → IsText text pairs → have_right_words pairs ≡ true
text_right (to_the_end text pairs h) = pairs_right h
text_right (in_a_comment text pairs words h ends lack) = pairs_right h

text_shallow : {text : List ℕ} {pairs : List Pair} → IsText text pairs → depth_of_pairs pairs ≤ MOST_DEPTH
text_shallow (to_the_end text pairs h) = pairs_shallow h
text_shallow (in_a_comment text pairs words h ends lack) = pairs_shallow h

text_few : {text : List ℕ} {pairs : List Pair} → IsText text pairs → count_in_pairs pairs ≤ length text
text_few (to_the_end text pairs h) = pairs_few h
text_few (in_a_comment text pairs words h ends lack) = omega (arith, pairs_few h, length-append text (35 ∷ words))

-- the tree of a text is within the grammar
pub spelled_within : (text : List ℕ) (tree : Tree) → Spells text tree → IsWithinGrammar tree
spelled_within text tree h = record {
  words = tree_words tree ∙ text_right h;
  depth = omega (arith, tree_depth tree, text_shallow h);
}

-- and if the text is not too long, the tree is readable
pub spelled_readable : (text : List ℕ) (tree : Tree) → length text ≤ MOST_BYTES → Spells text tree → IsReadable tree
spelled_readable text tree short h = record {
  grammar = spelled_within text tree h;
  few = omega (arith, text_few h, tree_count tree);
}

-- ---- the numerals of such a tree have a value in thousandths

pub is_numeral-whole : (word : List ℕ) → is_whole_numeral word ≡ true → is_numeral word ≡ true
is_numeral-whole word h = ap is_some (kind_of-whole word h)

pub is_numeral-real : (word : List ℕ) → is_real_numeral word ≡ true → is_numeral word ≡ true
is_numeral-real word h = go (kind_of word) h
  where
    go : (found : Option NumeralKind) → is_real_kind found ≡ true → is_some found ≡ true
    go None h = h
    go (Some kind) h = refl
