-- A tree with new numerals at some paths is within the grammar where it was, and has no more pairs.
use Rattle.std.proofs.Common.{◌≡◌, ℕ, zero, suc, ◌≤◌, true, List, [], ◌∷◌, sym, ◌∙◌, arith}
use Rattle.std.specs.Prelude.{pos, ◌*ℤ◌}
use Rattle.std.proofs.lemmas.Bool.{and_parts, and_from}
use Rattle.std.proofs.lemmas.List.Sums.{sum_by-cons}
use Rattle.compact_types.specs.declared.places.Places.{Places}
use Rattle.compact_types.specs.Magnitudes.{AreWithin}
use Rattle.gml_text.specs.declared.tree.Tree.{Tree, out-Tree, roll-Tree}
use Rattle.gml_text.specs.declared.tree.Pair.{Pair}
use Rattle.gml_text.specs.declared.tree.Value.{Value}
use Rattle.gml_text.specs.declared.tree.Value.TheVariants.{Whole, Real, Text, Inner}
use Rattle.gml_text.specs.Bytes.{is_key}
use Rattle.gml_text.specs.RightWords.{value_has_right_words, pair_has_right_words, have_right_words, has_right_words}
use Rattle.gml_text.specs.Depths.{depth_of_value, depth_of_pairs, depth_of}
use Rattle.gml_text.specs.PairCounts.{count_in_value, count_in_pair, count_in_pairs, pair_count}
use Rattle.gml_text.specs.Grammar.{IsWithinGrammar, IsReadable}
use Rattle.gml_text.proofs.Laws.{tree_words, rolled_words, pair_words, value_words, tree_depth, rolled_depth, pair_depth, value_depth, tree_count, rolled_count, pair_with_value, value_count}
use Rattle.drawing_read.specs.declared.reading.Spot.{Spot}
use Rattle.compact_types.specs.declared.limits.TheConstants.{GREATEST_PLACE, MOST_PITCH}
use Rattle.gml_print.specs.Numbers.{number_text}
use Rattle.gml_print.specs.Placing.{with_changed_value, change_at, replaced, put_value}
use Rattle.gml_print.specs.Places.{coordinate_at, numeral_for, placed}
use Rattle.gml_print.proofs.ChangedLists.{changed_at, change_at_is}
use Rattle.gml_print.proofs.Numerals.{number_text_is_whole}
use Rattle.gml_print.proofs.PlaceNumbers.{coordinate_within, product_fits}

-- the new value has right words where the old one has, is no deeper, and has no more pairs
record IsNoWorse (new old : Value) : Type 0 where
  words : value_has_right_words old ≡ true → value_has_right_words new ≡ true
  depth : depth_of_value new ≤ depth_of_value old
  count : count_in_value new ≤ count_in_value old

-- the same for lists of pairs
record AreNoWorse (new old : List Pair) : Type 0 where
  words : have_right_words old ≡ true → have_right_words new ≡ true
  depth : depth_of_pairs new ≤ depth_of_pairs old
  count : count_in_pairs new ≤ count_in_pairs old

-- and for trees
record IsTreeNoWorse (new old : Tree) : Type 0 where
  words : has_right_words old ≡ true → has_right_words new ≡ true
  depth : depth_of new ≤ depth_of old
  count : pair_count new ≤ pair_count old

same_value : (value : Value) → IsNoWorse value value
same_value value = record { words = λ h. h; depth = omega arith; count = omega arith }

-- a pair whose value is no worse
first_no_worse : (change : Value → Value) (pair : Pair) (pairs : List Pair) → IsNoWorse (change pair.value) pair.value →
    AreNoWorse (with_changed_value change pair ∷ pairs) (pair ∷ pairs)
first_no_worse change pair pairs better =
    let new : Pair = with_changed_value change pair in
    record {
      words = λ h.
          let both = and_parts (pair_has_right_words pair) (have_right_words pairs) h in
          let parts = and_parts (is_key pair.key) (value_has_right_words pair.value) (sym (pair_words pair) ∙ both.0) in
          and_from (pair_has_right_words new) (have_right_words pairs)
          (pair_words new ∙ and_from (is_key pair.key) (value_has_right_words new.value) parts.0 (better.words parts.1)) both.1;
      depth = omega (arith, better.depth, pair_depth pair, pair_depth new);
      count = omega (arith, better.count, pair_with_value pair, pair_with_value new, sum_by-cons count_in_pair pair pairs, sum_by-cons count_in_pair new pairs);
    }

-- pairs of which the others are no worse
others_no_worse : (pair : Pair) (new old : List Pair) → AreNoWorse new old → AreNoWorse (pair ∷ new) (pair ∷ old)
others_no_worse pair new old better = record {
  words = λ h.
      let both = and_parts (pair_has_right_words pair) (have_right_words old) h in
      and_from (pair_has_right_words pair) (have_right_words new) both.0 (better.words both.1);
  depth = omega (arith, better.depth);
  count = omega (arith, better.count, sum_by-cons count_in_pair pair new, sum_by-cons count_in_pair pair old);
}

changed_no_worse : (a : ℕ) (change : Value → Value) → ((value : Value) → IsNoWorse (change value) value) → (pairs : List Pair) → AreNoWorse (changed_at a change pairs) pairs
changed_no_worse a change better [] = record { words = λ h. h; depth = omega arith; count = omega arith }
changed_no_worse zero change better (pair ∷ pairs) = first_no_worse change pair pairs (better pair.value)
changed_no_worse (suc a) change better (pair ∷ pairs) =
    others_no_worse pair (changed_at a change pairs) pairs (changed_no_worse a change better pairs)

change_no_worse : (a : ℕ) (change : Value → Value) → ((value : Value) → IsNoWorse (change value) value) → (pairs : List Pair) → AreNoWorse (change_at a change pairs) pairs
change_no_worse a change better pairs = rw (change_at_is a change pairs) (changed_no_worse a change better pairs)

-- a tree of such pairs
rolled_no_worse : (tree : Tree) (pairs : List Pair) → AreNoWorse pairs (out-Tree tree).pairs → IsTreeNoWorse (roll-Tree (record { pairs = pairs })) tree
rolled_no_worse tree pairs better = record {
  words = λ h. rolled_words pairs ∙ better.words (sym (tree_words tree) ∙ h);
  depth = omega (arith, better.depth, rolled_depth pairs, tree_depth tree);
  count = omega (arith, better.count, rolled_count pairs, tree_count tree);
}

list_no_worse : (new old : Tree) → IsTreeNoWorse new old → IsNoWorse (Inner new) (Inner old)
list_no_worse new old better = record {
  words = λ h. value_words (Inner new) ∙ better.words (sym (value_words (Inner old)) ∙ h);
  depth = omega (arith, better.depth, value_depth (Inner new), value_depth (Inner old));
  count = omega (arith, better.count, value_count (Inner new), value_count (Inner old));
}

-- a right numeral in place of a value
module _ (word : List ℕ) (right : value_has_right_words (Whole word) ≡ true) where
  whole_no_worse : (old : Value) → IsNoWorse (Whole word) old
  whole_no_worse old = record {
    words = λ h. right;
    depth = omega (arith, value_depth (Whole word));
    count = omega (arith, value_count (Whole word));
  }

  replaced_no_worse : (path : List ℕ) (old : Value) → IsNoWorse (replaced path (Whole word) old) old
  replaced_no_worse [] old = whole_no_worse old
  replaced_no_worse (a ∷ path) (Whole other) = same_value (Whole other)
  replaced_no_worse (a ∷ path) (Real other) = same_value (Real other)
  replaced_no_worse (a ∷ path) (Text inside) = same_value (Text inside)
  replaced_no_worse (a ∷ path) (Inner tree) =
      list_no_worse (roll-Tree (record { pairs = change_at a (replaced path (Whole word)) (out-Tree tree).pairs })) tree
      (rolled_no_worse tree (change_at a (replaced path (Whole word)) (out-Tree tree).pairs)
      (change_no_worse a (replaced path (Whole word)) (replaced_no_worse path) (out-Tree tree).pairs))

  put_no_worse : (path : List ℕ) (tree : Tree) → IsTreeNoWorse (put_value path (Whole word) tree) tree
  put_no_worse [] tree = record { words = λ h. h; depth = omega arith; count = omega arith }
  put_no_worse (a ∷ path) tree =
      rolled_no_worse tree (change_at a (replaced path (Whole word)) (out-Tree tree).pairs)
      (change_no_worse a (replaced path (Whole word)) (replaced_no_worse path) (out-Tree tree).pairs)

then_no_worse : (a b c : Tree) → IsTreeNoWorse a b → IsTreeNoWorse b c → IsTreeNoWorse a c
then_no_worse a b c first second = record {
  words = λ h. first.words (second.words h);
  depth = omega (arith, first.depth, second.depth);
  count = omega (arith, first.count, second.count);
}

placed_no_worse : (places : Places) (pitch : ℕ) → AreWithin GREATEST_PLACE places → pitch ≤ MOST_PITCH → (spots : List Spot) (tree : Tree) →
    IsTreeNoWorse (placed tree spots places pitch) tree
placed_no_worse places pitch within most [] tree = record { words = λ h. h; depth = omega arith; count = omega arith }
placed_no_worse places pitch within most (spot ∷ spots) tree =
    let put : Tree = put_value spot.path (numeral_for places pitch spot) tree in
    let number = pos pitch *ℤ coordinate_at places spot in
    let whole = number_text_is_whole number (product_fits pitch (coordinate_at places spot) most (coordinate_within places spot within)) in
    then_no_worse (placed put spots places pitch) put tree
    (placed_no_worse places pitch within most spots put)
    (put_no_worse (number_text number) (value_words (Whole (number_text number)) ∙ whole) spot.path tree)

pub placed_within : (tree : Tree) (spots : List Spot) (places : Places) (pitch : ℕ) → AreWithin GREATEST_PLACE places → pitch ≤ MOST_PITCH →
    IsWithinGrammar tree → IsWithinGrammar (placed tree spots places pitch)
placed_within tree spots places pitch within most grammar =
    let better = placed_no_worse places pitch within most spots tree in
    record { words = better.words grammar.words; depth = omega (arith, better.depth, grammar.depth) }

pub placed_readable : (tree : Tree) (spots : List Spot) (places : Places) (pitch : ℕ) → AreWithin GREATEST_PLACE places → pitch ≤ MOST_PITCH →
    IsReadable tree → IsReadable (placed tree spots places pitch)
placed_readable tree spots places pitch within most readable =
    let better = placed_no_worse places pitch within most spots tree in
    record { grammar = placed_within tree spots places pitch within most readable.grammar; few = omega (arith, better.count, readable.few) }
