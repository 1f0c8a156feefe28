-- Alike trees, a level at a time.
use Rattle.std.proofs.Common.{◌≡◌, ℕ, suc, ◌+◌, ◌≤◌, ◌&&◌, List, [], ◌∷◌, map, refl, sym, ◌∙◌, ap, subst, arith}
use Rattle.std.proofs.lemmas.List.Sums.{sum_by-cons}
use Rattle.gml_text.specs.declared.tree.Tree.{Tree, out-Tree, roll-Tree, out-roll-Tree, fold_out-Tree}
use Rattle.gml_text.specs.declared.tree.Pair.{Pair, fold-Pair, fold_out-Pair}
use Rattle.gml_text.specs.declared.tree.Value.{Value, out-Value, fold-Value, fold_out-Value}
use Rattle.gml_text.specs.declared.tree.Value.TheVariants.{Whole, Real, Text, Inner}
use Rattle.gml_text.specs.declared.limits.TheConstants.{MOST_BYTES, MOST_DEPTH}
use Rattle.gml_text.specs.Bytes.{is_key}
use Rattle.gml_text.specs.RightWords.{value_has_right_words, pair_has_right_words, have_right_words, has_right_words}
use Rattle.gml_text.specs.Depths.{depth_of_value, depth_of_pair, depth_of_pairs, depth_of}
use Rattle.gml_text.specs.PairCounts.{count_in_value, count_in_pair, count_in_pairs, pair_count}
use Rattle.gml_text.specs.Grammar.{IsWithinGrammar, IsReadable}
use Rattle.gml_text.specs.Alike.{value_without_offsets, pair_without_offset, list_without_offsets, without_offsets, IsAlike}
use Rattle.gml_text.proofs.ValueInduction.{EachValue, each_in}
use Rattle.gml_text.proofs.TreeLevels.{tree_words, rolled_words, pair_words, value_words, tree_depth, rolled_depth, pair_depth, value_depth, tree_count, rolled_count, pair_with_value, value_count}

-- the value with 0 for each offset in it
abbrev pub bare_value : Value → Value
bare_value (Whole word) = Whole word
bare_value (Real word) = Real word
bare_value (Text inside) = Text inside
bare_value (Inner tree) = Inner (without_offsets tree)

-- the pair with 0 for its offset and for each in its value
abbrev pub bare_pair : Pair → Pair
bare_pair pair = record { key = pair.key; value = bare_value pair.value; at = 0 }

value_fold : (value : Value) → fold-Value Value Pair Tree value_without_offsets pair_without_offset list_without_offsets value ≡ bare_value value
unfolding out-Value denote.Hole.Carrier.out
value_fold (Whole word) = fold_out-Value Value Pair Tree value_without_offsets pair_without_offset list_without_offsets (Whole word)
value_fold (Real word) = fold_out-Value Value Pair Tree value_without_offsets pair_without_offset list_without_offsets (Real word)
value_fold (Text inside) = fold_out-Value Value Pair Tree value_without_offsets pair_without_offset list_without_offsets (Text inside)
value_fold (Inner tree) = fold_out-Value Value Pair Tree value_without_offsets pair_without_offset list_without_offsets (Inner tree)

same_pair : (key : List ℕ) (a b : Value) → a ≡ b → (let p : Pair = record { key = key; value = a; at = 0 } in p) ≡ record { key = key; value = b; at = 0 }
same_pair key a b e = ap (λ value. record { key = key; value = value; at = 0 }) e

pair_fold : (pair : Pair) → fold-Pair Value Pair Tree value_without_offsets pair_without_offset list_without_offsets pair ≡ bare_pair pair
pair_fold pair =
    fold_out-Pair Value Pair Tree value_without_offsets pair_without_offset list_without_offsets pair
    ∙ same_pair pair.key _ _ (value_fold pair.value)

pairs_fold : (pairs : List Pair) → map (fold-Pair Value Pair Tree value_without_offsets pair_without_offset list_without_offsets) pairs ≡ map bare_pair pairs
pairs_fold [] = refl
pairs_fold (pair ∷ pairs) = rw (pair_fold pair, pairs_fold pairs) refl

-- a level of a tree
pub without_offsets-pairs : (tree : Tree) → without_offsets tree ≡ roll-Tree (record { pairs = map bare_pair (out-Tree tree).pairs })
without_offsets-pairs tree =
    fold_out-Tree Value Pair Tree value_without_offsets pair_without_offset list_without_offsets tree
    ∙ ap (λ pairs. roll-Tree (record { pairs = pairs })) (pairs_fold (out-Tree tree).pairs)

-- a tree is alike one that is made of alike pairs
pub IsAlike-pairs : (tree : Tree) (pairs : List Pair) → map bare_pair (out-Tree tree).pairs ≡ map bare_pair pairs → IsAlike tree (roll-Tree (record { pairs = pairs }))
IsAlike-pairs tree pairs e =
    let made : Tree = roll-Tree (record { pairs = pairs }) in
    without_offsets-pairs tree
    ∙ (ap (λ bare. roll-Tree (record { pairs = bare })) (e ∙ sym (ap (λ r. map bare_pair r.pairs) (out-roll-Tree (record { pairs = pairs }))))
    ∙ sym (without_offsets-pairs made))

-- alike trees have alike pairs
pub pairs-IsAlike : (a b : Tree) → IsAlike a b → map bare_pair (out-Tree a).pairs ≡ map bare_pair (out-Tree b).pairs
pairs-IsAlike a b e = sym (bare_pairs a) ∙ (ap (λ tree. (out-Tree tree).pairs) e ∙ bare_pairs b)
  where
    bare_pairs : (tree : Tree) → (out-Tree (without_offsets tree)).pairs ≡ map bare_pair (out-Tree tree).pairs
    bare_pairs tree =
        ap (λ bare. (out-Tree bare).pairs) (without_offsets-pairs tree)
        ∙ ap (λ r. r.pairs) (out-roll-Tree (record { pairs = map bare_pair (out-Tree tree).pairs }))

-- ---- offsets are no matter of the grammar

-- without its offsets the value has the same words, depth and pairs
record IsKept (value : Value) : Type 0 where
  words : value_has_right_words (bare_value value) ≡ value_has_right_words value
  depth : depth_of_value (bare_value value) ≡ depth_of_value value
  count : count_in_value (bare_value value) ≡ count_in_value value

words_kept : (pairs : List Pair) → EachValue IsKept pairs → have_right_words (map bare_pair pairs) ≡ have_right_words pairs
words_kept [] each = refl
words_kept (pair ∷ pairs) each =
    let here : pair_has_right_words (bare_pair pair) ≡ pair_has_right_words pair =
    pair_words (bare_pair pair) ∙ (ap (λ b. is_key pair.key && b) each.0.words ∙ sym (pair_words pair)) in
    rw (here, words_kept pairs each.1) refl

depth_kept : (pairs : List Pair) → EachValue IsKept pairs → depth_of_pairs (map bare_pair pairs) ≡ depth_of_pairs pairs
depth_kept [] each = refl
depth_kept (pair ∷ pairs) each =
    let here : depth_of_pair (bare_pair pair) ≡ depth_of_pair pair = pair_depth (bare_pair pair) ∙ (each.0.depth ∙ sym (pair_depth pair)) in
    rw (here, depth_kept pairs each.1) refl

count_kept : (pairs : List Pair) → EachValue IsKept pairs → count_in_pairs (map bare_pair pairs) ≡ count_in_pairs pairs
count_kept [] each = refl
count_kept (pair ∷ pairs) each =
    let here : count_in_pair (bare_pair pair) ≡ count_in_pair pair =
    pair_with_value (bare_pair pair) ∙ (ap (λ n. n + 1) each.0.count ∙ sym (pair_with_value pair)) in
    omega (arith, here, count_kept pairs each.1, sum_by-cons count_in_pair pair pairs, sum_by-cons count_in_pair (bare_pair pair) (map bare_pair pairs))

-- so has the tree
record IsTreeKept (tree : Tree) : Type 0 where
  words : has_right_words (without_offsets tree) ≡ has_right_words tree
  depth : depth_of (without_offsets tree) ≡ depth_of tree
  count : pair_count (without_offsets tree) ≡ pair_count tree

tree_kept : (tree : Tree) → EachValue IsKept (out-Tree tree).pairs → IsTreeKept tree
tree_kept tree each =
    let pairs : List Pair = (out-Tree tree).pairs in
    let bare : List Pair = map bare_pair pairs in
    record {
      words = ap has_right_words (without_offsets-pairs tree) ∙ (rolled_words bare ∙ (words_kept pairs each ∙ sym (tree_words tree)));
      depth = ap depth_of (without_offsets-pairs tree) ∙ (rolled_depth bare ∙ (depth_kept pairs each ∙ sym (tree_depth tree)));
      count = ap pair_count (without_offsets-pairs tree) ∙ (rolled_count bare ∙ (count_kept pairs each ∙ sym (tree_count tree)));
    }

inner_kept : (tree : Tree) → EachValue IsKept (out-Tree tree).pairs → IsKept (Inner tree)
inner_kept tree each =
    let kept = tree_kept tree each in
    let bare : Value = Inner (without_offsets tree) in
    record {
      words = value_words bare ∙ (kept.words ∙ sym (value_words (Inner tree)));
      depth = value_depth bare ∙ (ap suc kept.depth ∙ sym (value_depth (Inner tree)));
      count = value_count bare ∙ (kept.count ∙ sym (value_count (Inner tree)));
    }

bare_kept : (tree : Tree) → IsTreeKept tree
bare_kept tree =
    tree_kept tree
    (each_in IsKept
    (λ word. record { words = refl; depth = refl; count = refl })
    (λ word. record { words = refl; depth = refl; count = refl })
    (λ bytes. record { words = refl; depth = refl; count = refl })
    inner_kept tree)

-- a tree that is alike one within the grammar is within it too
pub within_alike : (a b : Tree) → IsAlike a b → IsWithinGrammar a → IsWithinGrammar b
within_alike a b e within = record {
  words = sym (bare_kept b).words ∙ (ap has_right_words (sym e) ∙ ((bare_kept a).words ∙ within.words));
  depth = subst (λ n. n ≤ MOST_DEPTH) (sym (bare_kept a).depth ∙ (ap depth_of e ∙ (bare_kept b).depth)) within.depth;
}

-- and as readable
pub readable_alike : (a b : Tree) → IsAlike a b → IsReadable a → IsReadable b
readable_alike a b e readable = record {
  grammar = within_alike a b e readable.grammar;
  few = subst (λ n. n ≤ MOST_BYTES) (sym (bare_kept a).count ∙ (ap pair_count e ∙ (bare_kept b).count)) readable.few;
}
