-- The words, the depth and the pairs of a tree, a level at a time.
use Rattle.std.proofs.Common.{◌≡◌, ℕ, suc, ◌+◌, ◌≤◌, Bool, ◌&&◌, max, List, [], ◌∷◌, ◌++◌, map, refl, ◌∙◌, ap, arith}
use Rattle.std.specs.List.{list_all}
use Rattle.std.proofs.lemmas.List.Sums.{sum-map}
use Rattle.gml_text.specs.declared.marks.TheConstants.{QUOTE}
use Rattle.gml_text.specs.declared.tree.Tree.{Tree, out-Tree, roll-Tree, out-roll-Tree, fold_out-Tree}
use Rattle.gml_text.specs.declared.tree.Pair.{Pair, fold_out-Pair}
use Rattle.gml_text.specs.declared.tree.Value.{Value, out-Value, fold_out-Value}
use Rattle.gml_text.specs.declared.tree.Value.TheVariants.{Whole, Real, Text, Inner}
use Rattle.gml_text.specs.Bytes.{lacks, is_key}
use Rattle.gml_text.specs.Numerals.{is_whole_numeral}
use Rattle.gml_text.specs.NumeralKinds.{is_real_numeral}
use Rattle.gml_text.specs.RightWords as words
use Rattle.gml_text.specs.RightWords.{value_has_right_words, pair_has_right_words, have_right_words, has_right_words}
use Rattle.gml_text.specs.Depths as depths
use Rattle.gml_text.specs.Depths.{greatest_by, depth_of_value, depth_of_pair, depth_of_pairs, depth_of}
use Rattle.gml_text.specs.PairCounts as counts
use Rattle.gml_text.specs.PairCounts.{count_in_value, count_in_pair, count_in_pairs, pair_count}

-- ---- words

pub list_all-map : (f : Pair → Bool) (pairs : List Pair) → list_all (λ pair. pair) (map f pairs) ≡ list_all f pairs
list_all-map f [] = refl
list_all-map f (pair ∷ pairs) = ap (λ rest. f pair && rest) (list_all-map f pairs)

-- the words of a tree are those of its pairs
pub tree_words : (tree : Tree) → has_right_words tree ≡ have_right_words (out-Tree tree).pairs
tree_words tree =
    fold_out-Tree Bool Bool Bool words.value_words_step words.pair_words_step words.list_words_step tree
    ∙ list_all-map pair_has_right_words (out-Tree tree).pairs

pub rolled_words : (pairs : List Pair) → has_right_words (roll-Tree (record { pairs = pairs })) ≡ have_right_words pairs
rolled_words pairs =
    tree_words (roll-Tree (record { pairs = pairs }))
    ∙ ap (λ r. have_right_words r.pairs) (out-roll-Tree (record { pairs = pairs }))

-- the words of a pair are its key and those of its value
pub pair_words : (pair : Pair) → pair_has_right_words pair ≡ (is_key pair.key && value_has_right_words pair.value)
pair_words pair = fold_out-Pair Bool Bool Bool words.value_words_step words.pair_words_step words.list_words_step pair

-- whether the word of a value is right, or the words of its tree
abbrev pub has_right_word : Value → Bool
has_right_word (Whole word) = is_whole_numeral word
has_right_word (Real word) = is_real_numeral word
has_right_word (Text inside) = lacks QUOTE inside
has_right_word (Inner tree) = has_right_words tree

pub value_words : (value : Value) → value_has_right_words value ≡ has_right_word value
unfolding out-Value denote.Hole.Carrier.out
value_words (Whole word) = fold_out-Value Bool Bool Bool words.value_words_step words.pair_words_step words.list_words_step (Whole word)
value_words (Real word) = fold_out-Value Bool Bool Bool words.value_words_step words.pair_words_step words.list_words_step (Real word)
value_words (Text inside) = fold_out-Value Bool Bool Bool words.value_words_step words.pair_words_step words.list_words_step (Text inside)
value_words (Inner tree) = fold_out-Value Bool Bool Bool words.value_words_step words.pair_words_step words.list_words_step (Inner tree)

-- ---- depths

greatest_by-map : (f : Pair → ℕ) (pairs : List Pair) → greatest_by (λ depth. depth) (map f pairs) ≡ greatest_by f pairs
greatest_by-map f [] = refl
greatest_by-map f (pair ∷ pairs) = ap (λ rest. max (f pair) rest) (greatest_by-map f pairs)

-- the greatest number is at most n where each is
pub push_at_most : (f : Pair → ℕ) (pairs : List Pair) (pair : Pair) (n : ℕ) → greatest_by f pairs ≤ n → f pair ≤ n → greatest_by f (pairs ++ pair ∷ []) ≤ n
push_at_most f [] pair n before one = omega arith
push_at_most f (first ∷ pairs) pair n before one =
    let rest : greatest_by f (pairs ++ pair ∷ []) ≤ n = push_at_most f pairs pair n (omega arith) one in omega arith

-- a tree is as deep as its deepest pair
pub tree_depth : (tree : Tree) → depth_of tree ≡ depth_of_pairs (out-Tree tree).pairs
tree_depth tree =
    fold_out-Tree ℕ ℕ ℕ depths.value_depth_step depths.pair_depth_step depths.list_depth_step tree
    ∙ greatest_by-map depth_of_pair (out-Tree tree).pairs

pub rolled_depth : (pairs : List Pair) → depth_of (roll-Tree (record { pairs = pairs })) ≡ depth_of_pairs pairs
rolled_depth pairs =
    tree_depth (roll-Tree (record { pairs = pairs }))
    ∙ ap (λ r. depth_of_pairs r.pairs) (out-roll-Tree (record { pairs = pairs }))

-- a pair is as deep as its value
pub pair_depth : (pair : Pair) → depth_of_pair pair ≡ depth_of_value pair.value
pair_depth pair = fold_out-Pair ℕ ℕ ℕ depths.value_depth_step depths.pair_depth_step depths.list_depth_step pair

-- a list is one deeper than its tree
abbrev pub depth_with_list : Value → ℕ
depth_with_list (Whole word) = 0
depth_with_list (Real word) = 0
depth_with_list (Text inside) = 0
depth_with_list (Inner tree) = suc (depth_of tree)

pub value_depth : (value : Value) → depth_of_value value ≡ depth_with_list value
unfolding out-Value denote.Hole.Carrier.out
value_depth (Whole word) = fold_out-Value ℕ ℕ ℕ depths.value_depth_step depths.pair_depth_step depths.list_depth_step (Whole word)
value_depth (Real word) = fold_out-Value ℕ ℕ ℕ depths.value_depth_step depths.pair_depth_step depths.list_depth_step (Real word)
value_depth (Text inside) = fold_out-Value ℕ ℕ ℕ depths.value_depth_step depths.pair_depth_step depths.list_depth_step (Text inside)
value_depth (Inner tree) = fold_out-Value ℕ ℕ ℕ depths.value_depth_step depths.pair_depth_step depths.list_depth_step (Inner tree)

-- ---- pairs

-- the pairs of a tree are those of its list, each with the pairs of its value
pub tree_count : (tree : Tree) → pair_count tree ≡ count_in_pairs (out-Tree tree).pairs
tree_count tree =
    fold_out-Tree ℕ ℕ ℕ counts.value_count_step counts.pair_count_step counts.list_count_step tree
    ∙ sum-map count_in_pair (out-Tree tree).pairs

pub rolled_count : (pairs : List Pair) → pair_count (roll-Tree (record { pairs = pairs })) ≡ count_in_pairs pairs
rolled_count pairs =
    tree_count (roll-Tree (record { pairs = pairs }))
    ∙ ap (λ r. count_in_pairs r.pairs) (out-roll-Tree (record { pairs = pairs }))

pub pair_with_value : (pair : Pair) → count_in_pair pair ≡ count_in_value pair.value + 1
pair_with_value pair = fold_out-Pair ℕ ℕ ℕ counts.value_count_step counts.pair_count_step counts.list_count_step pair

-- a list has the pairs of its tree
abbrev pub count_in_list : Value → ℕ
count_in_list (Whole word) = 0
count_in_list (Real word) = 0
count_in_list (Text inside) = 0
count_in_list (Inner tree) = pair_count tree

pub value_count : (value : Value) → count_in_value value ≡ count_in_list value
unfolding out-Value denote.Hole.Carrier.out
value_count (Whole word) = fold_out-Value ℕ ℕ ℕ counts.value_count_step counts.pair_count_step counts.list_count_step (Whole word)
value_count (Real word) = fold_out-Value ℕ ℕ ℕ counts.value_count_step counts.pair_count_step counts.list_count_step (Real word)
value_count (Text inside) = fold_out-Value ℕ ℕ ℕ counts.value_count_step counts.pair_count_step counts.list_count_step (Text inside)
value_count (Inner tree) = fold_out-Value ℕ ℕ ℕ counts.value_count_step counts.pair_count_step counts.list_count_step (Inner tree)
