-- The equations of the text of a tree.
use Rattle.std.proofs.Common.{◌≡◌, ℕ, zero, suc, List, [], ◌∷◌, ◌++◌, ap, refl, ◌∙◌, append_assoc}
use Rattle.std.specs.Prelude.{map}
use Rattle.std.specs.List.{flat_map}
use Rattle.gml_text.specs.declared.tree.Tree.{Tree, Tree-F, out-Tree, roll-Tree, out-roll-Tree, fold_out-Tree}
use Rattle.gml_text.specs.declared.tree.Pair.{Pair, fold-Pair, fold_out-Pair}
use Rattle.gml_text.specs.declared.tree.Value.{Value, out-Value, fold-Value, fold_out-Value}
use Rattle.gml_text.specs.declared.tree.Value.TheVariants.{Whole, Real, Text, Inner}
use Rattle.gml_text.specs.declared.marks.TheConstants.{SPACE, LINE_FEED, OPENING_BRACKET, CLOSING_BRACKET}
use Rattle.gml_print.specs.Printing.{indentation, bracketed, value_text_step, pair_text_step, list_text_step, printed_at, line}
use Rattle.gml_print.specs.inner.Pieces.{value_text, pair_text}

abbrev Lines : Type 0
Lines = ℕ → List ℕ

-- the text of a value is the fold over it
fold_of_value : (value : Value) (depth : ℕ) → fold-Value Lines Lines Lines value_text_step pair_text_step list_text_step value depth ≡ value_text value depth
unfolding out-Value denote.Hole.Carrier.out
fold_of_value (Whole word) depth = ap (λ (lines : Lines). lines depth) (fold_out-Value Lines Lines Lines value_text_step pair_text_step list_text_step (Whole word))
fold_of_value (Real word) depth = ap (λ (lines : Lines). lines depth) (fold_out-Value Lines Lines Lines value_text_step pair_text_step list_text_step (Real word))
fold_of_value (Text inside) depth = ap (λ (lines : Lines). lines depth) (fold_out-Value Lines Lines Lines value_text_step pair_text_step list_text_step (Text inside))
fold_of_value (Inner tree) depth = ap (λ (lines : Lines). lines depth) (fold_out-Value Lines Lines Lines value_text_step pair_text_step list_text_step (Inner tree))

-- the lines of a pair are the fold over it
fold_of_pair : (pair : Pair) (depth : ℕ) → fold-Pair Lines Lines Lines value_text_step pair_text_step list_text_step pair depth ≡ pair_text pair depth
fold_of_pair pair depth =
    ap (λ (lines : Lines). lines depth) (fold_out-Pair Lines Lines Lines value_text_step pair_text_step list_text_step pair) ∙
    ap (line depth pair.key) (fold_of_value pair.value depth)

flat_map_of_folds : (depth : ℕ) (pairs : List Pair) →
    flat_map (λ (lines : Lines). lines depth) (map (fold-Pair Lines Lines Lines value_text_step pair_text_step list_text_step) pairs) ≡ flat_map (λ pair. pair_text pair depth) pairs
flat_map_of_folds depth [] = refl
flat_map_of_folds depth (pair ∷ pairs) = rw (fold_of_pair pair depth, flat_map_of_folds depth pairs) refl

-- the text of a tree made of pairs: the lines of its pairs in order
pub printed_at_lines : (tree : Tree) (depth : ℕ) → printed_at tree depth ≡ flat_map (λ pair. pair_text pair depth) (out-Tree tree).pairs
printed_at_lines tree depth =
    ap (λ (lines : Lines). lines depth) (fold_out-Tree Lines Lines Lines value_text_step pair_text_step list_text_step tree) ∙
    flat_map_of_folds depth (out-Tree tree).pairs

-- two more spaces are the indentation of the next depth
pub indentation_deeper : (depth : ℕ) → indentation depth ++ SPACE ∷ SPACE ∷ [] ≡ indentation (suc depth)
indentation_deeper zero = refl
indentation_deeper (suc depth) = ap (λ spaces. SPACE ∷ SPACE ∷ spaces) (indentation_deeper depth)

-- what is written for a list, one piece after another
pub bracketed_pieces : (depth : ℕ) (before opened lines written spaces closed : List ℕ) →
    opened ≡ before ++ OPENING_BRACKET ∷ LINE_FEED ∷ [] → written ≡ opened ++ lines → spaces ≡ indentation depth →
    closed ≡ written ++ spaces ++ CLOSING_BRACKET ∷ [] → closed ≡ before ++ bracketed depth lines
bracketed_pieces depth before opened lines written spaces closed o w s c = rw (c, s, w, o) (simp append_assoc)

-- the text of a tree made of these pairs
pub printed_at_pairs : (pairs : List Pair) (depth : ℕ) →
    printed_at (roll-Tree (record { pairs = pairs })) depth ≡ flat_map (λ pair. pair_text pair depth) pairs
printed_at_pairs pairs depth =
    let made : Tree-F Value Pair Tree = record { pairs = pairs } in
    printed_at_lines (roll-Tree made) depth ∙
    ap (λ (layer : Tree-F Value Pair Tree). flat_map (λ pair. pair_text pair depth) layer.pairs) (out-roll-Tree made)
