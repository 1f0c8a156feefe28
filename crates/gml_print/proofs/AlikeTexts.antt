-- Alike trees have one text.
use Rattle.std.proofs.Common.{◌≡◌, ℕ, suc, List, [], ◌∷◌, ◌++◌, map, refl, sym, ◌∙◌, ap}
use Rattle.std.specs.List.{flat_map}
use Rattle.gml_text.specs.declared.tree.Tree.{Tree, out-Tree}
use Rattle.gml_text.specs.declared.tree.Pair.{Pair}
use Rattle.gml_text.specs.declared.tree.Value.{Value}
use Rattle.gml_text.specs.declared.tree.Value.TheVariants.{Inner}
use Rattle.gml_text.specs.Alike.{without_offsets, IsAlike}
use Rattle.gml_text.proofs.Laws.{bare_value, bare_pair, without_offsets-pairs, EachValue, each_in}
use Rattle.gml_print.specs.Printing.{printed, printed_at, line, bracketed}
use Rattle.gml_print.specs.inner.Pieces.{value_text, pair_text}
use Rattle.gml_print.proofs.TextEquations.{printed_at_lines, printed_at_pairs}

-- the lines of pairs at a depth
abbrev pub lines_of : ℕ → List Pair → List ℕ
lines_of depth pairs = flat_map (λ pair. pair_text pair depth) pairs

abbrev KeepsText : Value → Type 0
KeepsText value = (depth : ℕ) → value_text (bare_value value) depth ≡ value_text value depth

lines-bare : (depth : ℕ) (pairs : List Pair) → EachValue KeepsText pairs → lines_of depth (map bare_pair pairs) ≡ lines_of depth pairs
lines-bare depth [] each = refl
lines-bare depth (pair ∷ pairs) each =
    ap (λ words. line depth pair.key words ++ lines_of depth (map bare_pair pairs)) (each.0 depth)
    ∙ ap (λ lines. pair_text pair depth ++ lines) (lines-bare depth pairs each.1)

tree_text-bare : (tree : Tree) (depth : ℕ) → EachValue KeepsText (out-Tree tree).pairs → printed_at (without_offsets tree) depth ≡ printed_at tree depth
tree_text-bare tree depth each =
    ap (λ bare. printed_at bare depth) (without_offsets-pairs tree)
    ∙ (printed_at_pairs (map bare_pair (out-Tree tree).pairs) depth
    ∙ (lines-bare depth (out-Tree tree).pairs each
    ∙ sym (printed_at_lines tree depth)))

inner_text-bare : (tree : Tree) → EachValue KeepsText (out-Tree tree).pairs → KeepsText (Inner tree)
inner_text-bare tree each depth = ap (bracketed depth) (tree_text-bare tree (suc depth) each)

printed_at-bare : (tree : Tree) (depth : ℕ) → printed_at (without_offsets tree) depth ≡ printed_at tree depth
printed_at-bare tree depth =
    tree_text-bare tree depth (each_in KeepsText (λ word depth. refl) (λ word depth. refl) (λ bytes depth. refl) inner_text-bare tree)

pub printed-alike : (a b : Tree) → IsAlike a b → printed a ≡ printed b
printed-alike a b e = sym (printed_at-bare a 0) ∙ (ap printed e ∙ printed_at-bare b 0)
