-- The printed text of a tree ends where a line does.
use Rattle.std.proofs.Common.{ℕ, inl, inr, List, [], ◌∷◌, ◌++◌, refl, sym, ◌∙◌, ap, subst, append_assoc}
use Rattle.std.specs.List.{flat_map}
use Rattle.std.specs.Prelude.{map}
use Rattle.std.proofs.lemmas.List.{append-nil}
use Rattle.gml_text.specs.declared.marks.TheConstants.{LINE_FEED, SPACE}
use Rattle.gml_text.specs.declared.tree.Tree.{Tree, out-Tree, fold_out-Tree}
use Rattle.gml_text.specs.declared.tree.Pair.{Pair, fold-Pair, fold_out-Pair}
use Rattle.gml_text.specs.declared.tree.Value.{fold-Value}
use Rattle.gml_print.specs.Printing.{indentation, line, value_text_step, pair_text_step, list_text_step, printed}
use Rattle.cert_text.specs.Certificates.{IsBeforeLine}

abbrev Lines : Type 0
Lines = ℕ → List ℕ

line_and_more : (depth : ℕ) (key value more : List ℕ) → IsBeforeLine more → IsBeforeLine (line depth key value ++ more)
line_and_more depth key value more (inl none) =
    inr (indentation depth ++ key ++ SPACE ∷ value, ap (λ (rest : List ℕ). line depth key value ++ rest) none ∙ append-nil (line depth key value))
line_and_more depth key value more (inr (before, is)) =
    inr (line depth key value ++ before, ap (λ (rest : List ℕ). line depth key value ++ rest) is ∙ sym (append_assoc (line depth key value) before (LINE_FEED ∷ [])))

lines_before_line : (pairs : List Pair) → IsBeforeLine (flat_map (λ (lines : Lines). lines 0) (map (fold-Pair Lines Lines Lines value_text_step pair_text_step list_text_step) pairs))
lines_before_line [] = inl refl
lines_before_line (pair ∷ pairs) =
    let more : List ℕ = flat_map (λ (lines : Lines). lines 0) (map (fold-Pair Lines Lines Lines value_text_step pair_text_step list_text_step) pairs) in
    subst (λ (lines : Lines). IsBeforeLine (lines 0 ++ more)) (sym (fold_out-Pair Lines Lines Lines value_text_step pair_text_step list_text_step pair))
    (line_and_more 0 pair.key (fold-Value Lines Lines Lines value_text_step pair_text_step list_text_step pair.value 0) more (lines_before_line pairs))

-- the printed text of a tree is empty or ends with a line feed
pub printed_before_line : (tree : Tree) → IsBeforeLine (printed tree)
printed_before_line tree =
    subst (λ (lines : Lines). IsBeforeLine (lines 0)) (sym (fold_out-Tree Lines Lines Lines value_text_step pair_text_step list_text_step tree)) (lines_before_line (out-Tree tree).pairs)
