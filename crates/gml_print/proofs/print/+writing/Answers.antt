use Rattle.std.proofs.Common.{◌≡◌, [], ◌∷◌, ◌++◌, ap, ◌∙◌, suc, arith}
use Rattle.std.specs.List.{flat_map}
use Rattle.std.proofs.lemmas.List.{take_all}
use Rattle.std.proofs.lemmas.Result.{on_ok_weaker}
use Rattle.gml_text.specs.declared.marks.TheConstants.{SPACE}
use Rattle.gml_print.specs.Printing.{printed_at, indentation}
use Rattle.gml_print.specs.inner.Pieces.{pair_text}
use Rattle.gml_print.proofs.TextEquations.{indentation_deeper, bracketed_pieces, printed_at_lines}
use Rattle.gml_print.proofs.print.+writing.Goals as goal

-- the pieces of a list, with its pairs one depth deeper
pub write_value-returns-in_ok-write_tree-in-Inner-clause-text : goal.write_value-returns-in_ok-write_tree-in-Inner-clause-text
write_value-returns-in_ok-write_tree-in-Inner-clause-text t c = λ depth e.
    let opened = c.in_ok-open_list-in-Inner.ensures in
    let inside = c.in_ok-write_tree-in-Inner.ensures in
    let deeper : c.open_list.new.indent ≡ indentation (suc depth) =
    opened.indent ∙ ap (λ spaces. spaces ++ SPACE ∷ SPACE ∷ []) e ∙ indentation_deeper depth in
    rw c.in-Inner.is
    (on_ok_weaker c.close_list.result
    (bracketed_pieces depth c.args.text.now _ (printed_at c.in-Inner.tree (suc depth)) _ _ _ opened.text (inside.text (suc depth) deeper) e)
    (c.close_list.ensures.text c.args.indent.now (inside.indent ∙ opened.indent)))

-- all pairs are written
pub write_tree-returns-clause-text : goal.write_tree-returns-clause-text
write_tree-returns-clause-text t c = λ depth e.
    rw (printed_at_lines c.args.tree.now depth, ← c.as_slice-pair-items.ensures)
    (c.loop-pair.invariant.lines depth e ∙
    ap (λ pairs. c.args.text.now ++ flat_map (λ pair. pair_text pair depth) pairs) (take_all c.loop-pair.pair-index c.as_slice-pair-items.result.now (omega arith)))
