use Rattle.std.proofs.Common.{◌≡◌, ◌∙◌, ◌++◌, List, length, ap, arith}
use Rattle.compact_types.specs.declared.places.Axis.TheVariants.{X, Y}
use Rattle.bars.specs.declared.spans.SegmentSpan.{SegmentSpan}
use Rattle.bars.specs.inner.Spans.{spans_along}
use Rattle.bars.proofs.MarkTables.{number_below}
use Rattle.bars.proofs.SharedVertices.{tables_are}
use Rattle.bars.proofs.segments.bars_of.Goals as goal

pub crossings_of-requires-clause-rows : goal.crossings_of-requires-clause-rows
crossings_of-requires-clause-rows c = λ v within.
    number_below X c.args.shape.now c.in_ok-rows.rows c.in_ok-rows.ensures v (omega (arith, within, c.in_ok-rows.ensures.one_for_each))

pub crossings_of-requires-clause-columns : goal.crossings_of-requires-clause-columns
crossings_of-requires-clause-columns c = λ v within.
    number_below Y c.args.shape.now c.in_ok-columns.columns c.in_ok-columns.ensures v (omega (arith, within, c.in_ok-columns.ensures.one_for_each))

pub invariant_of-result : goal.invariant_of-result
invariant_of-result c =
    let rows : c.add_spans.new.spans.items ≡ spans_along X c.args.shape.now =
    c.in_ok-add_spans.ensures ∙ ap (λ (l : List SegmentSpan). l ++ spans_along X c.args.shape.now) c.new-spans.ensures.items in
    tables_are c.args.shape.now c.in_ok-copy.field-0 c.in_ok-rows.rows c.in_ok-columns.columns c.add_spans-2.new.spans.items c.len-row_segments.result c.in_ok-crossings.crossings.items
    c.in_ok-copy.ensures c.requires c.in_ok-rows.ensures c.in_ok-columns.ensures
    (c.in_ok-add_spans-2.ensures ∙ ap (λ (l : List SegmentSpan). l ++ spans_along Y c.args.shape.now) rows)
    (c.len-row_segments.ensures ∙ c.add_spans.new.spans.ok.0 ∙ ap length rows) c.in_ok-crossings.ensures
