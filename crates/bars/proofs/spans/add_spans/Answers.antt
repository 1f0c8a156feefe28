use Rattle.std.proofs.Common.{◌<◌, ◌∙◌, ap, arith, rules, refl, List, Bool, false, slice_index_or}
use Rattle.bars.specs.Lines.{line_count}
use Rattle.bars.proofs.SpanTable.{first_below, last_below, first_read, last_read, span_read, added_more}
use Rattle.bars.proofs.spans.add_spans.Goals as goal

pub bounds-line_across-first : goal.bounds-line_across-first
bounds-line_across-first c =
    let read = first_read c.args.axis c.args.shape.now c.in_ok-ends.ends c.args.across.now c.in_ok-ends.ensures c.requires.across c.requires.some_vertex _ c.as_slice-first.ensures.value
    c.loop-line.line (omega (arith, c.requires.lines.count)) in
    let below = first_below c.args.axis c.args.shape.now c.loop-line.line c.requires.some_vertex in
    omega (arith, read, below, c.requires.across.one_for_each)

pub bounds-line_across-last : goal.bounds-line_across-last
bounds-line_across-last c =
    let read = last_read c.args.axis c.args.shape.now c.in_ok-ends.ends c.args.across.now c.in_ok-ends.ensures c.requires.across c.requires.some_vertex _ c.as_slice-last.ensures.value
    c.loop-line.line (omega (arith, c.requires.lines.count)) in
    let below = last_below c.args.axis c.args.shape.now c.loop-line.line c.requires.some_vertex in
    omega (arith, read, below, c.requires.across.one_for_each)

pub loop-line-preserved : goal.loop-line-preserved
loop-line-preserved c =
    let within : c.loop-line.line < line_count c.args.axis c.args.shape.now = omega (arith, c.requires.lines.count) in
    added_more c.args.axis c.args.shape.now c.loop-line.line c.args.spans.now.items c.loop-line.spans.items c.push_if.new.spans.items _ _
    (ap (λ (l : List Bool). slice_index_or l c.loop-line.line false) c.as_slice-has_piece.ensures.value ∙ c.in_ok-ends.ensures.has_piece c.loop-line.line within)
    (span_read c.args.axis c.args.shape.now c.in_ok-ends.ends c.args.across.now c.in_ok-ends.ensures c.requires.across c.requires.some_vertex _ _ _ _ c.loop-line.line
    c.as_slice-first.ensures.value c.as_slice-last.ensures.value c.as_slice-line_across.ensures.value within refl refl refl)
    c.loop-line.invariant (search rules)
