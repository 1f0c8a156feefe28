use Rattle.std.proofs.Common.{ap, arith, length}
use Rattle.std.proofs.lemmas.List.{with_items_is}
use Rattle.std.specs.Vec.{with_items}
use Rattle.compact_types.specs.Axes.{low_end, high_end}
use Rattle.bars.proofs.LineEnds.{low_is_vertex, high_is_vertex}
use Rattle.bars.proofs.MarkTables.{marked_more, line_read, line_read_below, along_read, end_read, marks_are}
use Rattle.bars.proofs.marks.marks_of.Goals as goal

pub mark_if-requires : goal.mark_if-requires
mark_if-requires c =
    let below = line_read_below c.args.axis c.args.shape.now c.args.lines.now c.requires _ _ c.as_slice-numbers.ensures.value c.as_slice-pieces.ensures c.loop-i.i (omega arith) in
    omega (arith, below, c.requires.count, c.in_ok-has_piece.ensures.len)

pub loop-i-preserved : goal.loop-i-preserved
loop-i-preserved c =
    let along = along_read c.args.axis c.args.shape.now _ c.loop-i.i _ c.as_slice-ways.ensures c.goes_along-along.ensures in
    record {
      lines = marked_more _ _ c.loop-i.i c.loop-i.marked_lines c.mark_if.new.marks _ _ along
          (line_read c.args.axis c.args.shape.now c.args.lines.now c.requires _ _ c.as_slice-numbers.ensures.value c.as_slice-pieces.ensures c.loop-i.i (omega arith))
          (let below = line_read_below c.args.axis c.args.shape.now c.args.lines.now c.requires _ _ c.as_slice-numbers.ensures.value c.as_slice-pieces.ensures c.loop-i.i (omega arith) in
          omega (arith, below, c.requires.count, c.in_ok-has_piece.ensures.len))
          c.mark_if.ensures c.loop-i.invariant.lines;
      before = marked_more _ _ c.loop-i.i c.loop-i.marked_before c.mark_if-in-loop-i.new.marks _ c.high_end.result along
          (end_read high_end c.args.shape.now _ _ c.loop-i.i _ c.as_slice-ways.ensures c.as_slice-pieces.ensures c.high_end.ensures)
          (let is = end_read high_end c.args.shape.now _ _ c.loop-i.i c.high_end.result c.as_slice-ways.ensures c.as_slice-pieces.ensures c.high_end.ensures in
          let below = high_is_vertex c.args.shape.now c.loop-i.i (omega (arith, ap length c.as_slice-pieces.ensures)) in omega (arith, is, below, c.in_ok-before.ensures.len))
          c.mark_if-in-loop-i.ensures c.loop-i.invariant.before;
      after = marked_more _ _ c.loop-i.i c.loop-i.marked_after c.mark_if-in-loop-i-2.new.marks _ c.low_end.result along
          (end_read low_end c.args.shape.now _ _ c.loop-i.i _ c.as_slice-ways.ensures c.as_slice-pieces.ensures c.low_end.ensures)
          (let is = end_read low_end c.args.shape.now _ _ c.loop-i.i c.low_end.result c.as_slice-ways.ensures c.as_slice-pieces.ensures c.low_end.ensures in
          let below = low_is_vertex c.args.shape.now c.loop-i.i (omega (arith, ap length c.as_slice-pieces.ensures)) in omega (arith, is, below, c.in_ok-after.ensures.len))
          c.mark_if-in-loop-i-2.ensures c.loop-i.invariant.after;
    }

pub returns : goal.returns
returns c =
    marks_are c.args.axis c.args.shape.now c.loop-i.i c.loop-i.marked_lines c.loop-i.marked_before c.loop-i.marked_after
    (record {
      has_piece = with_items c.in_ok-has_piece.has_piece c.loop-i.marked_lines;
      before = with_items c.in_ok-before.before c.loop-i.marked_before;
      after = with_items c.in_ok-after.after c.loop-i.marked_after;
    })
    (omega (arith, ap length c.as_slice-pieces.ensures)) c.loop-i.invariant.lines c.loop-i.invariant.before c.loop-i.invariant.after
    (omega (arith, c.requires.count, c.in_ok-has_piece.ensures.len)) (omega (arith, c.in_ok-before.ensures.len)) (omega (arith, c.in_ok-after.ensures.len)) (with_items_is c.in_ok-has_piece.has_piece c.loop-i.marked_lines (omega (arith, c.in_ok-has_piece.ensures.len))) (with_items_is c.in_ok-before.before c.loop-i.marked_before (omega (arith, c.in_ok-before.ensures.len))) (with_items_is c.in_ok-after.after c.loop-i.marked_after (omega (arith, c.in_ok-after.ensures.len)))
