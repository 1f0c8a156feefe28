use Rattle.compact_types.specs.declared.places.Axis.TheVariants.{X, Y}
use Rattle.shape_graphs.specs.Graphs.{piece_arc_along}
use Rattle.shape_graphs.proofs.AddedArcs.{pushed_range}
use Rattle.shape_graphs.proofs.graphs.push_pieces.Goals as goal

pub loop-i-preserved : goal.loop-i-preserved
loop-i-preserved c = (
  pushed_range (piece_arc_along X c.args.bars.now) c.loop-i.i c.args.columns.now c.loop-i.columns c.push_some.new.arcs c.piece_arc.result
      c.loop-i.invariant.0 c.piece_arc.ensures c.in_ok-push_some.ensures,
  pushed_range (piece_arc_along Y c.args.bars.now) c.loop-i.i c.args.rows.now c.loop-i.rows c.push_some-in-loop-i.new.arcs c.piece_arc-in-loop-i.result
      c.loop-i.invariant.1 c.piece_arc-in-loop-i.ensures c.in_ok-push_some-2.ensures,
)
