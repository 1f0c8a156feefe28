use Rattle.std.proofs.Common.{List, below_more, subst}
use Rattle.compact_types.specs.declared.places.Point.{Point}
use Rattle.compact_types.specs.declared.plan.Way.{Way}
use Rattle.compact_types.specs.Lookups.{way_at}
use Rattle.compact_types.specs.Ways.{HasWay}
use Rattle.compact_types.specs.Drawings.{begin_of, end_of}
use Rattle.compact_types.proofs.Laws.{read_ends}
use Rattle.drawing_check.proofs.ways.has_ways.Goals as goal

pub loop-i-preserved : goal.loop-i-preserved
loop-i-preserved c =
    let goes = read_ends c.args.shape.now.plan c.args.places.now _ _ c.as_slice-pieces.ensures c.as_slice-points.ensures
    (λ (a b : Point). HasWay (way_at c.as_slice-ways.result.now c.loop-i.i) a b) c.loop-i.i (c.goes.ensures.0 c.if-not-goes.false) in
    let begin = begin_of c.args.shape.now.plan c.args.places.now c.loop-i.i in
    let end = end_of c.args.shape.now.plan c.args.places.now c.loop-i.i in
    below_more _ _ c.loop-i.invariant
    (subst (λ (ways : List Way). HasWay (way_at ways c.loop-i.i) begin end) c.as_slice-ways.ensures goes)
