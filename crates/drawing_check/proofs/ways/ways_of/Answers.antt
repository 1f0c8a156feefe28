use Rattle.std.proofs.Common.{◌<◌, arith, ap, length}
use Rattle.compact_types.specs.declared.places.Point.{Point}
use Rattle.compact_types.specs.declared.plan.Way.{Way}
use Rattle.compact_types.specs.Ways.{HasWay}
use Rattle.compact_types.proofs.Laws.{read_ends}
use Rattle.drawing_check.proofs.WayLemmas.{slanted_without_way, way_not_slanted, ways_one_more}
use Rattle.drawing_check.proofs.ways.ways_of.Goals as goal

pub returns-in-None-clause-fault : goal.returns-in-None-clause-fault
returns-in-None-clause-fault c =
    let plan = c.args.plan.now in
    let places = c.args.places.now in
    let inside : c.loop-i.i < length plan.pieces = omega (arith, ap length c.as_slice-pieces.ensures) in
    let none = read_ends plan places _ _ c.as_slice-pieces.ensures c.as_slice-points.ensures
    (λ (a b : Point). (way : Way) → HasWay way a b → ⊥) c.loop-i.i c.in-None.ensures in (
      c.requires.lengths,
      (
        inside,
        slanted_without_way _ _ (c.requires.lengths c.loop-i.i inside) none,
        λ u before slanted. way_not_slanted _ _ _ (c.loop-i.invariant.1 u before) slanted,
      ),
    )

pub loop-i-preserved : goal.loop-i-preserved
loop-i-preserved c =
    let goes = read_ends c.args.plan.now c.args.places.now _ _ c.as_slice-pieces.ensures c.as_slice-points.ensures
    (λ (a b : Point). HasWay c.in-Some.way a b) c.loop-i.i c.in-Some.ensures in
    let pushed = c.in_ok-push-in-Some.ensures in
    ways_one_more c.args.plan.now c.args.places.now c.loop-i.ways c.push.new.self c.loop-i.i c.in-Some.way pushed.ok
    c.loop-i.invariant.0 c.loop-i.invariant.1 goes
