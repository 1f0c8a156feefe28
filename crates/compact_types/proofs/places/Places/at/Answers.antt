use Rattle.std.proofs.Common.{rules, pos, get_or}
use Rattle.std.proofs.lemmas.Int.{to_z-of_z}
use mir.Syntax.{w32}
use mir.Val.{SFits}
use Rattle.compact_types.specs.declared.limits.TheConstants.{GREATEST_THOUSANDTHS}
use Rattle.compact_types.proofs.ListLemmas.{points_one_more, within_one_more}
use Rattle.compact_types.proofs.places.Places.at.Goals as goal

pub loop-x-preserved : goal.loop-x-preserved
loop-x-preserved c =
    let fits_x : SFits w32 (get_or c.args.points.now c.loop-x.x-index (pos 0, pos 0)).0 = search rules in
    let fits_y : SFits w32 (get_or c.args.points.now c.loop-x.x-index (pos 0, pos 0)).1 = search rules in
    let here = simp to_z-of_z at c.small_point.ensures.is in (
      points_one_more c.args.points.now c.loop-x.x-index (pos 0, pos 0) c.loop-x.xy c.push.new.self c.small_point.result c.loop-x-test.true
          c.in_ok-push.ensures.ok c.loop-x.invariant.0 here,
      within_one_more GREATEST_THOUSANDTHS c.loop-x.xy c.push.new.self c.small_point.result c.in_ok-push.ensures.ok c.loop-x.invariant.1 c.small_point.ensures.near,
    )
