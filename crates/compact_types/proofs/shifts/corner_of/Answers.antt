use Rattle.std.proofs.Common.{◌+◌, refl, arith}
use Rattle.compact_types.proofs.CornerLemmas.{corner_of_one, corner_one_more, corner_of_all}
use Rattle.compact_types.proofs.shifts.corner_of.Goals as goal

pub loop-v-init : goal.loop-v-init
loop-v-init c = corner_of_one c.args.points.now

pub loop-v-preserved : goal.loop-v-preserved
loop-v-preserved c =
    corner_one_more c.args.points.now c.loop-v.v (c.loop-v.v + 1) c.loop-v.corner c.common_corner-corner.result refl c.loop-v.invariant
    c.common_corner-corner.ensures.x c.common_corner-corner.ensures.y

pub returns : goal.returns
returns c = corner_of_all c.args.points.now c.loop-v.v c.loop-v.corner c.requires (omega arith) c.loop-v.invariant
