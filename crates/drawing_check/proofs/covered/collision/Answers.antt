use Rattle.drawing_check.proofs.MeetingLemmas.{collision_from_extents}
use Rattle.drawing_check.proofs.covered.collision.Goals as goal

pub returns : goal.returns
returns c =
    collision_from_extents c.args.points.now c.args.p c.args.q c.common_extent-shared.result c.requires.first c.requires.second
    c.common_extent-shared.ensures c.allowed_point.result _ c.allowed_point.ensures c.least_point.ensures
