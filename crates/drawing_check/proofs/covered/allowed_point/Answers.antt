use Rattle.std.proofs.Common.{refl}
use Rattle.drawing_check.proofs.MeetingLemmas.{allowed_from_end, nothing_allowed}
use Rattle.drawing_check.proofs.covered.allowed_point.Goals as goal

pub returns-in_err-vertex : goal.returns-in_err-vertex
returns-in_err-vertex c = rw c.from_residual.ensures (nothing_allowed c.args.points.now c.args.p c.args.q c.in_err-vertex.ensures)

pub returns : goal.returns
returns c = allowed_from_end c.args.points.now c.args.p c.args.q c.in_ok-vertex.vertex _ c.in_ok-vertex.ensures refl
