use Rattle.std.proofs.Common.{arith}
use Rattle.drawing_check.proofs.meeting.first_meeting.Goals as goal

pub returns : goal.returns
returns c = λ p q order inside. c.loop-first.invariant.apart p q (omega arith) order inside
