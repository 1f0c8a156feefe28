use Rattle.drawing_check.specs.inner.Partners.{ArePiecesApart}
use Rattle.drawing_check.proofs.meeting.first_meeting.Given as goal

abbrev pub invariant-loop-first : goal.invariant-loop-first
invariant-loop-first l = ArePiecesApart l.plan l.places l.first
