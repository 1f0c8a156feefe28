use Rattle.drawing_check.specs.inner.Seats.{AreSeatsOfPieces}
use Rattle.drawing_check.proofs.seats.numbered.Given as goal

abbrev pub invariant-loop-number : goal.invariant-loop-number
invariant-loop-number l = AreSeatsOfPieces l.axis l.points l.pieces l.number l.seats.items
