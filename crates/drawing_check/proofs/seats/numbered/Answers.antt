use Rattle.drawing_check.proofs.SeatLemmas.{numbered_one_more}
use Rattle.drawing_check.proofs.seats.numbered.Goals as goal

pub loop-number-preserved : goal.loop-number-preserved
loop-number-preserved c =
    numbered_one_more c.args.axis c.args.points.now c.args.pieces.now c.loop-number.number c.loop-number.seats.items _ c.seat_of.result
    c.in_ok-push.ensures.items c.seat_of.ensures.number c.seat_of.ensures.piece c.seat_of.ensures.placed c.loop-number.invariant
