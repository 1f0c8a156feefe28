use Rattle.std.proofs.Common.{ap, subst}
use Rattle.ticket_board.specs.inner.Plays.{IsBoardOf}
use Rattle.ticket_board.specs.inner.Turns.{HasTakenBoard}
use Rattle.ticket_board.proofs.HeldSlots.{is_serving, its_board, taken}
use Rattle.ticket_board.proofs.turns.begin_turn.Goals as goal

pub move_out-board-requires-clause-full : goal.move_out-board-requires-clause-full
move_out-board-requires-clause-full g c κs within =
    (c.wait_for.ensures.served.board, is_serving _ _ _ _ (ap (λ me. me.1) c.sit_down-seat.ensures.me) c.draw-ticket.ensures.drawn c.wait_for.ensures.served)

pub returns-clause-taken : goal.returns-clause-taken
returns-clause-taken g c =
    let me = c.sit_down-seat.ensures.me in
    subst (λ view. HasTakenBoard view c.move_out-board.result c.move_out-board.new.seat.me) (ap (λ me. me.0) me)
    (taken _ _ _ _ _ _ (ap (λ me. me.1) me) c.draw-ticket.ensures.drawn c.wait_for.ensures.served c.move_out-board.ensures.out c.move_out-board.ensures.me)

pub returns-clause-its : goal.returns-clause-its
returns-clause-its g c =
    let me = c.sit_down-seat.ensures.me in
    subst (λ view. IsBoardOf view c.move_out-board.result) (ap (λ me. me.0) me)
    (its_board _ _ _ _ _ (ap (λ me. me.1) me) c.draw-ticket.ensures.drawn c.wait_for.ensures.served c.move_out-board.ensures.out)
