use Rattle.std.proofs.Common.{refl}
use Rattle.ticket_board.proofs.AddedEntries.{adds_nothing, goes_back}
use Rattle.ticket_board.proofs.boards.TicketBoard.look.Goals as goal

pub end_turn-requires-clause-adds : goal.end_turn-requires-clause-adds
end_turn-requires-clause-adds g c κs within = goes_back _ _ _ _ _ c.begin_turn-seat.ensures.taken c.begin_turn-seat.ensures.its refl (adds_nothing _ _ _ refl)
