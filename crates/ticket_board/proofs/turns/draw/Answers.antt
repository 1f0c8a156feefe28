use Rattle.std.proofs.Common.{arith}
use Rattle.ticket_board.proofs.DrawnTickets.{draws}
use Rattle.ticket_board.proofs.turns.draw.Goals as goal

pub fetch_add-requires : goal.fetch_add-requires
fetch_add-requires g c =
    let words = c.requires.sized.0 in
    (c.requires.table, omega (arith, words), draws c.args.desk.now.key.board.value c.args.desk.now.key.first _ _ _ c.requires.idle)
