use Rattle.std.proofs.Common.{arith}
use Rattle.ticket_board.proofs.MetSeats.{compares}
use Rattle.ticket_board.proofs.meeting.compare.Goals as goal

pub load-requires : goal.load-requires
load-requires g c =
    let words = c.requires.sized.0 in
    let key = c.args.desk.now.key in
    (c.requires.table, omega (arith, words), compares key.board.value key.first _ _ _ c.requires.idle)
