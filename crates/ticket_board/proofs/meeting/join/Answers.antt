use Rattle.std.proofs.Common.{arith}
use Rattle.ticket_board.proofs.MetSeats.{meets}
use Rattle.ticket_board.proofs.meeting.join.Goals as goal

pub join_seat-requires : goal.join_seat-requires
join_seat-requires g c =
    let words = c.requires.sized.0 in
    let key = c.args.desk.now.key in
    (c.requires.table, c.requires.other, c.requires.empty, omega (arith, words), meets key.board.value key.first _ _ _ _ c.requires.idle c.requires.rests)
