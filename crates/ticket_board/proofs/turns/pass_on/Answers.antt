use Rattle.std.proofs.Common.{arith}
use Rattle.ticket_board.proofs.PassedTurns.{passes}
use Rattle.ticket_board.proofs.turns.pass_on.Goals as goal

pub fetch_add-requires : goal.fetch_add-requires
fetch_add-requires g c =
    let words = c.requires.sized.0 in
    let full = c.requires.full in
    (c.requires.table, omega (arith, words), passes c.args.desk.now.key.board.value c.args.desk.now.key.first _ _ _ full.board full.serves.stage full.serves.slot full.adds)
