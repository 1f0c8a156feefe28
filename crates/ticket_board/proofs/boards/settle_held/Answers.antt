use Rattle.board.proofs.Laws.{branch_pairs_settle}
use Rattle.ticket_board.proofs.AddedEntries.{adds_nothing, adds_settle}
use Rattle.ticket_board.proofs.SettledBranches.{children_fit}
use Rattle.ticket_board.proofs.boards.settle_held.Goals as goal

pub settle-requires-clause-pair : goal.settle-requires-clause-pair
settle-requires-clause-pair g c κs within = λ below. branch_pairs_settle _ _ _ c.args.verdict c.args.pair c.requires.pair

pub returns-in-Ok-clause-fit : goal.returns-in-Ok-clause-fit
returns-in-Ok-clause-fit g c =
    let known = c.outcome-what_is_known.ensures in
    children_fit c.args.board.now c.settle.new.self c.args.who c.args.id c.args.verdict c.in-Ok.what _ c.requires.held c.in-Ok.ensures.answer.1 known.outcome known.children_fit

pub returns-in-Ok-clause-adds : goal.returns-in-Ok-clause-adds
returns-in-Ok-clause-adds g c = adds_settle _ _ _ _ _ c.in-Ok.what c.in-Ok.ensures.answer.1

pub returns-in-Err-clause-adds : goal.returns-in-Err-clause-adds
returns-in-Err-clause-adds g c = adds_nothing _ _ _ c.in-Err.ensures.answer
