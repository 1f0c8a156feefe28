use Rattle.board.specs.Histories.{opened}
use Rattle.board.proofs.HistoryLaws.{replayed-append, all_fit-append}
use Rattle.board.proofs.law.histories.histories_grow.Goals as goal

pub returns-clause-replayed : goal.returns-clause-replayed
returns-clause-replayed c = replayed-append opened

pub returns-clause-legal : goal.returns-clause-legal
returns-clause-legal c = all_fit-append opened
