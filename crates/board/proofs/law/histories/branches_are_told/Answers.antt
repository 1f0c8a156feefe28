use Rattle.board.proofs.TellingLaws.{told}
use Rattle.board.proofs.law.histories.branches_are_told.Goals as goal

pub returns : goal.returns
returns c = told
