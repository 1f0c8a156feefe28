use Rattle.board.proofs.OpenLaws.{nothing_opens_again}
use Rattle.board.proofs.law.histories.nothing_opens_again.Goals as goal

pub returns-clause-nothing : goal.returns-clause-nothing
returns-clause-nothing c = nothing_opens_again
