use Rattle.board.proofs.OpenLaws.{all_settled}
use Rattle.board.proofs.law.histories.all_settled.Goals as goal

pub returns : goal.returns
returns c = all_settled
