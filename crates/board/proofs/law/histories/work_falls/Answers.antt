use Rattle.board.proofs.WorkLaws.{work_stays, work_falls}
use Rattle.board.proofs.law.histories.work_falls.Goals as goal

pub returns-clause-claimed : goal.returns-clause-claimed
returns-clause-claimed c = work_stays

pub returns-clause-settled : goal.returns-clause-settled
returns-clause-settled c = work_falls
