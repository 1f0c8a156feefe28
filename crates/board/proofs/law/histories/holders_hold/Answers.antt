use Rattle.board.proofs.TellingLaws.{holder_holds, held_claimed, held_not_settled}
use Rattle.board.proofs.law.histories.holders_hold.Goals as goal

pub returns-clause-holds : goal.returns-clause-holds
returns-clause-holds c = holder_holds

pub returns-clause-claimed : goal.returns-clause-claimed
returns-clause-claimed c = held_claimed

pub returns-clause-not_settled : goal.returns-clause-not_settled
returns-clause-not_settled c = held_not_settled
