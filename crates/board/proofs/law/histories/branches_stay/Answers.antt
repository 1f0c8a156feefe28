use Rattle.board.proofs.HistoryLaws.{known_stays, choices_stay, settled_stays, same_count, first_choices}
use Rattle.board.proofs.law.histories.branches_stay.Goals as goal

pub returns-clause-known : goal.returns-clause-known
returns-clause-known c = known_stays

pub returns-clause-choices : goal.returns-clause-choices
returns-clause-choices c = choices_stay

pub returns-clause-outcome : goal.returns-clause-outcome
returns-clause-outcome c = settled_stays

pub returns-clause-counted : goal.returns-clause-counted
returns-clause-counted c = same_count

pub returns-clause-first : goal.returns-clause-first
returns-clause-first c = first_choices
