use Rattle.board.proofs.ParentLaws.{branches_differ, opened_from_split, some_parent}
use Rattle.board.proofs.law.histories.branches_differ.Goals as goal

pub returns-clause-choices : goal.returns-clause-choices
returns-clause-choices c = λ history a b legal in_a in_b same. branches_differ history legal a b in_a in_b same

pub returns-clause-child : goal.returns-clause-child
returns-clause-child c = λ history parent id legal from. opened_from_split history legal parent id from

pub returns-clause-parent : goal.returns-clause-parent
returns-clause-parent c = λ history id legal some below. some_parent history legal id some below
