use Rattle.board.proofs.SplitLaws.{splits_at_branch_pair, splits_name_a_pair}
use Rattle.board.proofs.law.facts.splits_name_a_pair.Goals as goal

pub returns-clause-choices : goal.returns-clause-choices
returns-clause-choices g c = λ board id first s t facts below done side few.
    splits_name_a_pair g.P.Backing.objective g.P.Backing.backs board id first s t facts below done side few

pub returns-clause-branch_pair : goal.returns-clause-branch_pair
returns-clause-branch_pair g c = λ board id first s t verdict facts below done is.
    splits_at_branch_pair g.P.Backing.objective g.P.Backing.backs board id first s t verdict facts below done is
