use Rattle.board.proofs.BestLaws.{none_open_is_best}
use Rattle.board.proofs.law.facts.no_open_branch_is_best.Goals as goal

pub returns : goal.returns
returns g c = λ board facts none. none_open_is_best g.P.Backing.objective g.P.Backing.backs board facts none
