use Rattle.board.proofs.PairLaws as laws
use Rattle.board.proofs.law.facts.branch_pairs_settle.Goals as goal

pub returns : goal.returns
returns g c = λ shape choices incumbent verdict pair branch. laws.branch_pairs_settle shape choices incumbent verdict pair branch
