use Rattle.compact_types.proofs.OneBest.{one_best}
use Rattle.compact_types.proofs.bests.at_most_one_best.Goals as goal

pub returns : goal.returns
returns c = one_best
