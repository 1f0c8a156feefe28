use Rattle.compact_main.proofs.PairSums.{none_with}
use Rattle.compact_main.proofs.pairs.count_row.Goals as goal

pub loop-s-init : goal.loop-s-init
loop-s-init c = none_with _ _
