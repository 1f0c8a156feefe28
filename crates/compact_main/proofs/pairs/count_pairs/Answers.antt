use Rattle.compact_main.proofs.PairSums.{none_below}
use Rattle.compact_main.proofs.pairs.count_pairs.Goals as goal

pub loop-t-init : goal.loop-t-init
loop-t-init c = none_below _
