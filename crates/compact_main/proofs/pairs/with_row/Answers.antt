use Rattle.std.proofs.Common.{arith}
use Rattle.compact_main.proofs.PairSums.{row_counted}
use Rattle.compact_main.proofs.pairs.with_row.Goals as goal

pub returns : goal.returns
returns c = row_counted _ _ _ _ (omega (arith, c.requires.t, c.requires.few)) c.requires.so_far c.count_row-row.ensures
