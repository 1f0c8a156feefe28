use Rattle.compact_main.specs.inner.PairCounts.{AreCountsWith}
use Rattle.compact_main.proofs.pairs.count_row.Given as goal

-- the pairs with the segments so far are counted
abbrev pub invariant-loop-s : goal.invariant-loop-s
invariant-loop-s l = AreCountsWith l.bars l.t l.s l.counts
