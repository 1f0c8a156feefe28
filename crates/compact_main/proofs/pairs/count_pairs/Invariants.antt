use Rattle.compact_main.specs.inner.PairCounts.{AreCountsBelow}
use Rattle.compact_main.proofs.pairs.count_pairs.Given as goal

-- the pairs of the segments so far are counted
abbrev pub invariant-loop-t : goal.invariant-loop-t
invariant-loop-t l = AreCountsBelow l.bars l.t l.counts
