use Rattle.bars.specs.Segments.{IsPair}
use Rattle.compact_main.specs.Summaries.{IsSeparatedPair}
use Rattle.compact_main.proofs.CountsBelow.{count_by_test, one_pair_count}
use Rattle.compact_main.proofs.law.counts_are_exact.Goals as goal

pub returns-clause-tested : goal.returns-clause-tested
returns-clause-tested c = count_by_test

pub returns-clause-pairs : goal.returns-clause-pairs
returns-clause-pairs c = λ shape. one_pair_count (IsPair shape)

pub returns-clause-separated : goal.returns-clause-separated
returns-clause-separated c = λ shape. one_pair_count (IsSeparatedPair shape)
