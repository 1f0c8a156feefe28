use Rattle.compact_types.proofs.SumLemmas.{sum_to-split, sum_to-add, sum_to-scale, sum_to-changed, sum_to-exchange, sum_to-not_greater}
use Rattle.compact_types.proofs.sums.sums_add_up.Goals as goal

pub returns-clause-split : goal.returns-clause-split
returns-clause-split c = sum_to-split

pub returns-clause-added : goal.returns-clause-added
returns-clause-added c = sum_to-add

pub returns-clause-scaled : goal.returns-clause-scaled
returns-clause-scaled c = sum_to-scale

pub returns-clause-changed : goal.returns-clause-changed
returns-clause-changed c = sum_to-changed

pub returns-clause-exchanged : goal.returns-clause-exchanged
returns-clause-exchanged c = sum_to-exchange

pub returns-clause-not_greater : goal.returns-clause-not_greater
returns-clause-not_greater c = sum_to-not_greater
