use Rattle.compact_types.proofs.OrderLemmas.{not_before_itself, before_trans, before_or_equal}
use Rattle.compact_types.proofs.orders.keys_are_ordered.Goals as goal

pub returns-clause-irreflexive : goal.returns-clause-irreflexive
returns-clause-irreflexive c = not_before_itself

pub returns-clause-transitive : goal.returns-clause-transitive
returns-clause-transitive c = before_trans

pub returns-clause-total : goal.returns-clause-total
returns-clause-total c = before_or_equal
