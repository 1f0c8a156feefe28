use Rattle.diff_flow.proofs.Duality.{bound_below, tight_where_equal, equal_where_tight, best_by_tight}
use Rattle.diff_flow.proofs.law.flows_bound_lengths.Goals as goal

pub returns-clause-bound : goal.returns-clause-bound
returns-clause-bound c = bound_below

pub returns-clause-equal : goal.returns-clause-equal
returns-clause-equal c = λ nodes arcs amounts numbers ends balances solution.
    (tight_where_equal nodes arcs amounts numbers ends balances solution, equal_where_tight nodes arcs amounts numbers ends balances)

pub returns-clause-best : goal.returns-clause-best
returns-clause-best c = best_by_tight
