use Rattle.potentials.proofs.TightKeys.{worth_above, tight_at_bound, bound_at_tight, least_from_tight}
use Rattle.potentials.proofs.law.flows_bound_worths.Goals as goal

pub returns-clause-bound : goal.returns-clause-bound
returns-clause-bound c = λ shape choices flows places sound fit balanced solves.
    worth_above shape choices sound fit flows balanced places solves

pub returns-clause-equal : goal.returns-clause-equal
returns-clause-equal c = λ shape choices flows places sound fit balanced solves. (
  tight_at_bound shape choices sound fit flows balanced places solves,
  bound_at_tight shape choices sound fit flows balanced places solves,
)

pub returns-clause-least : goal.returns-clause-least
returns-clause-least c = λ shape choices flows places sound fit balanced least.
    least_from_tight shape choices sound fit flows balanced places least
