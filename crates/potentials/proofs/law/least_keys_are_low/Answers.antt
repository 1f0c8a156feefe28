use Rattle.potentials.proofs.LowKeys.{least_key_taken, least_key_low}
use Rattle.potentials.proofs.law.least_keys_are_low.Goals as goal

pub returns-clause-taken : goal.returns-clause-taken
returns-clause-taken c = λ shape choices key sound fit least axis.
    least_key_taken shape choices sound fit key least axis

pub returns-clause-low : goal.returns-clause-low
returns-clause-low c = λ shape choices key sound fit least axis.
    least_key_low shape choices sound fit key least axis
