use Rattle.potentials.proofs.LeastKeys.{some_least_key}
use Rattle.potentials.proofs.law.least_key_exists.Goals as goal

pub returns : goal.returns
returns c = λ shape choices sound fit none. some_least_key shape choices sound fit none
