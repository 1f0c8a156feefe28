use Rattle.shape_graphs.proofs.KeyLemmas.{not_before_least, one_least}
use Rattle.shape_graphs.proofs.measure.least_keys.Goals as goal

pub returns-clause-never_before : goal.returns-clause-never_before
returns-clause-never_before g c = not_before_least

pub returns-clause-one : goal.returns-clause-one
returns-clause-one g c = one_least

pub returns-clause-same : goal.returns-clause-same
returns-clause-same g c = λ objective shape choices k l proof other right right'.
    one_least objective shape choices k l right.least right'.least
