use Rattle.compact_types.proofs.ScalingLemmas.{scaled_not_off, one_first_off}
use Rattle.compact_types.proofs.GridLemmas.{some_scaled_or_off}
use Rattle.compact_types.proofs.scalings.scaled_or_off.Goals as goal

pub returns-clause-not_both : goal.returns-clause-not_both
returns-clause-not_both c = scaled_not_off

pub returns-clause-one : goal.returns-clause-one
returns-clause-one c = one_first_off

pub returns-clause-some : goal.returns-clause-some
returns-clause-some c = λ by places positive. some_scaled_or_off by positive places
