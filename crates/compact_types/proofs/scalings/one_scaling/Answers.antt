use Rattle.compact_types.proofs.ScalingLemmas.{one_scaled}
use Rattle.compact_types.proofs.scalings.one_scaling.Goals as goal

pub returns : goal.returns
returns c = one_scaled
