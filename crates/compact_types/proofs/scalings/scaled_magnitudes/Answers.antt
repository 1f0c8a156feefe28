use Rattle.compact_types.proofs.ScalingLemmas.{within-scaled}
use Rattle.compact_types.proofs.scalings.scaled_magnitudes.Goals as goal

pub returns : goal.returns
returns c = within-scaled
