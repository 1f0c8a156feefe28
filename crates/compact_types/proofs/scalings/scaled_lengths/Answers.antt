use Rattle.compact_types.proofs.ScalingLemmas.{length-scaled}
use Rattle.compact_types.proofs.scalings.scaled_lengths.Goals as goal

pub returns : goal.returns
returns c = length-scaled
