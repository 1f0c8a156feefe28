use Rattle.compact_types.proofs.ScalingLemmas.{from_zero-scaled, from_zero_of_scaled}
use Rattle.compact_types.proofs.scalings.scaled_from_zero.Goals as goal

pub returns : goal.returns
returns c = λ by places scaled positive is.
    (from_zero-scaled by places scaled positive is, from_zero_of_scaled by places scaled positive is)
