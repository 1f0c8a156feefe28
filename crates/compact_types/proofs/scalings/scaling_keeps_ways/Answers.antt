use Rattle.compact_types.proofs.ScalingLemmas.{ways-scaled, ways_of_scaled}
use Rattle.compact_types.proofs.scalings.scaling_keeps_ways.Goals as goal

pub returns : goal.returns
returns c = λ by shape places scaled positive is.
    (ways-scaled by shape places scaled positive is, ways_of_scaled by shape places scaled positive is)
