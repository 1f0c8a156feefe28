use Rattle.compact_types.proofs.ScaledDrawings.{crossing_free_of_scaled, drawing_of_scaled}
use Rattle.compact_types.proofs.ScalingLemmas.{crossing_free-scaled, drawing-scaled}
use Rattle.compact_types.proofs.scalings.scaling_keeps_drawings.Goals as goal

pub returns-clause-crossing_free : goal.returns-clause-crossing_free
returns-clause-crossing_free c = λ by shape places scaled positive is.
    (crossing_free-scaled by shape places scaled positive is, crossing_free_of_scaled by shape places scaled positive is)

pub returns-clause-drawing : goal.returns-clause-drawing
returns-clause-drawing c = λ by shape places scaled positive is.
    (drawing-scaled by shape places scaled positive is, drawing_of_scaled by shape places scaled positive is)
