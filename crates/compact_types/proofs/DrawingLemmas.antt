-- What makes a drawing. Proofs make one by this lemma alone, so that it is the one that changes when
-- more is asked of a drawing.
use Rattle.compact_types.specs.declared.places.Places.{Places}
use Rattle.compact_types.specs.declared.plan.Shape.{Shape}
use Rattle.compact_types.specs.Drawings.{IsCrossingFree, IsDrawing}

pub drawing_of_crossing_free : (shape : Shape) (places : Places) → IsCrossingFree shape places → IsDrawing shape places
drawing_of_crossing_free shape places free = record { crossing_free = free }
