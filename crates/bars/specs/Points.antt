-- Drawings that are given by their points and by the ends of their pieces.
use Rattle.std.specs.Prelude.{◌≡◌, ℕ, ◌≤◌, ℤ, List, length}
use Rattle.compact_types.specs.declared.limits.TheConstants.{MOST_PIECES}
use Rattle.compact_types.specs.declared.places.Places.{Places}
use Rattle.compact_types.specs.declared.plan.Shape.{Shape}
use Rattle.compact_types.specs.Drawings.{IsDrawing}
use Rattle.compact_types.specs.Lookups.{points_at, pieces_between}
use Rattle.bars.specs.Solutions.{IsSound}

-- the places are a connected drawing of the shape, with these points and these ends of its pieces
pub record IsDrawnAt (points : List (ℤ × ℤ)) (ends : List (ℕ × ℕ)) (shape : Shape) (places : Places) :
    Type 0 where
  pub points_are : places.xy ≡ points_at points
  pub pieces_are : shape.plan.pieces ≡ pieces_between ends
  pub few_pieces : length ends ≤ MOST_PIECES
  pub sound : IsSound shape
  pub drawing : IsDrawing shape places

-- there is no such drawing
abbrev pub HaveNoDrawing : List (ℤ × ℤ) → List (ℕ × ℕ) → Type 0
HaveNoDrawing points ends =
    (shape : Shape) (places : Places) → IsDrawnAt points ends shape places → ⊥
