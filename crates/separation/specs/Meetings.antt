-- Segments that meet in given places.
use Rattle.std.specs.Prelude.{ℕ}
use Rattle.compact_types.specs.declared.places.Point.{Point}
use Rattle.compact_types.specs.declared.places.Places.{Places}
use Rattle.compact_types.specs.declared.plan.Shape.{Shape}
use Rattle.compact_types.specs.Drawings.{OnPiece}
use Rattle.bars.specs.Segments.{IsPieceOf, IsPair}

-- the point lies on a piece of the segment
abbrev pub LiesOn : Shape → Places → ℕ → Point → Type 0
LiesOn shape places s z = (i : ℕ) × IsPieceOf shape s i × OnPiece shape.plan places i z

-- some whole point lies on a piece of each of the two segments
abbrev pub ShareAPoint : Shape → Places → ℕ → ℕ → Type 0
ShareAPoint shape places s t = (z : Point) × LiesOn shape places s z × LiesOn shape places t z

-- no two segments without a common vertex share a point
abbrev pub AreApart : Shape → Places → Type 0
AreApart shape places = (s t : ℕ) → IsPair shape s t → ShareAPoint shape places s t → ⊥

-- a pair of segments without a common vertex that share a point in the places
pub record IsSharingPair (shape : Shape) (places : Places) (s t : ℕ) : Type 0 where
  pub pair : IsPair shape s t
  pub share : ShareAPoint shape places s t
