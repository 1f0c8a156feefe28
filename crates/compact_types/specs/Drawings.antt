-- What a drawing of a shape is.
use Rattle.std.specs.Prelude.{◌≡◌, ℕ, ◌<◌, pos, ◌≤ℤ◌, length}
use Rattle.compact_types.specs.declared.places.Point.{Point}
use Rattle.compact_types.specs.declared.places.Places.{Places}
use Rattle.compact_types.specs.declared.places.Axis.{Axis}
use Rattle.compact_types.specs.declared.plan.Plan.{Plan}
use Rattle.compact_types.specs.declared.plan.Shape.{Shape}
use Rattle.compact_types.specs.Lookups.{place, piece_at, way_at, along, IsEnd, HaveSameEnds}
use Rattle.compact_types.specs.Ways.{HasWay}
use Rattle.compact_types.specs.Segments.{OnSegment}

-- where piece i begins and where it ends
abbrev pub begin_of : Plan → Places → ℕ → Point
begin_of plan places i = place places.xy (piece_at plan.pieces i).from

abbrev pub end_of : Plan → Places → ℕ → Point
end_of plan places i = place places.xy (piece_at plan.pieces i).to

-- the point z lies on piece i
abbrev pub OnPiece : Plan → Places → ℕ → Point → Type 0
OnPiece plan places i z = OnSegment (begin_of plan places i) (end_of plan places i) z

-- z is the place of a vertex that is an end of both pieces
abbrev pub IsCommonEnd : Plan → Places → ℕ → ℕ → Point → Type 0
IsCommonEnd plan places i j z =
    (vertex : ℕ) × IsEnd vertex (piece_at plan.pieces i) × IsEnd vertex (piece_at plan.pieces j)
    × (place places.xy vertex ≡ z)

-- two different pieces may share the point z: it is their common end, and they do not have both
-- ends in common
pub record MayShare (plan : Plan) (places : Places) (i j : ℕ) (z : Point) : Type 0 where
  pub end : IsCommonEnd plan places i j z
  pub apart : HaveSameEnds (piece_at plan.pieces i) (piece_at plan.pieces j) → ⊥

-- no two different pieces share a point that they may not share
abbrev pub MeetOnlyAtEnds : Plan → Places → Type 0
MeetOnlyAtEnds plan places =
    (i j : ℕ) → i < length plan.pieces → j < length plan.pieces → (i ≡ j → ⊥) →
    (z : Point) → OnPiece plan places i z → OnPiece plan places j z → MayShare plan places i j z

-- every piece has its way
abbrev pub HasWays : Shape → Places → Type 0
HasWays shape places =
    (i : ℕ) → i < length shape.plan.pieces →
    HasWay (way_at shape.ways i) (begin_of shape.plan places i) (end_of shape.plan places i)

-- the places, one for each vertex, give every piece its way, and pieces meet only at common ends
pub record IsCrossingFree (shape : Shape) (places : Places) : Type 0 where
  pub places_fit : length places.xy ≡ shape.plan.vertices
  pub ways : HasWays shape places
  pub meetings : MeetOnlyAtEnds shape.plan places

-- the places are a drawing of the shape; more may be asked of a drawing than that it is
-- crossing-free
pub record IsDrawing (shape : Shape) (places : Places) : Type 0 where
  pub crossing_free : IsCrossingFree shape places

-- the least coordinate along the axis is 0
pub record IsLeastZero (axis : Axis) (places : Places) : Type 0 where
  pub none_below : (v : ℕ) → v < length places.xy → pos 0 ≤ℤ (along axis (place places.xy v))
  pub reached : (v : ℕ) × (v < length places.xy) × (along axis (place places.xy v) ≡ pos 0)

-- the least x and the least y are 0
abbrev pub IsFromZero : Places → Type 0
IsFromZero places = (axis : Axis) → IsLeastZero axis places
