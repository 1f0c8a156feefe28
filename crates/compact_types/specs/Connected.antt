-- Which vertices of a plan are joined by its pieces.
use Rattle.std.specs.Prelude.{◌≡◌, ℕ, ◌<◌, length}
use Rattle.compact_types.specs.declared.places.Axis.{Axis}
use Rattle.compact_types.specs.declared.plan.Plan.{Plan}
use Rattle.compact_types.specs.declared.plan.Shape.{Shape}
use Rattle.compact_types.specs.Lookups.{piece_at, way_at, axis_of}

-- the second vertex is reached from the first along pieces that may be used, each in either
-- direction
pub data AreJoined (plan : Plan) (MayUse : ℕ → Type 0) (first : ℕ) : ℕ → Type 0 where
  start : AreJoined plan MayUse first first
  forward : (i : ℕ) → i < length plan.pieces → MayUse i →
      AreJoined plan MayUse first (piece_at plan.pieces i).from →
      AreJoined plan MayUse first (piece_at plan.pieces i).to
  backward : (i : ℕ) → i < length plan.pieces → MayUse i →
      AreJoined plan MayUse first (piece_at plan.pieces i).to →
      AreJoined plan MayUse first (piece_at plan.pieces i).from

-- every piece may be used
abbrev pub AnyPiece : ℕ → Type 0
AnyPiece i = Unit {0}

-- the piece goes along the axis
abbrev pub IsAlong : Axis → Shape → ℕ → Type 0
IsAlong axis shape i = axis_of (way_at shape.ways i) ≡ axis

-- the vertex is reached from vertex 0
abbrev pub IsJoined : Plan → ℕ → Type 0
IsJoined plan vertex = AreJoined plan AnyPiece 0 vertex

-- every vertex is reached from vertex 0
abbrev pub IsConnected : Plan → Type 0
IsConnected plan = (vertex : ℕ) → vertex < plan.vertices → IsJoined plan vertex

-- the vertices are joined by pieces along the axis: in one row for X, in one column for Y
abbrev pub AreInLine : Axis → Shape → ℕ → ℕ → Type 0
AreInLine axis shape v w = AreJoined shape.plan (IsAlong axis shape) v w
