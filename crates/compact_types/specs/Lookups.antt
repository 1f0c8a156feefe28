-- Vertices, pieces and ways by their numbers.
use Rattle.std.specs.Prelude.{◌≡◌, ℕ, ◌<◌, pos, ℤ, List, length, map, slice_index_or, ◌⊎◌}
use Rattle.compact_types.specs.declared.places.Point.{Point}
use Rattle.compact_types.specs.declared.places.Axis.{Axis}
use Rattle.compact_types.specs.declared.places.Axis.TheVariants.{X, Y}
use Rattle.compact_types.specs.declared.plan.Piece.{Piece}
use Rattle.compact_types.specs.declared.plan.Way.{Way}
use Rattle.compact_types.specs.declared.plan.Way.TheVariants.{East, West, High, Low}

-- the point, piece and way that are taken for one that is not there
abbrev pub origin : Point
origin = record { x = pos 0; y = pos 0 }

abbrev pub no_piece : Piece
no_piece = record { from = 0; to = 0 }

-- the place of a vertex
abbrev pub place : List Point → ℕ → Point
place places vertex = slice_index_or places vertex origin

-- the piece of a number
abbrev pub piece_at : List Piece → ℕ → Piece
piece_at pieces number = slice_index_or pieces number no_piece

-- the way of the piece of a number
abbrev pub way_at : List Way → ℕ → Way
way_at ways number = slice_index_or ways number East

-- the pieces between these pairs of ends, and the points with these coordinates
abbrev pub pieces_between : List (ℕ × ℕ) → List Piece
pieces_between ends = map (λ end. record { from = end.0; to = end.1 }) ends

abbrev pub points_at : List (ℤ × ℤ) → List Point
points_at coordinates = map (λ point. record { x = point.0; y = point.1 }) coordinates

-- the coordinate of a point along an axis
abbrev pub along : Axis → Point → ℤ
along X point = point.x
along Y point = point.y

-- the axis across
abbrev pub other_axis : Axis → Axis
other_axis X = Y
other_axis Y = X

-- the axis along which a piece with this way goes
abbrev pub axis_of : Way → Axis
axis_of East = X
axis_of West = X
axis_of High = Y
axis_of Low = Y

-- the vertex is an end of the piece
abbrev pub IsEnd : ℕ → Piece → Type 0
IsEnd vertex piece = (vertex ≡ piece.from) ⊎ (vertex ≡ piece.to)

-- the two pieces join the same two vertices
abbrev pub HaveSameEnds : Piece → Piece → Type 0
HaveSameEnds p q = ((p.from ≡ q.from) × (p.to ≡ q.to)) ⊎ ((p.from ≡ q.to) × (p.to ≡ q.from))

-- the ends of every piece are vertices
abbrev pub EndsAreVertices : ℕ → List Piece → Type 0
EndsAreVertices vertices pieces =
    (i : ℕ) → i < length pieces →
    ((piece_at pieces i).from < vertices) × ((piece_at pieces i).to < vertices)
