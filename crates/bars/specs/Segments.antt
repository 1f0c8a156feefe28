-- Segments: the rows and the columns that have a piece (Klau and Mutzel's maximal segments).
use Rattle.std.specs.Prelude.{◌≡◌, ℕ, ◌<◌, Bool, ◌&&◌, ◌==◌, not, List, ◌++◌, map, length, slice_index_or, unwrap_or, if◌then◌else◌}
use Rattle.std.specs.List.{filter, find, list_any, range_with_len}
use Rattle.compact_types.specs.declared.places.Axis.{Axis}
use Rattle.compact_types.specs.declared.places.Axis.TheVariants.{X, Y}
use Rattle.compact_types.specs.declared.plan.Shape.{Shape}
use Rattle.compact_types.specs.Connected.{IsAlong}
use Rattle.compact_types.specs.Lookups.{piece_at, way_at, other_axis}
use Rattle.compact_types.specs.Axes.{low_end, high_end}
use Rattle.bars.specs.Lines.{is_axis, is_along, line_of, line_count}

-- a segment goes along an axis, and is the line of this number along it
pub record Segment : Type 0 where
  pub axis : Axis
  pub line : ℕ

-- whether piece i goes along the axis in this line
abbrev pub is_in_line : Axis → Shape → ℕ → ℕ → Bool
is_in_line axis shape line i =
    is_along axis shape i && (line_of axis shape (piece_at shape.plan.pieces i).from == line)

-- whether the line has a piece
abbrev pub has_piece : Axis → Shape → ℕ → Bool
has_piece axis shape line = list_any (is_in_line axis shape line) (range_with_len 0 (length shape.plan.pieces))

-- the segments along an axis, in the order of their lines
abbrev pub segments_along : Axis → Shape → List Segment
segments_along axis shape =
    map (λ line. record { axis = axis; line = line })
    (filter (has_piece axis shape) (range_with_len 0 (line_count axis shape)))

-- the segments: the rows with a piece, and then the columns with a piece
abbrev pub segments_of : Shape → List Segment
segments_of shape = segments_along X shape ++ segments_along Y shape

abbrev pub segment_count : Shape → ℕ
segment_count shape = length (segments_of shape)

-- the segment of a number
abbrev pub segment_at : Shape → ℕ → Segment
segment_at shape s = slice_index_or (segments_of shape) s (record { axis = X; line = 0 })

-- the vertex lies on the segment
pub record IsOnSegment (shape : Shape) (s v : ℕ) : Type 0 where
  pub is_vertex : v < shape.plan.vertices
  pub in_line : line_of (segment_at shape s).axis shape v ≡ (segment_at shape s).line

-- the piece is one of the segment: it goes along the segment's axis, and its vertices lie on the segment
pub record IsPieceOf (shape : Shape) (s i : ℕ) : Type 0 where
  pub inside : i < length shape.plan.pieces
  pub along : IsAlong (segment_at shape s).axis shape i
  pub on_segment : IsOnSegment shape s (piece_at shape.plan.pieces i).from

-- the two segments have a vertex in common
abbrev pub ShareVertex : Shape → ℕ → ℕ → Type 0
ShareVertex shape s t = (v : ℕ) × IsOnSegment shape s v × IsOnSegment shape t v

-- two segments without a common vertex, in the order of their numbers
pub record IsPair (shape : Shape) (s t : ℕ) : Type 0 where
  pub in_order : s < t
  pub in_shape : t < segment_count shape
  pub apart : ShareVertex shape s t → ⊥

-- whether a piece along the axis comes to the vertex from before it, or goes on from it
abbrev pub has_piece_before : Axis → Shape → ℕ → Bool
has_piece_before axis shape v =
    list_any (λ i. is_along axis shape i && (high_end (way_at shape.ways i) (piece_at shape.plan.pieces i) == v))
    (range_with_len 0 (length shape.plan.pieces))

abbrev pub has_piece_after : Axis → Shape → ℕ → Bool
has_piece_after axis shape v =
    list_any (λ i. is_along axis shape i && (low_end (way_at shape.ways i) (piece_at shape.plan.pieces i) == v))
    (range_with_len 0 (length shape.plan.pieces))

-- the western or the lower end vertex of a line: no piece of the line comes to it from before
abbrev pub first_vertex : Axis → Shape → ℕ → ℕ
first_vertex axis shape line =
    unwrap_or (find (λ v. (line_of axis shape v == line) && not (has_piece_before axis shape v))
    (range_with_len 0 shape.plan.vertices)) 0

-- the eastern or the higher end vertex of a line: no piece of the line goes on from it
abbrev pub last_vertex : Axis → Shape → ℕ → ℕ
last_vertex axis shape line =
    unwrap_or (find (λ v. (line_of axis shape v == line) && not (has_piece_after axis shape v))
    (range_with_len 0 shape.plan.vertices)) 0

-- The node of a vertex in the constraint graph of an axis: the line across, whose vertices have one
-- coordinate along the axis. Columns are the nodes of the column graph (X), rows of the row graph (Y).
abbrev pub node_of : Axis → Shape → ℕ → ℕ
node_of axis shape v = line_of (other_axis axis) shape v

abbrev pub node_count : Axis → Shape → ℕ
node_count axis shape = line_count (other_axis axis) shape

-- the node that is first of a segment in the graph of an axis: that of its first vertex if the
-- segment goes along the axis, and else the segment itself
abbrev pub low_node : Axis → Shape → ℕ → ℕ
low_node axis shape s =
    if is_axis (segment_at shape s).axis axis
    then node_of axis shape (first_vertex axis shape (segment_at shape s).line)
    else (segment_at shape s).line

-- the node that is last of it
abbrev pub high_node : Axis → Shape → ℕ → ℕ
high_node axis shape s =
    if is_axis (segment_at shape s).axis axis
    then node_of axis shape (last_vertex axis shape (segment_at shape s).line)
    else (segment_at shape s).line
