-- How far segments reach in given places.
use Rattle.std.specs.Prelude.{◌≡◌, ℕ, ◌<◌, ◌≤◌, pos, ℤ, ◌≤ℤ◌, Bool, ◌&&◌, int_le, List, length, slice_index_or}
use Rattle.compact_types.specs.declared.places.Axis.{Axis}
use Rattle.compact_types.specs.declared.places.Axis.TheVariants.{X, Y}
use Rattle.compact_types.specs.declared.places.Places.{Places}
use Rattle.compact_types.specs.declared.plan.Shape.{Shape}
use Rattle.compact_types.specs.Drawings.{HasWays}
use Rattle.compact_types.specs.Lookups.{along, place}
use Rattle.bars.specs.Segments.{segment_count, node_of, node_count, low_node, high_node}
use Rattle.shape_graphs.specs.Flows.{number_at}
use Rattle.separation.specs.declared.extents.SegmentExtent.{SegmentExtent}

-- the extent that is taken for one that is not there
abbrev pub nowhere : SegmentExtent
nowhere = record { segment = 0; left = pos 0; right = pos 0; low = pos 0; high = pos 0 }

abbrev pub extent_at : List SegmentExtent → ℕ → SegmentExtent
extent_at extents k = slice_index_or extents k nowhere

-- the number is the coordinate of the vertices of the node
abbrev pub IsAtNode : Axis → Shape → Places → ℕ → ℤ → Type 0
IsAtNode axis shape places node z =
    (v : ℕ) → v < shape.plan.vertices → node_of axis shape v ≡ node → along axis (place places.xy v) ≡ z

-- the numbers are the coordinates of the nodes of the axis, as far as the first n vertices say
abbrev pub AreAtNodes : Axis → Shape → Places → ℕ → List ℤ → Type 0
AreAtNodes axis shape places n numbers =
    (v : ℕ) → v < n → along axis (place places.xy v) ≡ number_at numbers (node_of axis shape v)

-- the extent is that of its segment
pub record IsExtent (shape : Shape) (places : Places) (extent : SegmentExtent) : Type 0 where
  pub within : extent.segment < segment_count shape
  pub left : IsAtNode X shape places (low_node X shape extent.segment) extent.left
  pub right : IsAtNode X shape places (high_node X shape extent.segment) extent.right
  pub low : IsAtNode Y shape places (low_node Y shape extent.segment) extent.low
  pub high : IsAtNode Y shape places (high_node Y shape extent.segment) extent.high

abbrev pub AreExtents : Shape → Places → List SegmentExtent → Type 0
AreExtents shape places extents = (k : ℕ) → k < length extents → IsExtent shape places (extent_at extents k)

-- the extent as its axis takes it: the two axes change places where this is Y
abbrev pub turned_along : Axis → SegmentExtent → SegmentExtent
turned_along X e = e
turned_along Y e = record { segment = e.segment; left = e.low; right = e.high; low = e.left; high = e.right }

-- the same of all extents, each at its place
abbrev pub AreTurned : Axis → List SegmentExtent → List SegmentExtent → Type 0
AreTurned axis before after =
    (k : ℕ) → k < length before → extent_at after k ≡ turned_along axis (extent_at before k)

-- the extent, once it is turned as the axis takes it, is that of its segment
abbrev pub IsExtentAlong : Axis → Shape → Places → SegmentExtent → Type 0
IsExtentAlong axis shape places extent = IsExtent shape places (turned_along axis extent)

abbrev pub AreExtentsAlong : Axis → Shape → Places → List SegmentExtent → Type 0
AreExtentsAlong axis shape places extents =
    (k : ℕ) → k < length extents → IsExtentAlong axis shape places (extent_at extents k)

-- there is room for all segments, and for the nodes of each graph
pub record HasRoom (shape : Shape) (room : ℕ) : Type 0 where
  pub segments : segment_count shape ≤ room
  pub nodes : (axis : Axis) → node_count axis shape ≤ room

-- the segments of the extents are there
abbrev pub AreInShape : Shape → List SegmentExtent → Type 0
AreInShape shape extents = (k : ℕ) → k < length extents → (extent_at extents k).segment < segment_count shape

-- the extents begin one after the other
abbrev pub BeginInOrder : List SegmentExtent → Type 0
BeginInOrder extents =
    (a b : ℕ) → a < b → b < length extents → (extent_at extents a).left ≤ℤ (extent_at extents b).left

-- whether neither extent ends before the other begins, along x and along y
abbrev pub meet_in_x : SegmentExtent → SegmentExtent → Bool
meet_in_x a b = int_le b.left a.right && int_le a.left b.right

abbrev pub meet_in_y : SegmentExtent → SegmentExtent → Bool
meet_in_y a b = int_le b.low a.high && int_le a.low b.high

abbrev pub overlap : SegmentExtent → SegmentExtent → Bool
overlap a b = meet_in_x a b && meet_in_y a b

-- the extents before place n are those of the segments of these numbers
pub record ArePut (shape : Shape) (places : Places) (n : ℕ) (extents : List SegmentExtent) :
    Type 0 where
  pub segment : (k : ℕ) → k < n → (extent_at extents k).segment ≡ k
  pub extent : HasWays shape places → (k : ℕ) → k < n → IsExtent shape places (extent_at extents k)
