-- Which vertex of a line is first and which last, and what the low and the high node of a segment are.
use Rattle.std.specs.Prelude.{◌≡◌, ℕ, ◌<◌, ◌≤ℤ◌}
use Rattle.compact_types.specs.declared.places.Axis.{Axis}
use Rattle.compact_types.specs.declared.places.Places.{Places}
use Rattle.compact_types.specs.declared.plan.Shape.{Shape}
use Rattle.compact_types.specs.Lookups.{along, place}
use Rattle.bars.specs.Lines.{line_of}
use Rattle.bars.specs.Segments.{IsOnSegment, node_of}

-- the vertex is one of the line, and has the least coordinate along the axis of all its vertices
pub record StandsFirst (axis : Axis) (shape : Shape) (places : Places) (line v : ℕ) : Type 0 where
  pub is_vertex : v < shape.plan.vertices
  pub in_line : line_of axis shape v ≡ line
  pub least : (w : ℕ) → w < shape.plan.vertices → line_of axis shape w ≡ line →
      along axis (place places.xy v) ≤ℤ along axis (place places.xy w)

-- the vertex is one of the line, and has the greatest coordinate along the axis of all its vertices
pub record StandsLast (axis : Axis) (shape : Shape) (places : Places) (line v : ℕ) : Type 0 where
  pub is_vertex : v < shape.plan.vertices
  pub in_line : line_of axis shape v ≡ line
  pub greatest : (w : ℕ) → w < shape.plan.vertices → line_of axis shape w ≡ line →
      along axis (place places.xy w) ≤ℤ along axis (place places.xy v)

-- the node of the axis has a vertex of the segment, and its vertices have the least coordinate of the segment
pub record IsLowNode (axis : Axis) (shape : Shape) (places : Places) (s node : ℕ) : Type 0 where
  pub taken : (v : ℕ) × IsOnSegment shape s v × (node_of axis shape v ≡ node)
  pub least : (v w : ℕ) → v < shape.plan.vertices → node_of axis shape v ≡ node → IsOnSegment shape s w →
      along axis (place places.xy v) ≤ℤ along axis (place places.xy w)

-- the node of the axis has a vertex of the segment, and its vertices have the greatest coordinate of the segment
pub record IsHighNode (axis : Axis) (shape : Shape) (places : Places) (s node : ℕ) : Type 0 where
  pub taken : (v : ℕ) × IsOnSegment shape s v × (node_of axis shape v ≡ node)
  pub greatest : (v w : ℕ) → v < shape.plan.vertices → node_of axis shape v ≡ node → IsOnSegment shape s w →
      along axis (place places.xy w) ≤ℤ along axis (place places.xy v)
