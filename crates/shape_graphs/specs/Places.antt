-- Places as numbers on the nodes of the two graphs: a second form of 'the places solve the
-- choices'.
use Rattle.std.specs.Prelude.{◌≡◌, ℕ, ◌<◌, ◌+ℤ◌, ◌≤ℤ◌, List, length}
use Rattle.compact_types.specs.declared.places.Axis.{Axis}
use Rattle.compact_types.specs.declared.places.Places.{Places}
use Rattle.compact_types.specs.declared.search.Choice.{Choice}
use Rattle.compact_types.specs.declared.plan.Shape.{Shape}
use Rattle.compact_types.specs.Lookups.{along, place}
use Rattle.bars.specs.Segments.{node_of}
use Rattle.shape_graphs.specs.Arcs.{arc_at}
use Rattle.shape_graphs.specs.Graphs.{arcs_of}

-- all vertices of a node have one coordinate along the axis
abbrev pub AreLevel : Axis → Shape → Places → Type 0
AreLevel axis shape places =
    (v w : ℕ) → v < shape.plan.vertices → w < shape.plan.vertices → node_of axis shape v ≡ node_of axis shape w →
    along axis (place places.xy v) ≡ along axis (place places.xy w)

-- the difference over every arc is at least its least
abbrev pub MeetArcs : Axis → Shape → List Choice → Places → Type 0
MeetArcs axis shape choices places =
    (i : ℕ) → i < length (arcs_of axis shape choices) →
    (v w : ℕ) → v < shape.plan.vertices → w < shape.plan.vertices →
    node_of axis shape v ≡ (arc_at (arcs_of axis shape choices) i).from →
    node_of axis shape w ≡ (arc_at (arcs_of axis shape choices) i).to →
    (along axis (place places.xy v) +ℤ (arc_at (arcs_of axis shape choices) i).least)
    ≤ℤ along axis (place places.xy w)

-- in both graphs all vertices of a node are level, and every arc's difference is at least its least
pub record SolvesGraphs (shape : Shape) (choices : List Choice) (places : Places) : Type 0 where
  pub places_fit : length places.xy ≡ shape.plan.vertices
  pub level : (axis : Axis) → AreLevel axis shape places
  pub met : (axis : Axis) → MeetArcs axis shape choices places
