-- Places by numbers on the nodes of the two graphs.
use Rattle.std.specs.Prelude.{◌≡◌, ℕ, ◌<◌, ℤ, List, length}
use Rattle.compact_types.specs.declared.places.Axis.{Axis}
use Rattle.compact_types.specs.declared.places.Axis.TheVariants.{X, Y}
use Rattle.compact_types.specs.declared.places.Places.{Places}
use Rattle.compact_types.specs.declared.plan.Shape.{Shape}
use Rattle.compact_types.specs.Lookups.{along, place}
use Rattle.bars.specs.Segments.{node_of}
use Rattle.shape_graphs.specs.Flows.{number_at}

-- the numbers of the columns along x, those of the rows along y
abbrev pub numbers_along : List ℤ → List ℤ → Axis → ℕ → ℤ
numbers_along across up X node = number_at across node
numbers_along across up Y node = number_at up node

-- each vertex is where the numbers of its column and its row say
pub record StandAt (shape : Shape) (numbers : Axis → ℕ → ℤ) (places : Places) : Type 0 where
  pub places_fit : length places.xy ≡ shape.plan.vertices
  pub each : (axis : Axis) (v : ℕ) → v < shape.plan.vertices →
      along axis (place places.xy v) ≡ numbers axis (node_of axis shape v)
