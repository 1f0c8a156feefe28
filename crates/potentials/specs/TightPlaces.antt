-- Places that are tight for two flows, and the least of them.
use Rattle.std.specs.Prelude.{◌≡◌, ℕ, ◌<◌, ◌+ℤ◌, List, length}
use Rattle.compact_types.specs.declared.places.Axis.{Axis}
use Rattle.compact_types.specs.declared.places.Places.{Places}
use Rattle.compact_types.specs.declared.plan.Shape.{Shape}
use Rattle.compact_types.specs.declared.search.Choice.{Choice}
use Rattle.compact_types.specs.declared.search.Flow.{Flow}
use Rattle.compact_types.specs.declared.search.Flows.{Flows}
use Rattle.compact_types.specs.Drawings.{IsFromZero}
use Rattle.compact_types.specs.Magnitudes.{IsNowhereNegative}
use Rattle.compact_types.specs.Lookups.{along, place}
use Rattle.bars.specs.Segments.{node_of}
use Rattle.bars.specs.Solutions.{Solves}
use Rattle.shape_graphs.specs.Arcs.{arc_at}
use Rattle.shape_graphs.specs.Backings.{flow_of}
use Rattle.shape_graphs.specs.Flows.{amount_at}
use Rattle.shape_graphs.specs.Graphs.{arcs_of}
use Rattle.shape_graphs.specs.Measures.{AreNowhereAbove}

-- over each arc of the axis with a positive amount the difference of the places is its least
abbrev pub IsTightAlong : Axis → Shape → List Choice → Flow → Places → Type 0
IsTightAlong axis shape choices flow places =
    (i : ℕ) → i < length (arcs_of axis shape choices) → 0 < amount_at flow.amounts i →
    (v w : ℕ) → v < shape.plan.vertices → w < shape.plan.vertices →
    node_of axis shape v ≡ (arc_at (arcs_of axis shape choices) i).from →
    node_of axis shape w ≡ (arc_at (arcs_of axis shape choices) i).to →
    along axis (place places.xy w)
    ≡ along axis (place places.xy v) +ℤ (arc_at (arcs_of axis shape choices) i).least

-- the places solve the choices and are tight for both flows
pub record AreTightPlaces
    (shape : Shape) (choices : List Choice) (flows : Flows) (places : Places) : Type 0 where
  pub solves : Solves shape choices places
  pub tight : (axis : Axis) → IsTightAlong axis shape choices (flow_of axis flows) places

-- The places are from zero and tight for both flows, and nowhere above others that are tight and
-- have no negative coordinate.
pub record AreLeastTightPlaces
    (shape : Shape) (choices : List Choice) (flows : Flows) (places : Places) : Type 0 where
  pub tight : AreTightPlaces shape choices flows places
  pub from_zero : IsFromZero places
  pub lowest : (others : Places) → AreTightPlaces shape choices flows others →
      IsNowhereNegative others → AreNowhereAbove places others
