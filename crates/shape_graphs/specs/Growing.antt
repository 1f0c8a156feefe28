-- The two graphs of a list of choices that grows and shrinks at its end, with an amount on each arc.
use Rattle.std.specs.Prelude.{◌≡◌, ℕ, ◌-◌, List, [], ◌∷◌, ◌++◌, length, take, if◌then◌else◌}
use Rattle.compact_types.specs.declared.places.Axis.{Axis}
use Rattle.compact_types.specs.declared.places.Axis.TheVariants.{X, Y}
use Rattle.compact_types.specs.declared.plan.Shape.{Shape}
use Rattle.compact_types.specs.declared.search.Choice.{Choice}
use Rattle.bars.specs.Lines.{is_axis}
use Rattle.bars.specs.Sides.{side_axis}
use Rattle.bars.specs.Solutions.{Fit}
use Rattle.shape_graphs.specs.declared.growing.GrowingGraph.{GrowingGraph}
use Rattle.shape_graphs.specs.declared.growing.GrowingGraphs.{GrowingGraphs}
use Rattle.shape_graphs.specs.Graphs.{IsGraphOf}

-- the graph along an axis
abbrev pub graph_on : Axis → GrowingGraphs → GrowingGraph
graph_on X graphs = graphs.columns
graph_on Y graphs = graphs.rows

-- the amounts on the arcs of the graph along an axis
abbrev pub amounts_on : Axis → GrowingGraphs → List ℕ
amounts_on axis graphs = (graph_on axis graphs).flow.amounts

-- it is the constraint graph of the choices along the axis, with one amount for each arc
pub record IsGrown (axis : Axis) (shape : Shape) (choices : List Choice) (grown : GrowingGraph) :
    Type 0 where
  pub graph : IsGraphOf axis shape choices grown.graph
  pub one_for_each : length grown.flow.amounts ≡ length grown.graph.arcs

-- they are the constraint graphs of their choices, which fit the shape
pub record AreGrown (shape : Shape) (graphs : GrowingGraphs) : Type 0 where
  pub fit : Fit shape graphs.choices
  pub each : (axis : Axis) → IsGrown axis shape graphs.choices (graph_on axis graphs)

-- The amounts along the axis with one choice more: its arc, if it is along the axis, comes last and
-- carries nothing.
abbrev pub with_nothing : Axis → Choice → List ℕ → List ℕ
with_nothing axis choice amounts =
    if is_axis (side_axis choice.side) axis then amounts ++ 0 ∷ [] else amounts

-- the amounts along the axis without the last choice, whose arc, if it is along the axis, is the
-- last
abbrev pub without_last : Axis → Choice → List ℕ → List ℕ
without_last axis choice amounts =
    if is_axis (side_axis choice.side) axis then take (length amounts - 1) amounts else amounts
