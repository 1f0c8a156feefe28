-- Flows as the proof of a verdict: their bounds are a bound of the length.
use Rattle.std.specs.Prelude.{◌≡◌, ℤ, ◌+ℤ◌, List}
use Rattle.compact_types.specs.declared.places.Axis.{Axis}
use Rattle.compact_types.specs.declared.places.Axis.TheVariants.{X, Y}
use Rattle.compact_types.specs.declared.plan.Shape.{Shape}
use Rattle.compact_types.specs.declared.search.Choice.{Choice}
use Rattle.compact_types.specs.declared.search.Flow.{Flow}
use Rattle.compact_types.specs.declared.search.Flows.{Flows}
use Rattle.bars.specs.Segments.{node_count}
use Rattle.shape_graphs.specs.declared.measure.Verdict.{Verdict}
use Rattle.shape_graphs.specs.declared.measure.Verdict.TheVariants.{Cyclic, Above, Least}
use Rattle.shape_graphs.specs.Flows.{Balances, bound_of, IsFlowOn}
use Rattle.shape_graphs.specs.Graphs.{arcs_of}

-- the flow on the graph of an axis
abbrev pub flow_of : Axis → Flows → Flow
flow_of X flows = flows.x
flow_of Y flows = flows.y

-- the flow is one on the graph of the axis, and balances there
pub record IsBalanced (axis : Axis) (shape : Shape) (choices : List Choice) (flow : Flow) :
    Type 0 where
  pub amounts : IsFlowOn (arcs_of axis shape choices) flow.amounts
  pub balances : Balances (node_count axis shape) (arcs_of axis shape choices) flow.amounts

-- each flow balances on its graph
abbrev pub AreBalanced : Shape → List Choice → Flows → Type 0
AreBalanced shape choices flows = (axis : Axis) → IsBalanced axis shape choices (flow_of axis flows)

-- the bounds of both flows together
abbrev pub bound_by : Shape → List Choice → Flows → ℤ
bound_by shape choices flows =
    bound_of (arcs_of X shape choices) flows.x.amounts
    +ℤ bound_of (arcs_of Y shape choices) flows.y.amounts

-- the bounds of the flows add up to what the verdict says: its bound, or the worth of its key; no
-- flows back a cycle
abbrev pub AddUpTo : Shape → List Choice → Flows → Verdict Flows → Type 0
AddUpTo shape choices flows (Cyclic axis cycle) = ⊥
AddUpTo shape choices flows (Above bound stop proof) = bound_by shape choices flows ≡ bound
AddUpTo shape choices flows (Least key proof) = bound_by shape choices flows ≡ key.worth

-- the flows back the verdict on the choices: each balances, and their bounds add up to what it says
pub record DoBack
    (shape : Shape) (choices : List Choice) (flows : Flows) (verdict : Verdict Flows) : Type 0 where
  pub balanced : AreBalanced shape choices flows
  pub sum : AddUpTo shape choices flows verdict
