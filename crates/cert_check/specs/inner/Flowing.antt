-- What two flows on the graphs of a branch show of the drawing.
use Rattle.std.specs.Prelude.{◌≡◌, ℕ, ◌<ℤ◌, List, None, Some}
use Rattle.compact_types.specs.declared.places.Axis.TheVariants.{X, Y}
use Rattle.compact_types.specs.declared.places.Places.{Places}
use Rattle.compact_types.specs.declared.plan.Shape.{Shape}
use Rattle.compact_types.specs.declared.search.Choice.{Choice}
use Rattle.compact_types.specs.declared.search.Flows.{Flows}
use Rattle.compact_types.specs.Bests.{worth_of}
use Rattle.compact_types.specs.Bests.Objective.{total_length}
use Rattle.shape_graphs.specs.declared.growing.GrowingGraphs.{GrowingGraphs}
use Rattle.shape_graphs.specs.Backings.{AreBalanced, IsBalanced, bound_by}
use Rattle.shape_graphs.specs.Flows.{IsFlowOn}
use Rattle.shape_graphs.specs.Graphs.{IsGraphOf}
use Rattle.cert_text.specs.Accepting.{DoBound}
use Rattle.cert_check.specs.declared.fault.CheckFault.{CheckFault}
use Rattle.cert_check.specs.declared.fault.CheckFault.TheVariants.{Unbalanced, WeakBound}
use Rattle.cert_check.specs.Faults.{IsEarlierAt, IsUnbalancedAt}

-- the flows on the two graphs of the branch
abbrev pub flows_on : GrowingGraphs → Flows
flows_on branch = record { x = branch.columns.flow; y = branch.rows.flow }

-- the graphs are those of the choices, with a flow on each
pub record HasFlows (shape : Shape) (branch : GrowingGraphs) : Type 0 where
  pub columns : IsGraphOf X shape branch.choices branch.columns.graph
  pub rows : IsGraphOf Y shape branch.choices branch.rows.graph
  pub across : IsFlowOn branch.columns.graph.arcs branch.columns.flow.amounts
  pub up : IsFlowOn branch.rows.graph.arcs branch.rows.flow.amounts

-- the flows balance and bound
pub record DoBalanceAndBound (shape : Shape) (choices : List Choice) (flows : Flows)
    (places : Places) : Type 0 where
  pub balanced : AreBalanced shape choices flows
  pub bounds : DoBound shape choices flows places

-- the bound of balanced flows is too weak: it is below the length, or it is the length and the
-- least tight places come before these
pub data IsWeak (shape : Shape) (choices : List Choice) (flows : Flows) (places : Places)
    (entry : ℕ) : CheckFault → Type 0 where
  below_length : bound_by shape choices flows <ℤ worth_of total_length shape places →
      IsWeak shape choices flows places entry (WeakBound entry (bound_by shape choices flows) None)
  before_these : (vertex : ℕ) → bound_by shape choices flows ≡ worth_of total_length shape places →
      IsEarlierAt shape choices flows places vertex →
      IsWeak shape choices flows places entry
      (WeakBound entry (bound_by shape choices flows) (Some vertex))

-- the first fault of two flows
pub data IsFlowFault (shape : Shape) (choices : List Choice) (flows : Flows) (places : Places)
    (entry : ℕ) : CheckFault → Type 0 where
  columns_unbalanced : (node : ℕ) → IsUnbalancedAt X shape choices flows node →
      IsFlowFault shape choices flows places entry (Unbalanced entry X node)
  rows_unbalanced : (node : ℕ) → IsBalanced X shape choices flows.x →
      IsUnbalancedAt Y shape choices flows node →
      IsFlowFault shape choices flows places entry (Unbalanced entry Y node)
  too_weak : (fault : CheckFault) → AreBalanced shape choices flows →
      IsWeak shape choices flows places entry fault →
      IsFlowFault shape choices flows places entry fault
