-- The amounts that a flow may have.
use Rattle.std.specs.Prelude.{◌≡◌, ℕ, ◌<◌, pos, List, length}
use Rattle.shape_graphs.specs.declared.graph.Arc.{Arc}
use Rattle.shape_graphs.specs.Flows.{amount_at, BalancesAt}
use Rattle.shape_graphs.specs.Arcs.{arc_at}
-- one amount for each arc, and none above the most
pub use Rattle.shape_graphs.specs.Flows.{IsFlowOn}

-- the least of so many nodes at which the amounts do not balance
pub record IsFirstUnbalanced (nodes : ℕ) (arcs : List Arc) (amounts : List ℕ) (node : ℕ) : Type 0 where
  pub inside : node < nodes
  pub unbalanced : BalancesAt arcs amounts node → ⊥
  pub first : (before : ℕ) → before < node → BalancesAt arcs amounts before

-- the amount on each arc is the arc's pull
pub record ArePulls (arcs : List Arc) (amounts : List ℕ) : Type 0 where
  pub one_for_each : length amounts ≡ length arcs
  pub each : (i : ℕ) → i < length arcs → pos (amount_at amounts i) ≡ (arc_at arcs i).pull
