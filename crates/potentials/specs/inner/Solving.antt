-- What is known of the graphs and flows of a solver.
use Rattle.std.specs.Prelude.{◌≡◌, ℕ, ◌≤◌, pos, ℤ, List, [], ◌∷◌, ◌++◌, length}
use Rattle.compact_types.specs.declared.limits.TheConstants.{MOST_VERTICES}
use Rattle.compact_types.specs.declared.search.Flow.{Flow}
use Rattle.shape_graphs.specs.declared.graph.Arc.{Arc}
use Rattle.shape_graphs.specs.declared.graph.DiffGraph.{DiffGraph}
use Rattle.shape_graphs.specs.Flows.{Balances, bound_of, IsFlowOn, number_at}
use Rattle.shape_graphs.specs.Paths.{HasCycle}
use Rattle.diff_flow.specs.Tight.{AreLeastTight, AreTight}

-- the graph has at most as many nodes as a drawing has vertices, and no cycle
pub record IsSolvable (graph : DiffGraph) : Type 0 where
  pub few_nodes : graph.nodes ≤ MOST_VERTICES
  pub no_cycle : HasCycle graph.arcs → ⊥

-- the flow is one on the graph, and balances
pub record BalancesOn (graph : DiffGraph) (flow : Flow) : Type 0 where
  pub amounts : IsFlowOn graph.arcs flow.amounts
  pub balances : Balances graph.nodes graph.arcs flow.amounts

-- the flow is one that a flow on the graph begins with: it balances on all of the graph, or on all
-- but its last arc, which does not pull
pub data IsStartingFlow (graph : DiffGraph) (flow : Flow) : Type 0 where
  on_all : BalancesOn graph flow → IsStartingFlow graph flow
  on_all_but_last : (arcs : List Arc) (last : Arc) → graph.arcs ≡ arcs ++ last ∷ [] →
      last.pull ≡ pos 0 → IsFlowOn arcs flow.amounts →
      Balances graph.nodes arcs flow.amounts → IsStartingFlow graph flow

-- the flow balances on the graph, and its bound is this
pub record IsBounded (graph : DiffGraph) (flow : Flow) (bound : ℤ) : Type 0 where
  pub balances : BalancesOn graph flow
  pub value : bound ≡ bound_of graph.arcs flow.amounts

-- some numbers are tight for the flow
abbrev pub HasTight : DiffGraph → Flow → Type 0
HasTight graph flow = (numbers : ℕ → ℤ) × AreTight graph.nodes graph.arcs flow.amounts numbers

-- one number for each node of the graph, the least that are tight for the flow
pub record AreLeastNumbers (graph : DiffGraph) (flow : Flow) (numbers : List ℤ) : Type 0 where
  pub one_for_each : length numbers ≡ graph.nodes
  pub least : AreLeastTight graph.nodes graph.arcs flow.amounts (number_at numbers)
