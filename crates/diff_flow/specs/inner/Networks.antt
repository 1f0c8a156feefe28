-- What a network keeps of its graph: its steps, and the longest walks.
use Rattle.std.specs.Prelude.{◌≡◌, ℕ, ◌-◌, ◌*◌, pos, List, [], length}
use Rattle.shape_graphs.specs.declared.graph.DiffGraph.{DiffGraph}
use Rattle.shape_graphs.specs.Paths.{HasCycle}
use Rattle.diff_flow.specs.Walks.{AreLongestWalkLengths}
use Rattle.diff_flow.specs.declared.steps.Steps.{Steps}
use Rattle.diff_flow.specs.inner.Steps.{AreStepsOf}
use Rattle.diff_flow.specs.inner.Numbers.{AreLeastMet, height}

-- the graph has no cycle, and these are its steps and its longest walks, which are the least
-- numbers that meet the steps along all arcs
pub record AreMadeFor (graph : DiffGraph) (steps : Steps) (walks : List ℕ) : Type 0 where
  pub no_cycle : HasCycle graph.arcs → ⊥
  pub nodes : steps.nodes ≡ graph.nodes
  pub arcs : steps.arcs ≡ length graph.arcs
  pub steps_of : AreStepsOf graph.arcs steps.list.items
  pub longest : AreLongestWalkLengths graph.nodes graph.arcs (λ v. pos (height walks v))
  pub least_met : AreLeastMet steps.nodes steps.list.items [] ((steps.nodes - 1) * steps.reach) walks
