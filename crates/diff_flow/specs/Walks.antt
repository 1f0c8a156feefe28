-- Longest walks, and a graph with one arc more at its end.
use Rattle.std.specs.Prelude.{◌≡◌, ℕ, ◌<◌, pos, ℤ, ◌≤ℤ◌, List, [], ◌∷◌, ◌++◌, length, slice_index}
use Rattle.shape_graphs.specs.declared.graph.Arc.{Arc}
use Rattle.shape_graphs.specs.declared.graph.DiffGraph.{DiffGraph}
use Rattle.shape_graphs.specs.Flows.{IsSolution}
use Rattle.diff_flow.specs.Tight.{AreLeastTight}

-- the least numbers from zero upward that solve the graph: for each node the length of a longest
-- walk to it
pub record AreLongestWalkLengths (nodes : ℕ) (arcs : List Arc) (numbers : ℕ → ℤ) : Type 0 where
  pub from_zero : (node : ℕ) → node < nodes → pos 0 ≤ℤ numbers node
  pub solution : IsSolution arcs numbers
  pub least : (others : ℕ → ℤ) → ((node : ℕ) → node < nodes → pos 0 ≤ℤ others node) →
      IsSolution arcs others → (node : ℕ) → node < nodes → numbers node ≤ℤ others node

-- one number for each node of the graph, the length of a longest walk to it
pub record AreWalkLengthsOf (graph : DiffGraph) (walks : List ℕ) : Type 0 where
  pub one_for_each : length walks ≡ graph.nodes
  pub longest : AreLongestWalkLengths graph.nodes graph.arcs (λ v. pos (slice_index walks v))

-- the second graph has one arc more, at its end
pub record HasOneMoreArc (graph more : DiffGraph) : Type 0 where
  pub nodes : more.nodes ≡ graph.nodes
  pub last : Arc
  pub arcs : more.arcs ≡ graph.arcs ++ last ∷ []

-- the numbers are the least that are tight for some flow on the graph without its last arc
pub record AreLeastBefore (nodes : ℕ) (arcs : List Arc) (numbers : ℕ → ℤ) : Type 0 where
  pub front : List Arc
  pub last : Arc
  pub carried : List ℕ
  pub arcs_are : arcs ≡ front ++ last ∷ []
  pub least : AreLeastTight nodes front carried numbers
