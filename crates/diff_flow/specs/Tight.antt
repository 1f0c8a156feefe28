-- Numbers on the nodes that prove a flow best: they solve the graph and are tight for the flow.
use Rattle.std.specs.Prelude.{ℕ, ◌<◌, pos, ℤ, ◌≤ℤ◌, List}
use Rattle.shape_graphs.specs.declared.graph.Arc.{Arc}
use Rattle.shape_graphs.specs.Flows.{IsSolution, IsTight}
-- the number of a node
pub use Rattle.shape_graphs.specs.Flows.{number_at}

-- the numbers from zero upward solve the graph and are tight for the flow
pub record AreTight (nodes : ℕ) (arcs : List Arc) (amounts : List ℕ)
    (numbers : ℕ → ℤ) : Type 0 where
  pub from_zero : (node : ℕ) → node < nodes → pos 0 ≤ℤ numbers node
  pub solution : IsSolution arcs numbers
  pub tight : IsTight arcs amounts numbers

-- of all tight numbers from zero upward these are the least, at every node
pub record AreLeastTight (nodes : ℕ) (arcs : List Arc) (amounts : List ℕ)
    (numbers : ℕ → ℤ) : Type 0 where
  pub tight : AreTight nodes arcs amounts numbers
  pub least : (others : ℕ → ℤ) → AreTight nodes arcs amounts others →
      (node : ℕ) → node < nodes → numbers node ≤ℤ others node
