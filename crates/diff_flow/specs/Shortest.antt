-- Solutions of the least length.
use Rattle.std.specs.Prelude.{ℕ, ℤ, ◌≤ℤ◌, List}
use Rattle.std.specs.Int.{int_min}
use Rattle.shape_graphs.specs.declared.graph.Arc.{Arc}
use Rattle.shape_graphs.specs.Flows.{IsSolution, length_over}

-- a solution, and none is shorter
pub record IsShortest (arcs : List Arc) (numbers : ℕ → ℤ) : Type 0 where
  pub solution : IsSolution arcs numbers
  pub shortest : (others : ℕ → ℤ) → IsSolution arcs others →
      length_over arcs numbers ≤ℤ length_over arcs others

-- the lesser of two numbers at each node
abbrev pub lesser : (ℕ → ℤ) → (ℕ → ℤ) → ℕ → ℤ
lesser numbers others node = int_min (numbers node) (others node)
