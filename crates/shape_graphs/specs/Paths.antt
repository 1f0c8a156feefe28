-- Paths and cycles of a graph, by its arcs.
use Rattle.std.specs.Prelude.{◌≡◌, ℕ, suc, ◌<◌, ◌-◌, ◌⊎◌, List, length, slice_index}
use Rattle.shape_graphs.specs.declared.graph.Arc.{Arc}
use Rattle.shape_graphs.specs.Arcs.{arc_at}

-- a path from one node to another: an arc, or an arc and a path
pub data HasPath (arcs : List Arc) : ℕ → ℕ → Type 0 where
  along_arc : (i : ℕ) → i < length arcs → HasPath arcs (arc_at arcs i).from (arc_at arcs i).to
  arc_and_path : (i b : ℕ) → i < length arcs → HasPath arcs (arc_at arcs i).to b →
      HasPath arcs (arc_at arcs i).from b

-- some node has a path to itself
abbrev pub HasCycle : List Arc → Type 0
HasCycle arcs = (a : ℕ) × HasPath arcs a a

-- arc k of a list of arc numbers
abbrev pub step_arc : List Arc → List ℕ → ℕ → Arc
step_arc arcs walk k = arc_at arcs (slice_index walk k)

-- The list of arc numbers is a cycle: each arc ends where the next begins, and the last ends
-- where the first begins.
pub record IsCycle (arcs : List Arc) (walk : List ℕ) : Type 0 where
  pub some : 0 < length walk
  pub in_graph : (k : ℕ) → k < length walk → slice_index walk k < length arcs
  pub joined : (k : ℕ) → suc k < length walk → (step_arc arcs walk k).to ≡ (step_arc arcs walk (suc k)).from
  pub closed : (step_arc arcs walk (length walk - 1)).to ≡ (step_arc arcs walk 0).from

-- It is a simple cycle that begins with its least arc: it passes no node twice.
pub record IsSimpleCycle (arcs : List Arc) (walk : List ℕ) : Type 0 where
  pub cycle : IsCycle arcs walk
  pub no_node_twice : (k l : ℕ) → k < length walk → l < length walk →
      (step_arc arcs walk k).from ≡ (step_arc arcs walk l).from → k ≡ l
  pub least_first : (k : ℕ) → 0 < k → k < length walk → slice_index walk 0 < slice_index walk k

-- the second node is the first, or is reached from it
abbrev pub IsAtOrReached : List Arc → ℕ → ℕ → Type 0
IsAtOrReached arcs a b = (a ≡ b) ⊎ HasPath arcs a b

-- each arc of the first list has one with the same ends in the second
abbrev pub HaveArcsIn : List Arc → List Arc → Type 0
HaveArcsIn arcs others =
    (i : ℕ) → i < length arcs →
    (j : ℕ) × (j < length others) × ((arc_at others j).from ≡ (arc_at arcs i).from)
    × ((arc_at others j).to ≡ (arc_at arcs i).to)
