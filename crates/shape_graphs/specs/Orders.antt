-- Arcs in topological order.
use Rattle.std.specs.Prelude.{◌≡◌, ℕ, ◌<◌, List, length, slice_index}
use Rattle.shape_graphs.specs.declared.graph.Arc.{Arc}
use Rattle.shape_graphs.specs.Paths.{step_arc}

-- The list has the number of each arc once, and every arc that ends at a node stands before every
-- arc that begins there.
pub record IsArcOrder (arcs : List Arc) (order : List ℕ) : Type 0 where
  pub in_graph : (k : ℕ) → k < length order → slice_index order k < length arcs
  pub has_each : (i : ℕ) → i < length arcs →
      (k : ℕ) × (k < length order) × (slice_index order k ≡ i)
  pub no_arc_twice : (k l : ℕ) → k < length order → l < length order →
      slice_index order k ≡ slice_index order l → k ≡ l
  pub ends_before : (k l : ℕ) → k < length order → l < length order →
      (step_arc arcs order l).to ≡ (step_arc arcs order k).from → l < k
