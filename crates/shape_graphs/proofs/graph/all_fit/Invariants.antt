use Rattle.std.proofs.Common.{ℕ, ◌<◌}
use Rattle.shape_graphs.specs.Arcs.{arc_at, FitsGraph}
use Rattle.shape_graphs.proofs.graph.all_fit.Given as goal

abbrev pub invariant-loop-i : goal.invariant-loop-i
invariant-loop-i l = (j : ℕ) → j < l.i → FitsGraph l.nodes (arc_at l.arcs j)
