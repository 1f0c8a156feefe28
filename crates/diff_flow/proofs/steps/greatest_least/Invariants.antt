use Rattle.std.proofs.Common.{ℕ, ◌<◌, ◌≤◌, pos}
use Rattle.std.specs.Prelude.{◌≤ℤ◌}
use Rattle.shape_graphs.specs.Arcs.{arc_at}
use Rattle.diff_flow.proofs.steps.greatest_least.Given as goal

abbrev pub invariant-loop-i : goal.invariant-loop-i
invariant-loop-i l = record {
  low : l.greatest ≤ 1000;
  greatest : (k : ℕ) → k < l.i → (arc_at l.arcs k).least ≤ℤ pos l.greatest;
}
