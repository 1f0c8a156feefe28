use Rattle.std.proofs.Common.{◌≡◌, ℕ, ◌+◌, ◌<◌, ◌≤◌, ◌-◌, length, slice_index}
use Rattle.shape_graphs.proofs.trail.round.Given as goal

abbrev pub invariant-loop-k : goal.invariant-loop-k
invariant-loop-k l = record {
  within : l.k ≤ length l.walk;
  long : length l.arcs + l.k ≡ length l.walk;
  each : (j : ℕ) → j < length l.arcs → slice_index l.arcs j ≡ slice_index l.next (slice_index l.walk (length l.walk - 1 - j)) - 1;
  not_met : (j : ℕ) → l.k ≤ j → j < length l.walk → slice_index l.walk j ≡ l.met → ⊥;
}

abbrev pub decreases-loop-k : goal.decreases-loop-k
decreases-loop-k l = l.k
