use Rattle.std.proofs.Common.{ℕ, ◌<◌, ◌≤◌, length, slice_index}
use Rattle.shape_graphs.proofs.cycle.least_place.Given as goal

abbrev pub invariant-loop-k : goal.invariant-loop-k
invariant-loop-k l = record {
  within : l.first < length l.walk;
  least : (j : ℕ) → j < l.k → slice_index l.walk l.first ≤ slice_index l.walk j;
}
