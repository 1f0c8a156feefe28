use Rattle.std.proofs.Common.{ℕ, ◌+◌, ◌<◌, length}
use Rattle.shape_graphs.specs.Flows.{number_at}
use Rattle.diff_flow.proofs.SurplusLemmas.{IsSoFar}
use Rattle.diff_flow.proofs.flow.add_surpluses.Given as goal

abbrev pub invariant-loop-i : goal.invariant-loop-i
invariant-loop-i l = (k : ℕ) → k < length l.sums → IsSoFar l.arcs l.amounts (l.first + k) l.i (number_at l.sums k)
