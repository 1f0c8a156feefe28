use Rattle.std.proofs.Common.{◌≡◌, ℕ, ◌<◌, pos}
use Rattle.shape_graphs.specs.Flows.{number_at}
use Rattle.diff_flow.proofs.flow.first_that_is_some.Given as goal

abbrev pub invariant-loop-k : goal.invariant-loop-k
invariant-loop-k l = (before : ℕ) → before < l.k → number_at l.sums before ≡ pos 0
