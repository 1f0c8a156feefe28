use Rattle.std.proofs.Common.{ℕ, ◌<◌}
use Rattle.cert_check.specs.Faults.{IsBrokenAt}
use Rattle.cert_check.proofs.cycles.first_break.Given as goal

abbrev pub invariant-loop-place : goal.invariant-loop-place
invariant-loop-place l = (before : ℕ) → before < l.place → IsBrokenAt l.arcs l.walk before → ⊥
