use Rattle.std.proofs.Common.{ℕ, ◌<◌, pos, ◌≤ℤ◌}
use Rattle.compact_types.specs.Lookups.{along, place}
use Rattle.cert_check.proofs.answer.none_below.Given as goal

abbrev pub invariant-loop-v : goal.invariant-loop-v
invariant-loop-v l = (k : ℕ) → k < l.v → pos 0 ≤ℤ (along l.axis (place l.points k))
