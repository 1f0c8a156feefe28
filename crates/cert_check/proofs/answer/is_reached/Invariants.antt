use Rattle.std.proofs.Common.{◌≡◌, ℕ, ◌<◌, pos}
use Rattle.compact_types.specs.Lookups.{along, place}
use Rattle.cert_check.proofs.answer.is_reached.Given as goal

abbrev pub invariant-loop-v : goal.invariant-loop-v
invariant-loop-v l = (k : ℕ) → k < l.v → along l.axis (place l.points k) ≡ pos 0 → ⊥
