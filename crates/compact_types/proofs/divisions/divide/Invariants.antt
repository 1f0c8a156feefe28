-- The points so far are divided, and the others are as they were.
use Rattle.std.proofs.Common.{◌≡◌, ℕ, ◌<◌, ◌≤◌, length}
use Rattle.compact_types.specs.Lookups.{place}
use Rattle.compact_types.proofs.DivisionLemmas.{IsTimes}
use Rattle.compact_types.proofs.divisions.divide.Given as goal

abbrev pub invariant-loop-v : goal.invariant-loop-v
invariant-loop-v l =
    (length l.places.xy ≡ length l.initial.places.xy)
    × ((k : ℕ) → k < l.v → IsTimes l.fn.by (place l.initial.places.xy k) (place l.places.xy k))
    × ((k : ℕ) → l.v ≤ k → place l.places.xy k ≡ place l.initial.places.xy k)
