-- The points so far are moved, and the others are as they were.
use Rattle.std.proofs.Common.{◌≡◌, ℕ, ◌<◌, ◌≤◌, length}
use Rattle.compact_types.specs.Lookups.{place}
use Rattle.compact_types.specs.inner.Corners.{seen_from}
use Rattle.compact_types.proofs.shifts.shift.Given as goal

abbrev pub invariant-loop-v : goal.invariant-loop-v
invariant-loop-v l =
    (length l.places.xy ≡ length l.initial.places.xy)
    × ((k : ℕ) → k < l.v → place l.places.xy k ≡ seen_from l.corner (place l.initial.places.xy k))
    × ((k : ℕ) → l.v ≤ k → place l.places.xy k ≡ place l.initial.places.xy k)
