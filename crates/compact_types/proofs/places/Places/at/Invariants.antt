-- The points so far, none of which is far out.
use Rattle.std.proofs.Common.{◌≡◌, ℕ, ◌<◌, length, take}
use Rattle.compact_types.specs.declared.places.Axis.{Axis}
use Rattle.compact_types.specs.declared.limits.TheConstants.{GREATEST_THOUSANDTHS}
use Rattle.compact_types.specs.Lookups.{points_at, place, along}
use Rattle.compact_types.specs.Magnitudes.{IsWithin}
use Rattle.compact_types.proofs.places.Places.at.Given as goal

abbrev pub invariant-loop-x : goal.invariant-loop-x
invariant-loop-x l =
    (l.xy ≡ points_at (take l.x-index l.points))
    × ((axis : Axis) (v : ℕ) → v < length l.xy → IsWithin GREATEST_THOUSANDTHS (along axis (place l.xy v)))
