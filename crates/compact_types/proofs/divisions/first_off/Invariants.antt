-- The points so far are on the grid.
use Rattle.std.proofs.Common.{ℕ, ◌<◌}
use Rattle.compact_types.specs.Lookups.{place}
use Rattle.compact_types.specs.Scalings.{IsOnGrid}
use Rattle.compact_types.proofs.divisions.first_off.Given as goal

abbrev pub invariant-loop-v : goal.invariant-loop-v
invariant-loop-v l = (k : ℕ) → k < l.v → IsOnGrid l.fn.by (place l.places.xy k)
