-- The points so far are the same.
use Rattle.std.proofs.Common.{◌≡◌, ℕ, ◌<◌}
use Rattle.compact_types.specs.Lookups.{place}
use Rattle.compact_types.proofs.orders.compare_lists.Given as goal

abbrev pub invariant-loop-i : goal.invariant-loop-i
invariant-loop-i l = (k : ℕ) → k < l.i → place l.a k ≡ place l.b k
