use Rattle.std.proofs.Common.{◌≡◌, ℕ, ◌<◌, length}
use Rattle.compact_types.specs.Lookups.{way_at}
use Rattle.compact_types.specs.Ways.{HasWay}
use Rattle.compact_types.specs.Drawings.{begin_of, end_of}
use Rattle.drawing_check.proofs.ways.ways_of.Given as goal

abbrev pub invariant-loop-i : goal.invariant-loop-i
invariant-loop-i l =
    (length l.ways ≡ l.i) × ((k : ℕ) → k < l.i → HasWay (way_at l.ways k) (begin_of l.plan l.places k) (end_of l.plan l.places k))
