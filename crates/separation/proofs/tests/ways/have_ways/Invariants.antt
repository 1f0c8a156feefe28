use Rattle.std.proofs.Common.{ℕ, ◌<◌}
use Rattle.compact_types.specs.Lookups.{way_at}
use Rattle.compact_types.specs.Ways.{HasWay}
use Rattle.compact_types.specs.Drawings.{begin_of, end_of}
use Rattle.separation.proofs.tests.ways.have_ways.Given as goal

abbrev pub invariant-loop-i : goal.invariant-loop-i
invariant-loop-i l =
    (k : ℕ) → k < l.i → HasWay (way_at l.shape.ways k) (begin_of l.shape.plan l.places k) (end_of l.shape.plan l.places k)
