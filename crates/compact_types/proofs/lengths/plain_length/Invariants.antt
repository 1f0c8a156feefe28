-- The sum so far is that of the pieces so far.
use Rattle.std.proofs.Common.{◌≡◌, ◌*◌, pos}
use Rattle.std.specs.Prelude.{◌≤ℤ◌}
use Rattle.compact_types.specs.declared.limits.TheConstants.{GREATEST_THOUSANDTHS}
use Rattle.compact_types.specs.Drawings.{begin_of, end_of}
use Rattle.compact_types.specs.Lengths.{distance}
use Rattle.compact_types.specs.Sums.{sum_to}
use Rattle.compact_types.proofs.lengths.plain_length.Given as goal

abbrev pub invariant-loop-i : goal.invariant-loop-i
invariant-loop-i l =
    (l.sum ≡ sum_to (λ k. distance (begin_of l.plan l.places k) (end_of l.plan l.places k)) l.i)
    × (pos 0 ≤ℤ l.sum) × (l.sum ≤ℤ pos (4 * GREATEST_THOUSANDTHS * l.i))
