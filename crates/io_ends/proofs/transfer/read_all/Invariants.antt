-- What was read so far is what the source gave, and no read failed.
use Rattle.std.proofs.Common.{◌≡◌, ◌≤◌, ◌-◌, length}
use Rattle.std.specs.Io.KnownBytes.{Consumes}
use Rattle.io_ends.specs.declared.transfer.TheConstants.{PIECE}
use Rattle.io_ends.proofs.transfer.read_all.Given as goal

abbrev pub invariant-loop-count : goal.invariant-loop-count
invariant-loop-count g l = (length l.bytes ≤ l.limit)
    × Consumes (g.S.Source.left l.initial.source) (g.S.Source.left l.source) l.bytes
    × (g.S.Source.faults l.source ≡ g.S.Source.faults l.initial.source)
    × (length l.piece ≡ PIECE)

abbrev pub decreases-loop-count : goal.decreases-loop-count
decreases-loop-count g l = l.limit - length l.bytes
