-- The values so far stand at the end.
use Rattle.std.proofs.Common.{◌≡◌, take}
use Rattle.compact_types.specs.Rooms.{with_more}
use Rattle.compact_types.proofs.reserved.Reserved.extend_from_slice.Given as goal

abbrev pub invariant-loop-value : goal.invariant-loop-value
invariant-loop-value g l = l.self ≡ with_more l.initial.self (take l.value-index l.values)
