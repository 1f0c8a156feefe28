-- What a loan out of a list with its room leaves.
use Rattle.std.specs.Prelude.{ℕ, Option}
use Rattle.std.specs.Borrow.{LendsIf, MutBor, Fml, RattleType}
use Rattle.compact_types.specs.Rooms.{WithRoom, with_set}
use Rattle.compact_types.specs.contracts.reserved.Reserved.{the_row}

-- a loan of the value at a place: what is last written through it is there afterwards, and all else stays
abbrev pub LendsPlaceOf :
    (T : RattleType) → MutBor (WithRoom T.Denot) → ℕ → Option (MutBor T.Denot) → Fml
LendsPlaceOf T list place loan = LendsIf (the_row T) T list loan (with_set list.now place) list.now
