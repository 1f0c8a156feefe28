-- What a loan out of a list leaves.
use Rattle.std.specs.Prelude.{ℕ, List, Option, slice_set}
use Rattle.std.specs.Borrow.{LendsIf, MutBor, Fml, RattleType}
use Rattle.compact_types.specs.contracts.items.Items.{the_row}

-- a loan of the value at a place: what is last written through it is there afterwards, and the other
-- values stay
abbrev pub LendsPlace :
    (T : RattleType) → MutBor (List T.Denot) → ℕ → Option (MutBor T.Denot) → Fml
LendsPlace T list place loan = LendsIf (the_row T) T list loan (slice_set list.now place) list.now
