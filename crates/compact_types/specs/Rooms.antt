-- A list, and the room that is left beside it.
use Rattle.std.specs.Prelude.{ℕ, ◌-◌, List, [], ◌++◌, length, slice_set}

-- the values, and how many more are taken without asking for memory
pub record WithRoom (T : Type 0) : Type 0 where
  pub items : List T
  pub room : ℕ

-- no value yet, and this much room
abbrev pub with_room : {T : Type 0} → ℕ → WithRoom T
with_room room = record { items = []; room = room }

-- the list with these values at its end, which took their room
abbrev pub with_more : {T : Type 0} → WithRoom T → List T → WithRoom T
with_more list values =
    record { items = list.items ++ values; room = list.room - length values }

-- the list with another value at a place
abbrev pub with_set : {T : Type 0} → WithRoom T → ℕ → T → WithRoom T
with_set list place value =
    record { items = slice_set list.items place value; room = list.room }
