-- A note that is full takes no more.
use Rattle.std.specs.Prelude.{◌≡◌, ℕ, List, ◌++◌, take}
use Rattle.compact_main.specs.declared.note.TheConstants.{NOTE_ROOM}

-- the text was added, as much of it as there was room for
pub record IsAppended (old new text : List ℕ) : Type 0 where
  pub added : new ≡ take NOTE_ROOM (old ++ text)
