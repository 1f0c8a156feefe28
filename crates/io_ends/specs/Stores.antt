-- What contracts see of a sink in memory.
use Rattle.std.specs.Prelude.{◌≡◌, ℕ, ◌-◌, ◌<◌, List, [], ◌++◌, length, take, min, Contains}
use Rattle.std.specs.Prelude.{Result, Ok, Err, ◌⊎◌}
use Rattle.io_ends.specs.Counts.{next_count}
use Rattle.io_ends.specs.declared.sink.Failed.{Failed}

-- the bytes that are held and how many more may be, the most that one call takes, the numbers of
-- the calls that fail, and how many calls were made and failed
pub record Store : Type 0 where
  pub held : List ℕ
  pub free : ℕ
  pub piece : ℕ
  pub failing : List ℕ
  pub calls : ℕ
  pub faults : ℕ

-- a store that was not written to yet
abbrev pub new_store : ℕ → ℕ → List ℕ → Store
new_store room piece failing =
    record { held = []; free = room; piece = piece; failing = failing; calls = 0; faults = 0 }

-- the next call is one of those that fail, or there are bytes and nothing is free
abbrev pub Refuses : Store → List ℕ → Type 0
Refuses store bytes =
    Contains store.failing (next_count store.calls) ⊎ ((0 < length bytes) × (store.free ≡ 0))

-- how many of the bytes a call takes that does not fail
abbrev pub portion_of : Store → List ℕ → ℕ
portion_of store bytes = min (min (length bytes) store.piece) store.free

-- the store after a write of these bytes with this answer
abbrev pub after_write : Store → List ℕ → Result ℕ Failed → Store
after_write store bytes (Ok count) =
    record store {
      held = store.held ++ take count bytes;
      free = store.free - count;
      calls = next_count store.calls;
    }
after_write store bytes (Err failed) =
    record store { calls = next_count store.calls; faults = next_count store.faults }
