-- What one write takes.
use Rattle.std.specs.Prelude.{ℕ, ◌<◌, ◌≤◌, List, Option, length, take}
use Rattle.std.specs.Io.KnownBytes.{Appends}

-- bytes from the front, at least one where there is one, were added to those that the sink held
pub record TakesFront (held held' : Option (List ℕ)) (bytes : List ℕ) (count : ℕ) : Type 0 where
  pub within : count ≤ length bytes
  pub some : 0 < length bytes → 0 < count
  pub taken : Appends held held' (take count bytes)
