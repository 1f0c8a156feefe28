-- What contracts see of a source in memory.
use Rattle.std.specs.Prelude.{ℕ, List, length, drop, min, Contains}
use Rattle.io_ends.specs.Counts.{next_count}
use Rattle.io_ends.specs.declared.source.Step.{Step}
use Rattle.io_ends.specs.declared.source.Step.TheVariants.{Got, End, Failed}

-- the bytes that are left, the most that one call gives, the numbers of the calls that fail, and
-- how many calls were made and failed
pub record Supply : Type 0 where
  pub left : List ℕ
  pub piece : ℕ
  pub failing : List ℕ
  pub calls : ℕ
  pub faults : ℕ

-- a supply that was not read from yet
abbrev pub new_supply : List ℕ → ℕ → List ℕ → Supply
new_supply bytes piece failing =
    record { left = bytes; piece = piece; failing = failing; calls = 0; faults = 0 }

-- the next call is one of those that fail
abbrev pub FailsNext : Supply → Type 0
FailsNext supply = Contains supply.failing (next_count supply.calls)

-- how many bytes a call gives that does not fail, into so much room
abbrev pub share_of : Supply → ℕ → ℕ
share_of supply room = min (min (length supply.left) supply.piece) room

-- the supply after a read with this answer
abbrev pub after_read : Supply → Step → Supply
after_read supply (Got count) =
    record supply { left = drop count supply.left; calls = next_count supply.calls }
after_read supply End = record supply { calls = next_count supply.calls }
after_read supply Failed =
    record supply { calls = next_count supply.calls; faults = next_count supply.faults }
