-- The list from whose end the waiting branches are taken.
use Rattle.std.specs.Prelude.{◌≡◌, ℕ, ◌-◌, ◌<◌, List, length, slice_index, slice_index_or, Contains}
use Rattle.board.specs.declared.entries.Settled.TheVariants.{Closed}
use Rattle.board.specs.declared.standings.Standing.{Standing}
use Rattle.board.specs.declared.standings.Standing.TheVariants.{Waiting, Done}

-- how a branch of the list stands; where there is none, nothing is left to do
abbrev pub standing_at : List Standing → ℕ → Standing
standing_at standings id = slice_index_or standings id (Done Closed)

-- the numbers rise, and are below the bound
pub record AreRising (numbers : List ℕ) (bound : ℕ) : Type 0 where
  pub in_order : (i j : ℕ) → i < j → j < length numbers →
      slice_index numbers i < slice_index numbers j
  pub below : (i : ℕ) → i < length numbers → slice_index numbers i < bound

-- the numbers of branches rise, and each waiting branch is among them
pub record HoldWaiting (standings : List Standing) (numbers : List ℕ) : Type 0 where
  pub rising : AreRising numbers (length standings)
  pub each : (id : ℕ) → standing_at standings id ≡ Waiting → Contains numbers id

-- and the last of them waits, so that it is the greatest that does
pub record IsStack (standings : List Standing) (numbers : List ℕ) : Type 0 where
  pub held : HoldWaiting standings numbers
  pub top : 0 < length numbers →
      standing_at standings (slice_index numbers (length numbers - 1)) ≡ Waiting
