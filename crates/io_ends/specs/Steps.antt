-- What one read gives.
use Rattle.std.specs.Prelude.{ℕ, ◌<◌, ◌≤◌, List, Option, length, take}
use Rattle.std.specs.Io.KnownBytes.{Consumes, Keeps, IsAtEnd}
use Rattle.io_ends.specs.Counts.{Counted, Uncounted}
use Rattle.io_ends.specs.declared.source.Step.{Step}
use Rattle.io_ends.specs.declared.source.Step.TheVariants.{Got, End, Failed}

-- what holds of the number of bytes that were given, where nothing is left, and where the read
-- failed
abbrev pub MatchStep : Step → (ℕ → Type 0) → Type 0 → Type 0 → Type 0
MatchStep (Got count) P Q R = P count
MatchStep End P Q R = Q
MatchStep Failed P Q R = R

-- the bytes at the front of the slice, at least one, are the next that the source had left
pub record GivesNext (left left' : Option (List ℕ)) (into : List ℕ) (count : ℕ) : Type 0 where
  pub some : 0 < count
  pub fits : count ≤ length into
  pub next : Consumes left left' (take count into)

-- nothing was given, since nothing is left
pub record GivesNothing (left left' : Option (List ℕ)) : Type 0 where
  pub end : IsAtEnd left'
  pub kept : Keeps left left'

-- a fault is counted exactly where the read failed
abbrev pub CountsStep : Step → ℕ → ℕ → Type 0
CountsStep step before now =
    MatchStep step (λ _. Uncounted before now) (Uncounted before now) (Counted before now)
