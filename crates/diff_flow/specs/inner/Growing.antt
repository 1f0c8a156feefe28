-- Rows of steps that get the two steps of one arc more.
use Rattle.std.specs.Prelude.{◌≡◌, ℕ, ◌+◌, List, [], ◌∷◌, ◌++◌, length, slice_index, slice_set}

-- the rows with two steps more, which begin at these nodes
pub record AreRowsMore (from to : ℕ) (last before last' before' : List ℕ) : Type 0 where
  pub second : ℕ
  pub is_second : second ≡ slice_index (slice_set last from (length before + 1)) to
  pub last_set : last' ≡ slice_set (slice_set last from (length before + 1)) to (length before + 2)
  pub grown : before' ≡ before ++ slice_index last from ∷ second ∷ []
