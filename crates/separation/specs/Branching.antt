-- The pair at which a search splits.
use Rattle.std.specs.Prelude.{◌≡◌, ℕ, ◌<◌, ◌≤◌, ◌⊎◌, List}
use Rattle.compact_types.specs.declared.places.Places.{Places}
use Rattle.compact_types.specs.declared.search.Choice.{Choice}
use Rattle.compact_types.specs.declared.plan.Shape.{Shape}
use Rattle.bars.specs.Segments.{IsPair}
use Rattle.separation.specs.Meetings.{ShareAPoint}
use Rattle.separation.specs.Reaching.{HasOpenSides}

-- the pair (s, t) with m open sides has fewer than the pair (u, v) with n, or as many and does not
-- stand after it in list order
abbrev pub IsNotAfter : ℕ → ℕ → ℕ → ℕ → ℕ → ℕ → Type 0
IsNotAfter m s t n u v = (m < n) ⊎ ((m ≡ n) × ((s < u) ⊎ ((s ≡ u) × (t ≤ v))))

-- the pair shares a point in the places, and of all that do it has the fewest open sides; among
-- equals it is the first in list order
pub record IsBranchPair (shape : Shape) (choices : List Choice) (places : Places) (s t : ℕ) : Type 0 where
  pub pair : IsPair shape s t
  pub share : ShareAPoint shape places s t
  pub fewest : (u v m n : ℕ) → IsPair shape u v → ShareAPoint shape places u v →
      HasOpenSides shape choices s t m → HasOpenSides shape choices u v n → IsNotAfter m s t n u v
