-- How far out coordinates may be.
use Rattle.std.specs.Prelude.{ℕ, ◌<◌, pos, ℤ, ◌-ℤ◌, ◌≤ℤ◌, length}
use Rattle.compact_types.specs.declared.places.Axis.{Axis}
use Rattle.compact_types.specs.declared.places.Point.{Point}
use Rattle.compact_types.specs.declared.places.Places.{Places}
use Rattle.compact_types.specs.Lookups.{place, along}

-- the magnitude of the number is at most the bound
pub record IsWithin (bound : ℕ) (z : ℤ) : Type 0 where
  pub low : (pos 0 -ℤ pos bound) ≤ℤ z
  pub high : z ≤ℤ pos bound

-- the magnitudes of the point's coordinates are at most the bound
abbrev pub IsPointWithin : ℕ → Point → Type 0
IsPointWithin bound point = IsWithin bound point.x × IsWithin bound point.y

-- the magnitudes of all coordinates are at most the bound
abbrev pub AreWithin : ℕ → Places → Type 0
AreWithin bound places =
    (axis : Axis) (v : ℕ) → v < length places.xy → IsWithin bound (along axis (place places.xy v))

-- no coordinate is negative
abbrev pub IsNowhereNegative : Places → Type 0
IsNowhereNegative places =
    (axis : Axis) (v : ℕ) → v < length places.xy → pos 0 ≤ℤ (along axis (place places.xy v))
