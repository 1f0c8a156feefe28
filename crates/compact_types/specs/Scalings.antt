-- Places that are scaled down, and the first vertex off the grid.
use Rattle.std.specs.Prelude.{◌≡◌, ℕ, ◌<◌, ℤ, ◌*ℤ◌, length}
use Rattle.compact_types.specs.declared.places.Axis.{Axis}
use Rattle.compact_types.specs.declared.places.Point.{Point}
use Rattle.compact_types.specs.declared.places.Places.{Places}
use Rattle.compact_types.specs.Lookups.{place, along}

-- z is `by` times a whole number
abbrev pub IsMultiple : ℤ → ℤ → Type 0
IsMultiple by z = (k : ℤ) × (z ≡ by *ℤ k)

-- each coordinate of the point is a multiple of `by`
abbrev pub IsOnGrid : ℤ → Point → Type 0
IsOnGrid by point = (axis : Axis) → IsMultiple by (along axis point)

-- the point has a coordinate that is not a multiple of `by`
abbrev pub IsOffGrid : ℤ → Point → Type 0
IsOffGrid by point = (axis : Axis) × (IsMultiple by (along axis point) → ⊥)

-- as many points, and each coordinate of the places is `by` times that of the scaled ones
pub record IsScaled (by : ℤ) (places scaled : Places) : Type 0 where
  pub points : length places.xy ≡ length scaled.xy
  pub each : (axis : Axis) (v : ℕ) → v < length places.xy →
      along axis (place places.xy v) ≡ by *ℤ along axis (place scaled.xy v)

-- the least vertex with a coordinate that is not a multiple of `by`
pub record IsFirstOff (by : ℤ) (places : Places) (vertex : ℕ) : Type 0 where
  pub inside : vertex < length places.xy
  pub off : IsOffGrid by (place places.xy vertex)
  pub before : (v : ℕ) → v < vertex → IsOnGrid by (place places.xy v)
