-- The corner of some points: their least x and their least y.
use Rattle.std.specs.Prelude.{◌≡◌, ℕ, ◌<◌, ℤ, pos, ◌-ℤ◌, ◌≤ℤ◌, List}
use Rattle.compact_types.specs.declared.places.Axis.{Axis}
use Rattle.compact_types.specs.declared.places.Point.{Point}
use Rattle.compact_types.specs.Lookups.{place, along}
use Rattle.compact_types.specs.Moves.{moved_point}

-- the number is the least coordinate of the first points along the axis
pub record IsLeastAlong (axis : Axis) (points : List Point) (count : ℕ) (least : ℤ) : Type 0 where
  pub none_below : (v : ℕ) → v < count → least ≤ℤ (along axis (place points v))
  pub reached : (v : ℕ) × (v < count) × (along axis (place points v) ≡ least)

-- the least x and the least y of the first points
abbrev pub IsCorner : List Point → ℕ → Point → Type 0
IsCorner points count corner = (axis : Axis) → IsLeastAlong axis points count (along axis corner)

-- the point, moved as the corner is moved to the origin
abbrev pub seen_from : Point → Point → Point
seen_from corner point = moved_point (pos 0 -ℤ corner.x) (pos 0 -ℤ corner.y) point
