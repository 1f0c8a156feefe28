-- The least of some points.
use Rattle.compact_types.specs.declared.places.Point.{Point}
use Rattle.compact_types.specs.Orders.{IsPointBefore}

-- z is the least point, by x and then y, of which P holds
abbrev pub IsLeastPoint : (Point → Type 0) → Point → Type 0
IsLeastPoint P z = P z × ((w : Point) → P w → IsPointBefore w z → ⊥)
