-- Closed segments along an axis.
use Rattle.std.specs.Prelude.{ℤ, ◌≤ℤ◌, ◌⊎◌}
use Rattle.compact_types.specs.declared.places.Point.{Point}

-- z is one of the numbers from a to b, whichever of the two is less
abbrev pub IsBetween : ℤ → ℤ → ℤ → Type 0
IsBetween a b z = ((a ≤ℤ z) × (z ≤ℤ b)) ⊎ ((b ≤ℤ z) × (z ≤ℤ a))

-- z lies on the closed segment between a and b, which have a coordinate in common
abbrev pub OnSegment : Point → Point → Point → Type 0
OnSegment a b z = IsBetween a.x b.x z.x × IsBetween a.y b.y z.y
