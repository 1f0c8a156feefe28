-- Runs of numbers along one axis, and the points whose coordinates lie in two of them.
use Rattle.std.specs.Prelude.{◌≡◌, ℤ, ◌≤ℤ◌, Option, Some}
use Rattle.compact_types.specs.declared.places.Point.{Point}
use Rattle.drawing_check.specs.declared.span.Interval.{Interval}
use Rattle.drawing_check.specs.declared.span.PieceExtent.{PieceExtent}

-- the number is one of the span
abbrev pub IsIn : Interval → ℤ → Type 0
IsIn span z = (span.low ≤ℤ z) × (z ≤ℤ span.high)

-- both coordinates of the point lie in their spans
abbrev pub IsInside : PieceExtent → Point → Type 0
IsInside extent z = IsIn extent.x z.x × IsIn extent.y z.y

-- the point is inside the extent and is not the excepted one
abbrev pub IsInsideBut : Option Point → PieceExtent → Point → Type 0
IsInsideBut except extent z = IsInside extent z × (except ≡ Some z → ⊥)
