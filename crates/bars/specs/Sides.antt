-- The four sides of a pair of segments: one is west, east, below or above the other.
use Rattle.std.specs.Prelude.{ℕ, zero, suc, ◌≤ℤ◌, ◌+ℤ◌, pos}
use Rattle.compact_types.specs.declared.places.Axis.{Axis}
use Rattle.compact_types.specs.declared.places.Axis.TheVariants.{X, Y}
use Rattle.compact_types.specs.declared.places.Places.{Places}
use Rattle.compact_types.specs.declared.plan.Shape.{Shape}
use Rattle.compact_types.specs.Lookups.{along, place}
use Rattle.bars.specs.Segments.{IsOnSegment}

-- the axis along which a side keeps the two apart: x for sides 0 and 1, y for 2 and 3
abbrev pub side_axis : ℕ → Axis
side_axis zero = X
side_axis (suc zero) = X
side_axis (suc (suc n)) = Y

-- of s and t the one that is first: s at the sides 0 and 2, t at 1 and 3
abbrev pub first_at_side : ℕ → ℕ → ℕ → ℕ
first_at_side zero s t = s
first_at_side (suc zero) s t = t
first_at_side (suc (suc zero)) s t = s
first_at_side (suc (suc (suc n))) s t = t

-- the one that is after it
abbrev pub second_at_side : ℕ → ℕ → ℕ → ℕ
second_at_side side s t = first_at_side side t s

-- each vertex of s is along the axis at least one step before each vertex of t
abbrev pub StandsBefore : Axis → Shape → Places → ℕ → ℕ → Type 0
StandsBefore axis shape places s t =
    (v w : ℕ) → IsOnSegment shape s v → IsOnSegment shape t w →
    (along axis (place places.xy v) +ℤ pos 1) ≤ℤ along axis (place places.xy w)

-- the side of s and t holds in the places
abbrev pub SideHolds : Shape → Places → ℕ → ℕ → ℕ → Type 0
SideHolds shape places s t side =
    StandsBefore (side_axis side) shape places (first_at_side side s t) (second_at_side side s t)
