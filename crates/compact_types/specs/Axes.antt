-- Both axes alike: which end of a piece is the low one, and how long a drawing is along an axis.
use Rattle.std.specs.Prelude.{◌≡◌, ℕ, ℤ, ◌<ℤ◌, length, ◌⊎◌}
use Rattle.compact_types.specs.declared.places.Axis.{Axis}
use Rattle.compact_types.specs.declared.places.Point.{Point}
use Rattle.compact_types.specs.declared.places.Places.{Places}
use Rattle.compact_types.specs.declared.plan.Piece.{Piece}
use Rattle.compact_types.specs.declared.plan.Plan.{Plan}
use Rattle.compact_types.specs.declared.plan.Way.{Way}
use Rattle.compact_types.specs.declared.plan.Way.TheVariants.{East, West, High, Low}
use Rattle.compact_types.specs.Drawings.{begin_of, end_of}
use Rattle.compact_types.specs.Lengths.{gap}
use Rattle.compact_types.specs.Lookups.{along, other_axis}
use Rattle.compact_types.specs.Sums.{sum_to}

-- exactly one coordinate of the two points differs
abbrev pub DifferInOne : Point → Point → Type 0
DifferInOne a b = ((a.x ≡ b.x → ⊥) × (a.y ≡ b.y)) ⊎ ((a.x ≡ b.x) × (a.y ≡ b.y → ⊥))

-- the first point is before the second along the axis, and level with it across
pub record IsStraight (axis : Axis) (low high : Point) : Type 0 where
  pub before : (along axis low) <ℤ (along axis high)
  pub level : along (other_axis axis) low ≡ along (other_axis axis) high

-- the western or the lower end of a piece with this way, and the eastern or the higher one
abbrev pub low_end : Way → Piece → ℕ
low_end East piece = piece.from
low_end West piece = piece.to
low_end High piece = piece.from
low_end Low piece = piece.to

abbrev pub high_end : Way → Piece → ℕ
high_end East piece = piece.to
high_end West piece = piece.from
high_end High piece = piece.to
high_end Low piece = piece.from

-- the sum over the pieces of how far apart their ends are along the axis
abbrev pub length_along : Axis → Plan → Places → ℤ
length_along axis plan places =
    sum_to (λ i. gap (along axis (begin_of plan places i)) (along axis (end_of plan places i)))
    (length plan.pieces)
