-- How long a drawing is.
use Rattle.std.specs.Prelude.{ℤ, ◌+ℤ◌, ◌-ℤ◌, length}
use Rattle.std.specs.Int.{int_max}
use Rattle.compact_types.specs.declared.places.Point.{Point}
use Rattle.compact_types.specs.declared.places.Places.{Places}
use Rattle.compact_types.specs.declared.plan.Plan.{Plan}
use Rattle.compact_types.specs.Drawings.{begin_of, end_of}
use Rattle.compact_types.specs.Sums.{sum_to}

-- how far apart two numbers are
abbrev pub gap : ℤ → ℤ → ℤ
gap a b = int_max (b -ℤ a) (a -ℤ b)

-- |dx| + |dy| between two points
abbrev pub distance : Point → Point → ℤ
distance a b = gap a.x b.x +ℤ gap a.y b.y

-- the plain length: the sum over the pieces of the distance of their ends
abbrev pub plain_length_of : Plan → Places → ℤ
plain_length_of plan places =
    sum_to (λ i. distance (begin_of plan places i) (end_of plan places i)) (length plan.pieces)

-- the length that is made least: each piece counts with the distance of its ends
abbrev pub length_of : Plan → Places → ℤ
length_of plan places = plain_length_of plan places
