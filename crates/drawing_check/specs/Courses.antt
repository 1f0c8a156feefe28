-- How pieces run between the places of their ends.
use Rattle.std.specs.Prelude.{◌≡◌, ℕ, ◌<◌, length}
use Rattle.compact_types.specs.declared.places.Places.{Places}
use Rattle.compact_types.specs.declared.plan.Plan.{Plan}
use Rattle.compact_types.specs.declared.plan.Way.{Way}
use Rattle.compact_types.specs.Ways.{HasWay}
use Rattle.compact_types.specs.Drawings.{begin_of, end_of}

-- the ends of piece i have the same point
abbrev pub HasNoLength : Plan → Places → ℕ → Type 0
HasNoLength plan places i = begin_of plan places i ≡ end_of plan places i

-- both coordinates of the ends of piece i differ
abbrev pub IsSlanted : Plan → Places → ℕ → Type 0
IsSlanted plan places i =
    ((begin_of plan places i).x ≡ (end_of plan places i).x → ⊥)
    × ((begin_of plan places i).y ≡ (end_of plan places i).y → ⊥)

-- every piece has a way
abbrev pub AllHaveWays : Plan → Places → Type 0
AllHaveWays plan places =
    (i : ℕ) → i < length plan.pieces → (way : Way) × HasWay way (begin_of plan places i) (end_of plan places i)
