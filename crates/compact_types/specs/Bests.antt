-- Which drawing of a shape is the best one.
use Rattle.std.specs.Prelude.{◌≡◌, ℤ}
use Rattle.compact_types.specs.declared.places.Places.{Places}
use Rattle.compact_types.specs.declared.places.Key.{Key}
use Rattle.compact_types.specs.declared.plan.Shape.{Shape}
use Rattle.compact_types.specs.Drawings.{IsDrawing, IsFromZero}
use Rattle.compact_types.specs.Lengths.{length_of}
use Rattle.compact_types.specs.Orders.{IsBefore}

-- what is made least
pub data Objective : Type 0 where
  total_length : Objective

-- what the places of a shape are worth; the least is the best
abbrev pub worth_of : Objective → Shape → Places → ℤ
worth_of total_length shape places = length_of shape.plan places

abbrev pub key_of : Objective → Shape → Places → Key
key_of objective shape places = record { worth = worth_of objective shape places; places = places }

-- a drawing from zero, and none comes before it. This speaks of all places.
pub record IsBest (objective : Objective) (shape : Shape) (places : Places) : Type 0 where
  pub drawing : IsDrawing shape places
  pub from_zero : IsFromZero places
  pub none_before : (other : Places) → IsDrawing shape other → IsFromZero other →
      IsBefore (key_of objective shape other) (key_of objective shape places) → ⊥

-- some drawing of the shape is worth this
abbrev pub IsAttained : Objective → Shape → ℤ → Type 0
IsAttained objective shape worth =
    (places : Places) × IsDrawing shape places × (worth_of objective shape places ≡ worth)
