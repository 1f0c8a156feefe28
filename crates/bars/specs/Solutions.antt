-- Which places solve a list of choices. No graph is used here.
use Rattle.std.specs.Prelude.{◌≡◌, ℕ, ◌<◌, ◌≤◌, List, [], ◌∷◌, ◌++◌, length, slice_index_or}
use Rattle.compact_types.specs.declared.places.Places.{Places}
use Rattle.compact_types.specs.declared.search.Choice.{Choice}
use Rattle.compact_types.specs.declared.plan.Shape.{Shape}
use Rattle.compact_types.specs.declared.limits.TheConstants.{MOST_VERTICES, MOST_CHOICES}
use Rattle.compact_types.specs.Connected.{IsConnected}
use Rattle.compact_types.specs.Drawings.{HasWays, IsDrawing}
use Rattle.bars.specs.Segments.{IsPair}
use Rattle.bars.specs.Sides.{SideHolds}

abbrev pub choice_at : List Choice → ℕ → Choice
choice_at choices i = slice_index_or choices i (record { s = 0; t = 0; side = 0 })

-- the choice names a pair of segments without a common vertex, and one of its four sides
pub record IsChoice (shape : Shape) (choice : Choice) : Type 0 where
  pub pair : IsPair shape choice.s choice.t
  pub side : choice.side < 4

-- the choices fit the shape
pub record Fit (shape : Shape) (choices : List Choice) : Type 0 where
  pub few : length choices ≤ MOST_CHOICES
  pub each : (i : ℕ) → i < length choices → IsChoice shape (choice_at choices i)

-- the choices, and the choice of one more side at their end
abbrev pub with_choice : List Choice → ℕ → ℕ → ℕ → List Choice
with_choice choices s t side = choices ++ record { s = s; t = t; side = side } ∷ []

-- the side of each choice holds
abbrev pub SidesHold : Shape → List Choice → Places → Type 0
SidesHold shape choices places =
    (i : ℕ) → i < length choices →
    SideHolds shape places (choice_at choices i).s (choice_at choices i).t (choice_at choices i).side

-- the places solve the choices: every piece has its way, and the side of each choice holds
pub record Solves (shape : Shape) (choices : List Choice) (places : Places) : Type 0 where
  pub places_fit : length places.xy ≡ shape.plan.vertices
  pub ways : HasWays shape places
  pub sides : SidesHold shape choices places

-- the shape has a drawing
abbrev pub HasDrawing : Shape → Type 0
HasDrawing shape = (places : Places) × IsDrawing shape places

-- what is known of a shape whose segments were found: it is connected, not too large, and has a drawing
pub record IsSound (shape : Shape) : Type 0 where
  pub connected : IsConnected shape.plan
  pub some_vertex : 0 < shape.plan.vertices
  pub few_vertices : shape.plan.vertices ≤ MOST_VERTICES
  pub drawable : HasDrawing shape
