-- The shape of one vertex, of which the tests have a board.
use Rattle.std.proofs.Common.{◌≡◌, ℕ, zero, suc, ◌<◌, pos, [], ◌∷◌, length, refl, sym, ap, ◌∙◌, arith}
use Rattle.std.proofs.lemmas.Int.{ints}
use Rattle.compact_types.specs.declared.places.Axis.{Axis}
use Rattle.compact_types.specs.declared.places.Axis.TheVariants.{X, Y}
use Rattle.compact_types.specs.declared.places.Key.{Key}
use Rattle.compact_types.specs.declared.places.Places.{Places}
use Rattle.compact_types.specs.declared.plan.Shape.{Shape}
use Rattle.compact_types.specs.Bests.Objective.{total_length}
use Rattle.compact_types.specs.Bests.{worth_of}
use Rattle.compact_types.specs.Connected.{IsJoined}
use Rattle.compact_types.specs.Connected.AreJoined.{start}
use Rattle.compact_types.specs.Drawings.{IsDrawing, IsFromZero}
use Rattle.compact_types.specs.Lookups.{along, origin, place}
use Rattle.compact_types.proofs.Laws.{drawing_of_crossing_free}
use Rattle.bars.specs.Solutions.{IsSound, Solves}
use Rattle.shape_graphs.specs.Measures.{IsFoundLeast}
use Rattle.shape_graphs.proofs.Laws.{no_cycle_where_solved}
use Rattle.board.specs.Facts.{IsDrawnKey}

-- the shape has one vertex and no piece
pub record IsDot (shape : Shape) : Type 0 where
  pub vertices : shape.plan.vertices ≡ 1
  pub pieces : shape.plan.pieces ≡ []

-- the key of its one drawing from zero
pub record IsDotKey (key : Key) : Type 0 where
  pub worth : key.worth ≡ pos 0
  pub places : key.places.xy ≡ origin ∷ []

no_piece : (shape : Shape) (i : ℕ) → IsDot shape → i < length shape.plan.pieces → ⊥
no_piece shape i dot inside = let none = ap length dot.pieces in omega (arith, inside, none)

pub dot_drawing : (shape : Shape) (places : Places) → IsDot shape → places.xy ≡ origin ∷ [] → IsDrawing shape places
dot_drawing shape places dot at = drawing_of_crossing_free shape places (record {
  places_fit = ap length at ∙ sym dot.vertices;
  ways = λ i inside. absurd (no_piece shape i dot inside);
  meetings = λ i j inside. absurd (no_piece shape i dot inside);
})

one_place : (places : Places) (axis : Axis) (v : ℕ) → places.xy ≡ origin ∷ [] → v < length places.xy → along axis (place places.xy v) ≡ pos 0
one_place places X zero at inside = rw at refl
one_place places Y zero at inside = rw at refl
one_place places axis (suc v) at inside = let one = ap length at in absurd (omega (arith, inside, one))

pub dot_from_zero : (places : Places) → places.xy ≡ origin ∷ [] → IsFromZero places
dot_from_zero places at axis = record {
  none_below = λ v inside. rw (one_place places axis v at inside) (omega (arith, ints));
  reached = let one = ap length at in let some : 0 < length places.xy = omega (arith, one) in (0, some, one_place places axis 0 at some);
}

no_worth : (shape : Shape) (places : Places) → IsDot shape → worth_of total_length shape places ≡ pos 0
no_worth shape places dot = rw dot.pieces refl

pub dot_drawn : (shape : Shape) (key : Key) → IsDot shape → IsDotKey key → IsDrawnKey total_length shape key
dot_drawn shape key dot at = record {
  drawing = dot_drawing shape key.places dot at.places;
  from_zero = dot_from_zero key.places at.places;
  worth = at.worth ∙ sym (no_worth shape key.places dot);
}

pub dot_sound : (shape : Shape) → IsDot shape → IsSound shape
dot_sound shape dot = record {
  connected = λ v inside. joined v inside;
  some_vertex = let one = dot.vertices in omega (arith, one);
  few_vertices = let one = dot.vertices in omega (arith, one);
  drawable = (record { xy = origin ∷ [] }, dot_drawing shape (record { xy = origin ∷ [] }) dot refl);
}
  where
    joined : (v : ℕ) → v < shape.plan.vertices → IsJoined shape.plan v
    joined zero inside = start
    joined (suc v) inside = let one = dot.vertices in absurd (omega (arith, inside, one))

dot_solves : (shape : Shape) (key : Key) → IsDot shape → IsDotKey key → Solves shape [] key.places
dot_solves shape key dot at = record {
  places_fit = ap length at.places ∙ sym dot.vertices;
  ways = λ i inside. absurd (no_piece shape i dot inside);
  sides = λ i inside. absurd (omega (arith, inside));
}

pub dot_least : (shape : Shape) (key : Key) → IsDot shape → IsDotKey key → IsFoundLeast total_length shape [] key
dot_least shape key dot at = record {
  no_cycle = no_cycle_where_solved shape [] (dot_sound shape dot).drawable (record {
    few = omega arith;
    each = λ i inside. absurd (omega (arith, inside));
  }) key.places (dot_solves shape key dot at);
  least = record {
    solves = dot_solves shape key dot at;
    from_zero = dot_from_zero key.places at.places;
    worth = at.worth ∙ sym (no_worth shape key.places dot);
    none_less = λ others solves. rw (at.worth, no_worth shape others dot) (omega (arith, ints));
    lowest = λ others solves same positive axis v inside.
        rw (one_place key.places axis v at.places inside)
        (positive axis v (let long = solves.places_fit in let one = dot.vertices in let here = ap length at.places in omega (arith, inside, long, one, here)));
  };
}
