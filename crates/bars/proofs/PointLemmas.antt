-- Drawings that are given by their points, and those that are not there.
use Rattle.std.proofs.Common.{◌≡◌, ℕ, ℤ, List, length, Option, Some, None, MatchOption, Result, Ok, Err, subst, sym, ap, ◌∙◌}
use Rattle.std.proofs.lemmas.List.{length-map}
use Rattle.compact_types.specs.declared.places.Places.{Places}
use Rattle.compact_types.specs.declared.plan.Plan.{Plan}
use Rattle.compact_types.specs.declared.plan.Shape.{Shape}
use Rattle.compact_types.specs.declared.refusal.Refusal.{Refusal}
use Rattle.compact_types.specs.declared.refusal.Refusal.TheVariants.{Fault}
use Rattle.compact_types.specs.Connected.{IsConnected}
use Rattle.compact_types.specs.Drawings.{IsCrossingFree}
use Rattle.compact_types.specs.Lookups.{EndsAreVertices, points_at, pieces_between}
use Rattle.compact_types.specs.Refusals.{Decides, Gives}
use Rattle.compact_types.proofs.Laws.{same_plan, same_places}
use Rattle.drawing_check.specs.declared.fault.ShapeFault.{ShapeFault}
use Rattle.drawing_check.specs.Shapes.{IsShapeOf}
use Rattle.bars.specs.Points.{HaveNoDrawing, IsDrawnAt}

-- after a fault no value is right
pub no_shape : {P : Shape → Type 0} {Q : ShapeFault → Type 0} (result : Result Shape (Refusal ShapeFault)) (refusal : Refusal ShapeFault) (fault : ShapeFault) →
    result ≡ Err refusal → refusal ≡ Fault fault → Decides result P Q → (shape : Shape) → P shape → ⊥
no_shape {P} {Q} result refusal fault is fails decides shape holds =
    let gives : Ok shape ≡ Err fault = subst (λ (r : Result Shape (Refusal ShapeFault)). Gives r (Ok shape)) (is ∙ ap Err fails) (decides.only shape holds) in cc

-- a drawing with the points and the ends would give the plan a shape in the places
shape_of_drawing : (points : List (ℤ × ℤ)) (ends : List (ℕ × ℕ)) (plan : Plan) (places : Places) → plan.vertices ≡ length points →
    plan.pieces ≡ pieces_between ends → places.xy ≡ points_at points → (shape : Shape) (others : Places) → IsDrawnAt points ends shape others →
    IsShapeOf plan places shape
shape_of_drawing points ends plan places vertices pieces are shape others drawn = record {
  same_plan = same;
  connected = subst IsConnected same drawn.sound.connected;
  crossing_free = subst (λ (p : Places). IsCrossingFree shape p) (same_places others places (drawn.points_are ∙ sym are)) drawn.drawing.crossing_free;
}
  where
    long : length others.xy ≡ length points
    long = ap length drawn.points_are ∙ length-map points (λ (point : ℤ × ℤ). record { x = point.0; y = point.1 })

    same : shape.plan ≡ plan
    same = same_plan shape.plan plan (sym drawn.drawing.crossing_free.places_fit ∙ long ∙ sym vertices) (drawn.pieces_are ∙ sym pieces)

pub no_drawing : (points : List (ℤ × ℤ)) (ends : List (ℕ × ℕ)) (n : ℕ) (made : Option Plan) (plan : Plan) (places : Places) (found : Option Shape) → n ≡ length points →
    made ≡ Some plan → MatchOption made (EndsAreVertices n (pieces_between ends) → ⊥) (λ p. (p.vertices ≡ n) × (p.pieces ≡ pieces_between ends)) →
    places.xy ≡ points_at points → found ≡ None → MatchOption found ((shape : Shape) → IsShapeOf plan places shape → ⊥) (IsShapeOf plan places) →
    HaveNoDrawing points ends
no_drawing points ends n made plan places found all is_made made_is are is_none found_is shape others drawn =
    let parts = subst (λ (o : Option Plan). MatchOption o (EndsAreVertices n (pieces_between ends) → ⊥) (λ p. (p.vertices ≡ n) × (p.pieces ≡ pieces_between ends))) is_made made_is in
    let none = subst (λ (o : Option Shape). MatchOption o ((shape : Shape) → IsShapeOf plan places shape → ⊥) (IsShapeOf plan places)) is_none found_is in
    none shape (shape_of_drawing points ends plan places (parts.0 ∙ all) parts.1 are shape others drawn)
