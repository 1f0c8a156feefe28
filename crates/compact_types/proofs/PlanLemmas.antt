-- Plans and shapes are equal where their parts are: what else they keep are proofs.
use Rattle.std.proofs.Common.{◌≡◌, ℕ, List, length, subst, ap}
use Rattle.std.proofs.Props.{props}
use Rattle.compact_types.specs.declared.plan.Piece.{Piece}
use Rattle.compact_types.specs.declared.plan.Plan.{Plan}
use Rattle.compact_types.specs.declared.plan.Shape.{Shape}
use Rattle.compact_types.specs.declared.plan.Way.{Way}
use Rattle.compact_types.specs.Lookups.{EndsAreVertices}

-- a plan and a shape of their parts
abbrev pub plan_of : (v : ℕ) (l : List Piece) → EndsAreVertices v l → Plan
plan_of v l ends = record { vertices = v; pieces = l; ends = ends }

abbrev pub shape_of : (p : Plan) (w : List Way) → length w ≡ length p.pieces → Shape
shape_of p w one_for_each = record { plan = p; ways = w; one_for_each = one_for_each }

-- two plans with the same vertices and pieces
pub same_plan : (p q : Plan) → p.vertices ≡ q.vertices → p.pieces ≡ q.pieces → p ≡ q
same_plan p q vertices pieces = at_pieces p.vertices q.vertices vertices p.pieces q.pieces pieces p.ends q.ends
  where
    at_ends : (v : ℕ) (l : List Piece) (e f : EndsAreVertices v l) → plan_of v l e ≡ plan_of v l f
    at_ends v l e f = let proof : IsProp (EndsAreVertices v l) = hlevel props in ap (plan_of v l) (proof e f)

    at_vertices : (v w : ℕ) → v ≡ w → (l : List Piece) (e : EndsAreVertices v l) (f : EndsAreVertices w l) →
        plan_of v l e ≡ plan_of w l f
    at_vertices v w same l e =
        subst (λ (x : ℕ). (f : EndsAreVertices x l) → plan_of v l e ≡ plan_of x l f) same (at_ends v l e)

    at_pieces : (v w : ℕ) → v ≡ w → (l m : List Piece) → l ≡ m →
        (e : EndsAreVertices v l) (f : EndsAreVertices w m) → plan_of v l e ≡ plan_of w m f
    at_pieces v w same l m same_pieces e =
        subst (λ (x : List Piece). (f : EndsAreVertices w x) → plan_of v l e ≡ plan_of w x f) same_pieces
        (at_vertices v w same l e)

-- two shapes with the same plan and ways
pub same_shape : (p q : Shape) → p.plan ≡ q.plan → p.ways ≡ q.ways → p ≡ q
same_shape p q plan ways = at_ways p.plan q.plan plan p.ways q.ways ways p.one_for_each q.one_for_each
  where
    at_fit : (r : Plan) (w : List Way) (e f : length w ≡ length r.pieces) → shape_of r w e ≡ shape_of r w f
    at_fit r w e f =
        let proof : IsProp (length w ≡ length r.pieces) = hlevel props in ap (shape_of r w) (proof e f)

    at_plan : (r s : Plan) → r ≡ s → (w : List Way) (e : length w ≡ length r.pieces) (f : length w ≡ length s.pieces) →
        shape_of r w e ≡ shape_of s w f
    at_plan r s same w e =
        subst (λ (x : Plan). (f : length w ≡ length x.pieces) → shape_of r w e ≡ shape_of x w f) same (at_fit r w e)

    at_ways : (r s : Plan) → r ≡ s → (v w : List Way) → v ≡ w →
        (e : length v ≡ length r.pieces) (f : length w ≡ length s.pieces) → shape_of r v e ≡ shape_of s w f
    at_ways r s same v w same_ways e =
        subst (λ (x : List Way). (f : length x ≡ length s.pieces) → shape_of r v e ≡ shape_of s x f) same_ways
        (at_plan r s same v e)
