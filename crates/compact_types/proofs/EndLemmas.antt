-- The ends of pieces: they are vertices, and what the code reads of them is theirs.
use Rattle.std.proofs.Common.{◌≡◌, ℕ, ◌<◌, List, length, inl, inr, subst, sym, ap, arith}
use Rattle.compact_types.specs.declared.places.Point.{Point}
use Rattle.compact_types.specs.declared.places.Places.{Places}
use Rattle.compact_types.specs.declared.plan.Piece.{Piece}
use Rattle.compact_types.specs.declared.plan.Plan.{Plan}
use Rattle.compact_types.specs.Drawings.{begin_of, end_of}
use Rattle.compact_types.specs.Lookups.{place, piece_at, IsEnd}

-- an end of a piece is a vertex
pub end_is_vertex : (plan : Plan) (i : ℕ) → i < length plan.pieces → (v : ℕ) → IsEnd v (piece_at plan.pieces i) → v < plan.vertices
end_is_vertex plan i inside v (inl is) = let ends = (plan.ends i inside).0 in omega (arith, ends, is)
end_is_vertex plan i inside v (inr is) = let ends = (plan.ends i inside).1 in omega (arith, ends, is)

-- what holds of the points that the code read holds of the ends of the piece
pub read_ends : (plan : Plan) (places : Places) (pieces : List Piece) (points : List Point) → pieces ≡ plan.pieces → points ≡ places.xy →
    (P : Point → Point → Type 0) (i : ℕ) → P (place points (piece_at pieces i).from) (place points (piece_at pieces i).to) →
    P (begin_of plan places i) (end_of plan places i)
read_ends plan places pieces points same_pieces same_points P i read =
    let moved = subst (λ (l : List Piece). P (place points (piece_at l i).from) (place points (piece_at l i).to)) same_pieces read in
    subst (λ (l : List Point). P (place l (piece_at plan.pieces i).from) (place l (piece_at plan.pieces i).to)) same_points moved

-- the ends of a piece that the code read have places
pub from_within : (plan : Plan) (places : Places) (pieces : List Piece) (points : List Point) → pieces ≡ plan.pieces → points ≡ places.xy →
    length places.xy ≡ plan.vertices → (i : ℕ) → i < length pieces → (piece_at pieces i).from < length points
from_within plan places pieces points same_pieces same_points fit i inside =
    let here = subst (λ (l : List Piece). i < length l) same_pieces inside in
    let end = subst (λ (l : List Piece). (piece_at l i).from < plan.vertices) (sym same_pieces) (plan.ends i here).0 in
    omega (arith, end, fit, ap length same_points)

pub to_within : (plan : Plan) (places : Places) (pieces : List Piece) (points : List Point) → pieces ≡ plan.pieces → points ≡ places.xy →
    length places.xy ≡ plan.vertices → (i : ℕ) → i < length pieces → (piece_at pieces i).to < length points
to_within plan places pieces points same_pieces same_points fit i inside =
    let here = subst (λ (l : List Piece). i < length l) same_pieces inside in
    let end = subst (λ (l : List Piece). (piece_at l i).to < plan.vertices) (sym same_pieces) (plan.ends i here).1 in
    omega (arith, end, fit, ap length same_points)
