-- Lists of pieces and of points that are made of pairs of numbers, one by one.
use Rattle.std.proofs.Common.{◌≡◌, ℕ, ◌+◌, ◌<◌, ◌≤◌, ℤ, List, [], ◌∷◌, ◌++◌, length, take, ◌⊎◌, inl, inr, get_or, sym, ap, ◌∙◌, subst, arith}
use Rattle.std.proofs.lemmas.Bool.{cases_lt}
use Rattle.std.proofs.lemmas.List.{map_more, get_or-map, length-map, length_push, get_or_push, get_or_append_left}
use Rattle.compact_types.specs.declared.places.Axis.{Axis}
use Rattle.compact_types.specs.declared.places.Point.{Point}
use Rattle.compact_types.specs.declared.plan.Piece.{Piece}
use Rattle.compact_types.specs.Lookups.{origin, place, along, no_piece, piece_at, EndsAreVertices, pieces_between, points_at}
use Rattle.compact_types.specs.Magnitudes.{IsWithin}

-- an end of a pair is not a vertex
pub not_all_vertices : (vertices : ℕ) (ends : List (ℕ × ℕ)) (i : ℕ) (d : ℕ × ℕ) → i < length ends →
    (vertices ≤ (get_or ends i d).0) ⊎ (vertices ≤ (get_or ends i d).1) → EndsAreVertices vertices (pieces_between ends) → ⊥
not_all_vertices vertices ends i d inside past are = by_end past
  where
    piece : Piece
    piece = record { from = (get_or ends i d).0; to = (get_or ends i d).1 }

    read : piece_at (pieces_between ends) i ≡ piece
    read = get_or-map (λ (end : ℕ × ℕ). record { from = end.0; to = end.1 }) ends i d no_piece inside

    long : length (pieces_between ends) ≡ length ends
    long = length-map ends (λ (end : ℕ × ℕ). record { from = end.0; to = end.1 })

    both : (piece.from < vertices) × (piece.to < vertices)
    both = subst (λ (p : Piece). (p.from < vertices) × (p.to < vertices)) read (are i (omega (arith, inside, long)))

    by_end : (vertices ≤ (get_or ends i d).0) ⊎ (vertices ≤ (get_or ends i d).1) → ⊥
    by_end (inl from) = let below = both.0 in omega (arith, from, below)
    by_end (inr to) = let below = both.1 in omega (arith, to, below)

-- the points so far, with one more
pub points_one_more : (coordinates : List (ℤ × ℤ)) (i : ℕ) (d : ℤ × ℤ) (points more : List Point) (point : Point) → i < length coordinates →
    more ≡ points ++ point ∷ [] → points ≡ points_at (take i coordinates) →
    point ≡ record { x = (get_or coordinates i d).0; y = (get_or coordinates i d).1 } → more ≡ points_at (take (i + 1) coordinates)
points_one_more coordinates i d points more point inside is so_far here =
    is ∙ (λ k. so_far k ++ here k ∷ []) ∙ sym (map_more (λ (at : ℤ × ℤ). record { x = at.0; y = at.1 }) coordinates i d inside)

-- coordinates within a bound, with those of one more point
pub within_one_more : (bound : ℕ) (points more : List Point) (point : Point) → more ≡ points ++ point ∷ [] →
    ((axis : Axis) (v : ℕ) → v < length points → IsWithin bound (along axis (place points v))) → ((axis : Axis) → IsWithin bound (along axis point)) →
    (axis : Axis) (v : ℕ) → v < length more → IsWithin bound (along axis (place more v))
within_one_more bound points more point is below here axis v inside = by_order (cases_lt v (length points))
  where
    at : (p : Point) → place (points ++ point ∷ []) v ≡ p → IsWithin bound (along axis p) → IsWithin bound (along axis (place more v))
    at p e near = subst (λ (q : Point). IsWithin bound (along axis q)) (sym (ap (λ (l : List Point). place l v) is ∙ e)) near

    by_order : (v < length points) ⊎ (length points ≤ v) → IsWithin bound (along axis (place more v))
    by_order (inl less) = at (place points v) (get_or_append_left points (point ∷ []) origin v less) (below axis v less)
    by_order (inr not_less) =
        at point (get_or_push points point origin v (omega (arith, not_less, inside, ap length is, length_push points point))) (here axis)
