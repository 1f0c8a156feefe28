-- The pieces of a graph with a node join vertices.
use Rattle.std.proofs.Common.{◌≡◌, ℕ, zero, suc, ◌+◌, ◌<◌, ◌≤◌, ℤ, List, [], ◌∷◌, ◌++◌, length, map, Option, None, Some, refl, arith, length-append, pos}
use Rattle.std.specs.Prelude.{unwrap_or}
use Rattle.std.specs.List.{range_with_len, position}
use Rattle.std.specs.Ordering.{int_eq}
use Rattle.std.proofs.lemmas.List.{length-map}
use Rattle.std.proofs.lemmas.List.Quantifiers.{position-Some}
use Rattle.compact_types.specs.declared.places.Point.{Point}
use Rattle.compact_types.specs.declared.plan.Piece.{Piece}
use Rattle.compact_types.specs.Lookups.{EndsAreVertices}
use Rattle.drawing_read.specs.declared.numerals.WholeNumber.{WholeNumber}
use Rattle.drawing_read.specs.declared.numerals.WholeNumber.TheVariants.{Absent, Other, Beyond, Fits}
use Rattle.drawing_read.specs.declared.written.Node.{Node}
use Rattle.drawing_read.specs.declared.written.Edge.{Edge}
use Rattle.drawing_read.specs.declared.written.Graph.{Graph}
use Rattle.drawing_read.specs.Ids.{number_of_id, node_with, id_of, ids_of}
use Rattle.drawing_read.specs.Routes.{point_of, node_points, route_of, routes_by}
use Rattle.drawing_read.specs.Spans.{bends_of, spans_from, chain, pieces_of, points_in, pieces_in}
use Rattle.drawing_read.proofs.RouteLemmas.{all_bends, bends_cons}

-- an end that names a node, or no node, is a number of a node
pub end_below : (ids : List ℤ) (end : WholeNumber) → 0 < length ids → unwrap_or (node_with (number_of_id ids) end) 0 < length ids
end_below ids Absent some = some
end_below ids Other some = some
end_below ids Beyond some = some
end_below ids (Fits id) some = by (position (int_eq id) ids) refl
  where
    by : (o : Option ℕ) → position (int_eq id) ids ≡ o → unwrap_or o 0 < length ids
    by None is = some
    by (Some n) is = (position-Some (int_eq id) ids n (pos 0) is).0

ends_cons : (most : ℕ) (piece : Piece) (pieces : List Piece) → (piece.from < most) × (piece.to < most) → EndsAreVertices most pieces → EndsAreVertices most (piece ∷ pieces)
ends_cons most piece pieces here rest zero below = here
ends_cons most piece pieces here rest (suc i) below = rest i (omega arith)

ends_none : (most : ℕ) → EndsAreVertices most []
ends_none most i below = absurd (omega arith)

ends_append : (most : ℕ) (ps qs : List Piece) → EndsAreVertices most ps → EndsAreVertices most qs → EndsAreVertices most (ps ++ qs)
ends_append most [] qs left right = right
ends_append most (p ∷ ps) qs left right =
    ends_cons most p (ps ++ qs) (left 0 (omega arith)) (ends_append most ps qs (λ i below. left (suc i) (omega arith)) right)

chain_ends : (most from first n to : ℕ) → from < most → to < most → first + n ≤ most → EndsAreVertices most (chain from (range_with_len first n) to)
chain_ends most from first zero to a b within = ends_cons most (record { from = from; to = to }) [] (a, b) (ends_none most)
chain_ends most from first (suc n) to a b within =
    ends_cons most (record { from = from; to = first }) (chain first (range_with_len (first + 1) n) to) (a, omega arith)
    (chain_ends most first (first + 1) n to (omega arith) b (omega arith))

module _ (most : ℕ) (ids : List ℤ) (nodes : List Point) (some : 0 < length ids) (many : length ids ≤ most) where
  pieces_ends : (first : ℕ) (edges : List Edge) → first + length (all_bends nodes (map (route_of (number_of_id ids)) edges)) ≤ most →
      EndsAreVertices most (pieces_of (spans_from nodes first (map (route_of (number_of_id ids)) edges)))
  pieces_ends first [] within = ends_none most
  pieces_ends first (edge ∷ edges) within =
      let route = route_of (number_of_id ids) edge in
      let routes = map (route_of (number_of_id ids)) edges in
      let count = bends_cons nodes route routes in
      let source = end_below ids edge.source some in
      let target = end_below ids edge.target some in
      ends_append most (chain route.source (range_with_len first (length (bends_of nodes route))) route.target)
      (pieces_of (spans_from nodes (first + length (bends_of nodes route)) routes))
      (chain_ends most route.source first (length (bends_of nodes route)) route.target (omega arith) (omega arith) (omega arith))
      (pieces_ends (first + length (bends_of nodes route)) edges (omega arith))

-- the pieces of a graph with a node join its vertices
pub pieces_join_vertices : (graph : Graph) → 0 < length graph.nodes → EndsAreVertices (length (points_in graph)) (pieces_in graph)
pieces_join_vertices graph node =
    let count = length-append (node_points graph.nodes) (all_bends (node_points graph.nodes) (routes_by (number_of_id (ids_of graph.nodes)) graph)) in
    let points = length-map graph.nodes (λ (node : Node). point_of node.place) in
    let ids = length-map graph.nodes id_of in
    pieces_ends (length (points_in graph)) (ids_of graph.nodes) (node_points graph.nodes) (omega arith) (omega arith) (length (node_points graph.nodes)) graph.edges (omega arith)
