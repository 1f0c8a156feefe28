-- How many vertices and pieces there are, and which vertices the pieces join.
use Rattle.std.proofs.Common.{◌≡◌, ℕ, zero, suc, ◌+◌, ◌-◌, ◌<◌, ◌≤◌, ◌^◌, ℤ, Bool, true, false, cond, List, [], ◌∷◌, length, take, drop, map, Option, refl, All, arith, length-append, length-take, length-drop}
use Rattle.std.specs.List.{flat_map, range_with_len}
use Rattle.std.proofs.lemmas.List.{length-map}
use Rattle.std.proofs.lemmas.List.FromFn.{length-range_with_len}
use Rattle.std.proofs.lemmas.List.Sums.{sum_by-cons}
use Rattle.compact_types.specs.declared.places.Point.{Point}
use Rattle.compact_types.specs.Lookups.{place}
use Rattle.drawing_read.specs.declared.written.Node.{Node}
use Rattle.drawing_read.specs.declared.written.Edge.{Edge}
use Rattle.drawing_read.specs.declared.written.Graph.{Graph}
use Rattle.drawing_read.specs.declared.spans.EdgeSpan.{EdgeSpan}
use Rattle.drawing_read.specs.inner.Legible.{most_pairs}
use Rattle.drawing_read.specs.inner.Passes.{point_count, CanBeCounted}
use Rattle.drawing_read.specs.Spans.{begins_at, ends_at, after_first_at, before_last_at, bends_of, spans_from, chain, pieces_of, points_in, spans_in, pieces_in}
use Rattle.drawing_read.specs.Ids.{number_of_id, ids_of}
use Rattle.drawing_read.specs.Routes.{Route, point_of, route_of, routes_by, node_points}

after_below : (here : Point) (points : List Point) → length (after_first_at here points) ≤ length points
after_below here points = by (begins_at here points)
  where
    by : (b : Bool) → length (cond b (drop 1 points) points) ≤ length points
    by true = omega (arith, length-drop 1 points)
    by false = omega arith

before_below : (here : Point) (points : List Point) → length (before_last_at here points) ≤ length points
before_below here points = by (ends_at here points)
  where
    by : (b : Bool) → length (cond b (take (length points - 1) points) points) ≤ length points
    by true = omega (arith, length-take (length points - 1) points)
    by false = omega arith

bends_below : (nodes : List Point) (route : Route) → length (bends_of nodes route) ≤ length route.points
bends_below nodes route =
    omega (arith, before_below (place nodes route.target) (after_first_at (place nodes route.source) route.points), after_below (place nodes route.source) route.points)

abbrev pub all_bends : List Point → List Route → List Point
all_bends nodes routes = flat_map (bends_of nodes) routes

pub bends_cons : (nodes : List Point) (route : Route) (routes : List Route) →
    length (all_bends nodes (route ∷ routes)) ≡ length (bends_of nodes route) + length (all_bends nodes routes)
bends_cons nodes route routes = length-append (bends_of nodes route) (all_bends nodes routes)

-- no more bends than points
few_bends : (nodes : List Point) (look : ℤ → Option ℕ) (edges : List Edge) → length (all_bends nodes (map (route_of look) edges)) ≤ point_count edges
few_bends nodes look [] = omega arith
few_bends nodes look (edge ∷ edges) =
    omega (
      arith,
      bends_cons nodes (route_of look edge) (map (route_of look) edges),
      bends_below nodes (route_of look edge),
      length-map edge.points point_of,
      sum_by-cons (λ (edge : Edge). length edge.points) edge edges,
      few_bends nodes look edges,
    )

-- the vertices are few
pub few_points : (graph : Graph) → CanBeCounted graph → length (points_in graph) ≤ most_pairs
few_points graph small =
    let look = number_of_id (ids_of graph.nodes) in
    omega (
      arith,
      length-append (node_points graph.nodes) (all_bends (node_points graph.nodes) (routes_by look graph)),
      length-map graph.nodes (λ (node : Node). point_of node.place),
      few_bends (node_points graph.nodes) look graph.edges,
      small.vertices,
    )

length-chain : (from : ℕ) (bends : List ℕ) (to : ℕ) → length (chain from bends to) ≡ length bends + 1
length-chain from [] to = omega arith
length-chain from (bend ∷ bends) to = omega (arith, length-chain bend bends to)

pieces_from : (nodes : List Point) (first : ℕ) (routes : List Route) →
    length (pieces_of (spans_from nodes first routes)) ≡ length routes + length (all_bends nodes routes)
pieces_from nodes first [] = refl
pieces_from nodes first (route ∷ routes) =
    omega (
      arith,
      bends_cons nodes route routes,
      length-append (chain route.source (range_with_len first (length (bends_of nodes route))) route.target) (pieces_of (spans_from nodes (first + length (bends_of nodes route)) routes)),
      length-chain route.source (range_with_len first (length (bends_of nodes route))) route.target,
      length-range_with_len first (length (bends_of nodes route)),
      pieces_from nodes (first + length (bends_of nodes route)) routes,
    )

-- the pieces are few
pub few_pieces : (graph : Graph) → CanBeCounted graph → length (pieces_in graph) ≤ most_pairs + most_pairs
few_pieces graph small =
    let look = number_of_id (ids_of graph.nodes) in
    omega (
      arith,
      pieces_from (node_points graph.nodes) (length (node_points graph.nodes)) (routes_by look graph),
      few_bends (node_points graph.nodes) look graph.edges,
      length-map graph.edges (route_of look),
      small.edges,
      small.vertices,
    )

-- the numbers of the bends end below the number of vertices
spans_end : (nodes : List Point) (first most : ℕ) (routes : List Route) → first + length (all_bends nodes routes) ≤ most →
    All (λ (span : EdgeSpan). span.first + span.bends ≤ most) (spans_from nodes first routes)
spans_end nodes first most [] within k d below = absurd (omega arith)
spans_end nodes first most (route ∷ routes) within zero d below = omega (arith, bends_cons nodes route routes)
spans_end nodes first most (route ∷ routes) within (suc k) d below =
    spans_end nodes (first + length (bends_of nodes route)) most routes (omega (arith, bends_cons nodes route routes)) k d (omega arith)

-- they can be counted
pub spans_fit : (graph : Graph) → CanBeCounted graph → All (λ (span : EdgeSpan). span.first + span.bends < 2 ^ 32) (spans_in graph)
spans_fit graph small k d below =
    let nodes = node_points graph.nodes in
    let routes = routes_by (number_of_id (ids_of graph.nodes)) graph in
    let e = spans_end nodes (length nodes) (length (points_in graph)) routes (omega (arith, length-append nodes (all_bends nodes routes))) k d below in
    omega (arith, e, few_points graph small)
