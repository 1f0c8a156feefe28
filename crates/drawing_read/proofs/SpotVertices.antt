-- The vertex of each spot of a reading is one of its vertices.
use Rattle.std.proofs.Common.{◌≡◌, ℕ, zero, suc, ◌+◌, ◌-◌, ◌<◌, ◌≤◌, ℤ, List, [], ◌∷◌, length, take, map, Option, None, Some, nat_lt, refl, sym, subst, arith, slice_index_or, Contains, length-append}
use Rattle.std.specs.Prelude.{codes, slice_get, option_and_then}
use Rattle.std.specs.List.{cons_option, filter_map}
use Rattle.std.specs.Option.{option_map}
use Rattle.std.proofs.lemmas.Bool.{cond_both, ltb-true}
use Rattle.std.proofs.lemmas.List.{length-map}
use Rattle.compact_types.specs.declared.places.Point.{Point}
use Rattle.gml_text.specs.declared.tree.Tree.{Tree}
use Rattle.gml_text.specs.declared.tree.Pair.{Pair}
use Rattle.drawing_read.specs.declared.reading.Reading.{Reading}
use Rattle.drawing_read.specs.declared.reading.Spot.{Spot}
use Rattle.drawing_read.specs.declared.spans.EdgeSpan.{EdgeSpan}
use Rattle.drawing_read.specs.declared.written.Node.{Node}
use Rattle.drawing_read.specs.declared.written.Edge.{Edge}
use Rattle.drawing_read.specs.declared.written.Graph.{Graph}
use Rattle.drawing_read.specs.Coordinates.{IsCoordinate}
use Rattle.drawing_read.specs.Coordinates.IsCoordinate.{of_node, of_point}
use Rattle.drawing_read.specs.Faults.{graphs_of}
use Rattle.drawing_read.specs.Ids.{number_of_id, id_of, ids_of}
use Rattle.drawing_read.specs.Lookups.{list_under, lists_under}
use Rattle.drawing_read.specs.Readings.{graph_place, IsGraphReading, IfOne, IsReading}
use Rattle.drawing_read.specs.Routes.{point_of, node_points, route_of, routes_by}
use Rattle.drawing_read.specs.Spans.{bends_of, spans_from, spans_in, points_in, no_span, point_vertex}
use Rattle.drawing_read.specs.Written.{written_node, node_in, graph_of}
use Rattle.drawing_read.proofs.CoordinateCases.{spot_is_coordinate}
use Rattle.drawing_read.proofs.EndLemmas.{end_below}
use Rattle.drawing_read.proofs.FaultlessGraphs.{has_no_fault}
use Rattle.drawing_read.proofs.RouteLemmas.{all_bends, bends_cons}

-- the ends and the bends of an edge are below a bound
abbrev IsBelow : ℕ → EdgeSpan → Type 0
IsBelow most span = (span.source < most) × (span.target < most) × (span.first + span.bends ≤ most)

-- so are its points
point_below : (most : ℕ) (span : EdgeSpan) (p : ℕ) → IsBelow most span → point_vertex span p < most
point_below most span p (source, target, bends) =
    cond_both (nat_lt p span.at_source) span.source _ (λ (v : ℕ). v < most) (λ first. source)
    (λ later.
    cond_both (nat_lt (p - span.at_source) span.bends) (span.first + (p - span.at_source)) span.target (λ (v : ℕ). v < most)
    (λ less. let bend = ltb-true (p - span.at_source) span.bends less in omega (arith, bend, bends)) (λ last. target))

module _ (most : ℕ) (ids : List ℤ) (nodes : List Point) (some : 0 < length ids) (many : length ids ≤ most) where
  -- the edges, and the one that is taken for an edge that is not there
  span_below : (first : ℕ) (edges : List Edge) → first + length (all_bends nodes (map (route_of (number_of_id ids)) edges)) ≤ most →
      (e : ℕ) → IsBelow most (slice_index_or (spans_from nodes first (map (route_of (number_of_id ids)) edges)) e no_span)
  span_below first [] within e = (omega (arith, some, many), omega (arith, some, many), omega arith)
  span_below first (edge ∷ edges) within zero =
      let route = route_of (number_of_id ids) edge in
      let count = bends_cons nodes route (map (route_of (number_of_id ids)) edges) in
      let source = end_below ids edge.source some in
      let target = end_below ids edge.target some in
      (omega (arith, source, many), omega (arith, target, many), omega (arith, count, within))
  span_below first (edge ∷ edges) within (suc e) =
      let route = route_of (number_of_id ids) edge in
      let count = bends_cons nodes route (map (route_of (number_of_id ids)) edges) in
      span_below (first + length (bends_of nodes route)) edges (omega (arith, count, within)) e

-- the edges of a graph with a node
graph_span_below : (graph : Graph) → 0 < length graph.nodes → (e : ℕ) → IsBelow (length (points_in graph)) (slice_index_or (spans_in graph) e no_span)
graph_span_below graph node =
    let count = length-append (node_points graph.nodes) (all_bends (node_points graph.nodes) (routes_by (number_of_id (ids_of graph.nodes)) graph)) in
    let points = length-map graph.nodes (λ (node : Node). point_of node.place) in
    let ids = length-map graph.nodes id_of in
    span_below (length (points_in graph)) (ids_of graph.nodes) (node_points graph.nodes) (omega (arith, ids, node)) (omega (arith, ids, points, count))
    (length (node_points graph.nodes)) graph.edges (omega (arith, count))

-- the number of a list is below how many there are
number_below : (key : List ℕ) (pairs : List Pair) (at number : ℕ) (list : List Pair) → option_and_then (list_under key) (slice_get pairs at) ≡ Some list →
    length (lists_under key (take at pairs)) ≡ number → number < length (lists_under key pairs)
number_below key [] at number list there before = absurd (let e : None ≡ Some list = there in cc)
number_below key (pair ∷ pairs) zero number list there before =
    subst (λ (o : Option (List Pair)). number < length (cons_option o (lists_under key pairs))) (sym there) (omega (arith, before))
number_below key (pair ∷ pairs) (suc at) number list there before =
    by_list (list_under key pair) (number_below key pairs at (length (lists_under key (take at pairs))) list there refl) before
  where
    by_list : (o : Option (List Pair)) → length (lists_under key (take at pairs)) < length (lists_under key pairs) →
        length (cons_option o (lists_under key (take at pairs))) ≡ number → number < length (cons_option o (lists_under key pairs))
    by_list None rest is = omega (arith, is, rest)
    by_list (Some first) rest is = omega (arith, is, rest)

-- there are as many nodes as lists under `node`
nodes_counted : (pairs : List Pair) → length (filter_map node_in pairs) ≡ length (lists_under (codes "node") pairs)
nodes_counted [] = refl
nodes_counted (pair ∷ pairs) = by_list (list_under (codes "node") pair) (nodes_counted pairs)
  where
    by_list : (o : Option (List Pair)) → length (filter_map node_in pairs) ≡ length (lists_under (codes "node") pairs) →
        length (cons_option (option_map written_node o) (filter_map node_in pairs)) ≡ length (cons_option o (lists_under (codes "node") pairs))
    by_list None rest = rest
    by_list (Some list) rest = omega (arith, rest)

-- the vertex of a coordinate of a graph with a node
coordinate_below : (path : List ℕ) (graph : List Pair) {s : Spot} → 0 < length (graph_of graph).nodes → IsCoordinate path (spans_in (graph_of graph)) graph s →
    s.vertex < length (points_in (graph_of graph))
coordinate_below path graph node (of_node i n j x y list graphics axis number at both) =
    let below = number_below (codes "node") graph i n list number.there number.before in
    let nodes = nodes_counted graph in
    let points = length-map (graph_of graph).nodes (λ (node : Node). point_of node.place) in
    let count = length-append (node_points (graph_of graph).nodes)
    (all_bends (node_points (graph_of graph).nodes) (routes_by (number_of_id (ids_of (graph_of graph).nodes)) (graph_of graph))) in
    omega (arith, below, nodes, points, count)
coordinate_below path graph node (of_point i e j l q p x y edge graphics line point axis number at line_at point_at both) =
    point_below (length (points_in (graph_of graph))) (slice_index_or (spans_in (graph_of graph)) e no_span) p (graph_span_below (graph_of graph) node e)

-- the vertex of each spot of a reading
pub spot_vertex_below : (tree : Tree) (reading : Reading) (s : Spot) → IsReading tree reading → Contains reading.spots s → s.vertex < reading.plan.vertices
spot_vertex_below tree reading s is there = by (graphs_of tree) is
  where
    by : (graphs : List (List Pair)) → IfOne graphs (λ pairs. IsGraphReading (graph_place tree) pairs reading) → s.vertex < reading.plan.vertices
    by [] one = absurd one
    by (pairs ∷ []) one =
        let node = (has_no_fault (graph_of pairs) one.faultless).some_node in
        let coordinate = spot_is_coordinate (graph_place tree ∷ []) (spans_in (graph_of pairs)) pairs s (subst (λ (spots : List Spot). Contains spots s) one.spots there) in
        subst (λ (n : ℕ). s.vertex < n) (sym one.vertices) (coordinate_below (graph_place tree ∷ []) pairs node coordinate)
    by (pairs ∷ other ∷ more) one = absurd one
