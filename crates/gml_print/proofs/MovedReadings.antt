-- The reading of a graph whose vertices were moved: the same edges by their vertices, and the new places.
use Rattle.std.proofs.Common.{◌≡◌, ℕ, ◌+◌, ◌<◌, arith, ℤ, List, [], ◌++◌, length, map, Option, None, refl, sym, ap, ◌∙◌, zero-add, slice_index_or}
use Rattle.std.specs.Prelude.{unwrap_or}
use Rattle.std.specs.List.{position, filter_map, flat_map, range_with_len}
use Rattle.std.proofs.lemmas.List.{length-map, map-append, length-append}
use Rattle.std.proofs.lemmas.List.FromFn.{get_or-map-range_with_len}
use Rattle.compact_types.specs.declared.places.Point.{Point}
use Rattle.compact_types.specs.Lookups.{origin, place}
use Rattle.drawing_read.specs.declared.numerals.WholeNumber.{WholeNumber}
use Rattle.drawing_read.specs.declared.numerals.Number.{Number}
use Rattle.drawing_read.specs.declared.spans.EdgeSpan.{EdgeSpan}
use Rattle.drawing_read.specs.declared.written.Graph.{Graph}
use Rattle.drawing_read.specs.Ids.{ids_of, number_of_id, node_with}
use Rattle.drawing_read.specs.Routes.{node_points, routes_by}
use Rattle.drawing_read.specs.Spans.{bends_of, spans_from, points_by, spans_by, pieces_of, points_in, spans_in, pieces_in}
use Rattle.drawing_read.specs.Spans.{no_span}
use Rattle.drawing_read.specs.Ids.{first_repeated}
use Rattle.drawing_read.specs.Faults.{is_absent, is_unfit, graph_fault, numbers_in_graph, first_refused, refused_in, has_unknown_end}
use Rattle.drawing_read.proofs.Laws.{HasNoFault, end_below, has_no_fault, is_faultless}
use Rattle.gml_print.proofs.ListFacts.{range_append, length_range}
use Rattle.gml_print.proofs.MovedGraphs.{HavePlaces, EdgesHavePoints, Apart, moved_nodes, moved_edges, moved_node_points}
use Rattle.gml_print.proofs.MovedFaults.{have_places, edges_have_points, ids_moved, ids_position, length_moved, places_moved, numbers_fit, lacking_moved, unknown_moved, no_bad_point}
use Rattle.gml_print.proofs.MovedEdges.{KeepTheirVertices, edges_moved}

no_numbers : (numbers : List Number) → filter_map refused_in numbers ≡ [] → first_refused numbers ≡ None
no_numbers numbers is = rw is refl

-- each node of a graph without a fault has a place, and each point both numbers
pub written_parts : (graph : Graph) → graph_fault graph ≡ None → HavePlaces graph.nodes × EdgesHavePoints graph.edges
written_parts graph faultless =
    let has = has_no_fault graph faultless in
    (have_places graph.nodes has.places, edges_have_points 0 graph.edges has.points)

-- the graph with each vertex at its new place
abbrev pub moved_graph : (ℕ → Point) → Graph → Graph
moved_graph where_is graph = record {
  nodes = moved_nodes where_is 0 graph.nodes;
  edges = moved_edges where_is (λ e. slice_index_or (spans_in graph) e no_span) 0 graph.edges;
}

module _ (where_is : ℕ → Point) (graph : Graph) (faultless : graph_fault graph ≡ None) (apart : Apart where_is (pieces_in graph)) where
  no_fault : HasNoFault graph
  no_fault = has_no_fault graph faultless

  look : ℤ → Option ℕ
  look = number_of_id (ids_of graph.nodes)

  new_node_points : node_points (moved_nodes where_is 0 graph.nodes) ≡ map where_is (range_with_len 0 (length graph.nodes))
  new_node_points = moved_node_points where_is 0 graph.nodes (have_places graph.nodes no_fault.places)

  new_place : (v : ℕ) → v < length graph.nodes → place (node_points (moved_nodes where_is 0 graph.nodes)) v ≡ where_is v
  new_place v within = rw new_node_points (get_or-map-range_with_len where_is 0 (length graph.nodes) v v origin within (zero-add v))

  known : (end : WholeNumber) → unwrap_or (node_with look end) 0 < length graph.nodes
  unfolding look
  known end =
      let long : length (ids_of graph.nodes) ≡ length graph.nodes = length-map graph.nodes _ in
      rw (← long) (end_below (ids_of graph.nodes) end (rw long no_fault.some_node))

  kept : KeepTheirVertices where_is look (node_points graph.nodes) (node_points (moved_nodes where_is 0 graph.nodes)) (length graph.nodes) new_place known
      graph.edges (moved_graph where_is graph).edges (length (node_points graph.nodes))
  unfolding look
  kept = edges_moved where_is look (node_points graph.nodes) (node_points (moved_nodes where_is 0 graph.nodes)) (length graph.nodes) new_place known
      (λ e. slice_index_or (spans_in graph) e no_span) (length (node_points graph.nodes)) 0 graph.edges
      (edges_have_points 0 graph.edges no_fault.points)
      (λ k. ap (λ n. slice_index_or (spans_in graph) n no_span) (zero-add k)) apart

  same_length : length (node_points (moved_nodes where_is 0 graph.nodes)) ≡ length (node_points graph.nodes)
  same_length = length-map (moved_nodes where_is 0 graph.nodes) _ ∙ length_moved where_is 0 graph.nodes ∙ sym (length-map graph.nodes _)

  same_look : number_of_id (ids_of (moved_nodes where_is 0 graph.nodes)) ≡ look
  unfolding look
  same_look = ap number_of_id (ids_moved where_is 0 graph.nodes)

  spans_by_look : spans_by look (moved_graph where_is graph) ≡ spans_in graph
  unfolding look
  spans_by_look = ap (λ n. spans_from (node_points (moved_nodes where_is 0 graph.nodes)) n (routes_by look (moved_graph where_is graph))) same_length ∙ kept.0

  points_by_look : points_by look (moved_graph where_is graph) ≡ map where_is (range_with_len 0 (length (points_in graph)))
  unfolding look
  points_by_look =
      let n = length (node_points graph.nodes) in
      let m = length (flat_map (bends_of (node_points graph.nodes)) (routes_by look graph)) in
      let all : length (points_in graph) ≡ n + m = length-append (node_points graph.nodes) (flat_map (bends_of (node_points graph.nodes)) (routes_by look graph)) in
      let count : length graph.nodes ≡ n = sym (length-map graph.nodes _) in
      let front : node_points (moved_nodes where_is 0 graph.nodes) ≡ map where_is (range_with_len 0 n) = new_node_points ∙ ap (λ k. map where_is (range_with_len 0 k)) count in
      let behind : flat_map (bends_of (node_points (moved_nodes where_is 0 graph.nodes))) (routes_by look (moved_graph where_is graph)) ≡ map where_is (range_with_len (0 + n) m) =
      kept.1 ∙ ap (λ k. map where_is (range_with_len k m)) (sym (zero-add n)) in
      ap (λ xs. xs ++ flat_map (bends_of (node_points (moved_nodes where_is 0 graph.nodes))) (routes_by look (moved_graph where_is graph))) front
      ∙ ap (λ ys. map where_is (range_with_len 0 n) ++ ys) behind
      ∙ sym (map-append where_is (range_with_len 0 n) (range_with_len (0 + n) m))
      ∙ ap (map where_is) (sym (range_append 0 n m))
      ∙ ap (λ k. map where_is (range_with_len 0 k)) (sym all)

  -- the edges by their vertices stay
  pub spans_moved : spans_in (moved_graph where_is graph) ≡ spans_in graph
  spans_moved = ap (λ look. spans_by look (moved_graph where_is graph)) same_look ∙ spans_by_look

  -- each vertex stands at its new place
  pub points_moved : points_in (moved_graph where_is graph) ≡ map where_is (range_with_len 0 (length (points_in graph)))
  points_moved = ap (λ look. points_by look (moved_graph where_is graph)) same_look ∙ points_by_look

  same_count : length (points_in (moved_graph where_is graph)) ≡ length (points_in graph)
  same_count = ap length points_moved ∙ length-map (range_with_len 0 (length (points_in graph))) where_is ∙ length_range 0 (length (points_in graph))

  same_pieces : length (pieces_in (moved_graph where_is graph)) ≡ length (pieces_in graph)
  same_pieces = ap (λ spans. length (pieces_of spans)) spans_moved

  -- the moved graph has no fault
  pub faultless_moved : graph_fault (moved_graph where_is graph) ≡ None
  unfolding look
  faultless_moved =
      let moved = moved_graph where_is graph in
      let span_at : ℕ → EdgeSpan = λ e. slice_index_or (spans_in graph) e no_span in
      is_faultless moved (record {
        some_node = omega (arith, length_moved where_is 0 graph.nodes, no_fault.some_node);
        ids = ids_position where_is is_absent 0 graph.nodes ∙ no_fault.ids;
        fit_ids = ids_position where_is is_unfit 0 graph.nodes ∙ no_fault.fit_ids;
        different_ids = ap first_repeated (ids_moved where_is 0 graph.nodes) ∙ no_fault.different_ids;
        places = places_moved where_is 0 graph.nodes (have_places graph.nodes no_fault.places);
        numbers = no_numbers (numbers_in_graph moved) (numbers_fit where_is span_at 0 0 graph.nodes graph.edges);
        ends = lacking_moved where_is span_at graph.edges ∙ no_fault.ends;
        known_ends = ap (λ look. position (has_unknown_end look) moved.edges) same_look ∙ (unknown_moved where_is span_at look graph.edges ∙ no_fault.known_ends);
        points = no_bad_point where_is span_at 0 0 graph.edges (edges_have_points 0 graph.edges no_fault.points);
        few_vertices = omega (arith, same_count, no_fault.few_vertices);
        few_pieces = omega (arith, same_pieces, no_fault.few_pieces);
      })
