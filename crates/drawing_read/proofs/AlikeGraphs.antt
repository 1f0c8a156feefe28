-- The vertices, the pieces and the faults of a graph, where all offsets are 0.
use Rattle.std.proofs.Common.{◌≡◌, ℕ, ◌+◌, ◌<◌, ◌≤◌, ℤ, Bool, List, [], ◌∷◌, ◌++◌, length, map, Option, None, Some, Result, Ok, Err, refl, sym, ap, ◌∙◌, subst}
use Rattle.std.specs.Prelude.{is_none}
use Rattle.std.specs.List.{position, filter_map, flat_map, reduce}
use Rattle.std.specs.Option.{option_map, option_or}
use Rattle.std.proofs.lemmas.List.{length-map, map-append}
use Rattle.std.proofs.lemmas.Simd.{map-map}
use Rattle.gml_text.specs.declared.number.NumberFault.{NumberFault}
use Rattle.compact_types.specs.declared.limits.TheConstants.{MOST_VERTICES}
use Rattle.compact_types.specs.declared.places.Point.{Point}
use Rattle.drawing_read.specs.declared.fault.DrawFault.TheVariants.{BadPoint}
use Rattle.drawing_read.specs.declared.limits.TheConstants.{MOST_PIECES_READ}
use Rattle.drawing_read.specs.declared.numerals.Number.{Number}
use Rattle.drawing_read.specs.declared.numerals.Numbers.{Numbers}
use Rattle.drawing_read.specs.declared.refused.RefusedNumber.{RefusedNumber}
use Rattle.drawing_read.specs.declared.written.Node.{Node}
use Rattle.drawing_read.specs.declared.written.Edge.{Edge}
use Rattle.drawing_read.specs.declared.written.Graph.{Graph}
use Rattle.drawing_read.specs.Ids.{id_of, ids_of, number_of_id, first_repeated}
use Rattle.drawing_read.specs.Routes.{Route, point_of, node_points, route_of, routes_by}
use Rattle.drawing_read.specs.Spans.{vertex_points, spans_of, pieces_of, points_in, spans_in, pieces_in}
use Rattle.drawing_read.specs.Faults.{is_absent, is_unfit, both_numbers, numbers_in_graph, refused_in, earlier, lacks_end, has_unknown_end, bad_point_from, graph_fault}
use Rattle.drawing_read.proofs.AlikeLists.{bare_number, bare_point, bare_node, bare_edge, bare_graph, position-map, filter_map-map}
use Rattle.drawing_read.proofs.FaultlessGraphs.{HasNoFault, has_no_fault, is_faultless}

-- places

point_of-bare : (point : Option Numbers) → point_of (bare_point point) ≡ point_of point
point_of-bare None = refl
point_of-bare (Some numbers) = refl

node_points-bare : (nodes : List Node) → node_points (map bare_node nodes) ≡ node_points nodes
node_points-bare [] = refl
node_points-bare (node ∷ nodes) =
    ap (λ (point : Point). point ∷ node_points (map bare_node nodes)) (point_of-bare node.place) ∙ ap (λ (points : List Point). point_of node.place ∷ points) (node_points-bare nodes)

edge_points-bare : (points : List (Option Numbers)) → map point_of (map bare_point points) ≡ map point_of points
edge_points-bare [] = refl
edge_points-bare (point ∷ points) =
    ap (λ (p : Point). p ∷ map point_of (map bare_point points)) (point_of-bare point) ∙ ap (λ (ps : List Point). point_of point ∷ ps) (edge_points-bare points)

ids_of-bare : (nodes : List Node) → ids_of (map bare_node nodes) ≡ ids_of nodes
ids_of-bare nodes = map-map id_of bare_node nodes

routes-bare : (look : ℤ → Option ℕ) (edges : List Edge) → map (route_of look) (map bare_edge edges) ≡ map (route_of look) edges
routes-bare look [] = refl
routes-bare look (edge ∷ edges) =
    let source = (route_of look edge).source in
    let target = (route_of look edge).target in
    ap (λ (points : List Point). record { source = source; target = target; points = points } ∷ map (route_of look) (map bare_edge edges)) (edge_points-bare edge.points)
    ∙ ap (λ (routes : List Route). route_of look edge ∷ routes) (routes-bare look edges)

module _ (graph : Graph) where
  same_look : number_of_id (ids_of (map bare_node graph.nodes)) ≡ number_of_id (ids_of graph.nodes)
  same_look = ap number_of_id (ids_of-bare graph.nodes)

  same_routes : routes_by (number_of_id (ids_of (map bare_node graph.nodes))) (bare_graph graph) ≡ routes_by (number_of_id (ids_of graph.nodes)) graph
  same_routes = routes-bare (number_of_id (ids_of (map bare_node graph.nodes))) graph.edges ∙ ap (λ (look : ℤ → Option ℕ). map (route_of look) graph.edges) same_look

  pub points_in-bare : points_in (bare_graph graph) ≡ points_in graph
  points_in-bare =
      ap (λ (nodes : List Point). vertex_points nodes (routes_by (number_of_id (ids_of (map bare_node graph.nodes))) (bare_graph graph))) (node_points-bare graph.nodes)
      ∙ ap (vertex_points (node_points graph.nodes)) same_routes

  pub spans_in-bare : spans_in (bare_graph graph) ≡ spans_in graph
  spans_in-bare =
      ap (λ (nodes : List Point). spans_of nodes (routes_by (number_of_id (ids_of (map bare_node graph.nodes))) (bare_graph graph))) (node_points-bare graph.nodes)
      ∙ ap (spans_of (node_points graph.nodes)) same_routes

  pub pieces_in-bare : pieces_in (bare_graph graph) ≡ pieces_in graph
  pieces_in-bare = ap pieces_of spans_in-bare

-- faults

is_none-bare : (point : Option Numbers) → is_none (bare_point point) ≡ is_none point
is_none-bare None = refl
is_none-bare (Some numbers) = refl

without_place-bare : (nodes : List Node) → position (λ node. is_none node.place) (map bare_node nodes) ≡ position (λ node. is_none node.place) nodes
without_place-bare nodes =
    position-map (λ (node : Node). is_none node.place) bare_node nodes
    ∙ ap (λ (p : Node → Bool). position p nodes) (λ i node. is_none-bare node.place i)

bad_point-bare : (e : ℕ) (edges : List Edge) → bad_point_from e (map bare_edge edges) ≡ bad_point_from e edges
bad_point-bare e [] = refl
bad_point-bare e (edge ∷ edges) =
    let first : position is_none (map bare_point edge.points) ≡ position is_none edge.points =
    position-map is_none bare_point edge.points ∙ ap (λ (p : Option Numbers → Bool). position p edge.points) (λ i point. is_none-bare point i) in
    ap (λ (o : Option ℕ). option_or (option_map (λ p. BadPoint e p) o) (bad_point_from (e + 1) (map bare_edge edges))) first
    ∙ ap (option_or (option_map (λ p. BadPoint e p) (position is_none edge.points))) (bad_point-bare (e + 1) edges)

-- the numbers

both-bare : (point : Option Numbers) → both_numbers (bare_point point) ≡ map bare_number (both_numbers point)
both-bare None = refl
both-bare (Some numbers) = refl

both_flat-bare : (points : List (Option Numbers)) → flat_map both_numbers (map bare_point points) ≡ map bare_number (flat_map both_numbers points)
both_flat-bare [] = refl
both_flat-bare (point ∷ points) =
    ap (λ (ns : List Number). ns ++ flat_map both_numbers (map bare_point points)) (both-bare point)
    ∙ ap (λ (ns : List Number). map bare_number (both_numbers point) ++ ns) (both_flat-bare points)
    ∙ sym (map-append bare_number (both_numbers point) (flat_map both_numbers points))

abbrev node_numbers : List Node → List Number
node_numbers nodes = flat_map (λ (node : Node). both_numbers node.place) nodes

nodes_flat-bare : (nodes : List Node) → node_numbers (map bare_node nodes) ≡ map bare_number (node_numbers nodes)
nodes_flat-bare [] = refl
nodes_flat-bare (node ∷ nodes) =
    ap (λ (ns : List Number). ns ++ node_numbers (map bare_node nodes)) (both-bare node.place)
    ∙ ap (λ (ns : List Number). map bare_number (both_numbers node.place) ++ ns) (nodes_flat-bare nodes)
    ∙ sym (map-append bare_number (both_numbers node.place) (node_numbers nodes))

abbrev edge_numbers : List Edge → List Number
edge_numbers edges = flat_map (λ (edge : Edge). flat_map both_numbers edge.points) edges

edges_flat-bare : (edges : List Edge) → edge_numbers (map bare_edge edges) ≡ map bare_number (edge_numbers edges)
edges_flat-bare [] = refl
edges_flat-bare (edge ∷ edges) =
    ap (λ (ns : List Number). ns ++ edge_numbers (map bare_edge edges)) (both_flat-bare edge.points)
    ∙ ap (λ (ns : List Number). map bare_number (flat_map both_numbers edge.points) ++ ns) (edges_flat-bare edges)
    ∙ sym (map-append bare_number (flat_map both_numbers edge.points) (edge_numbers edges))

numbers-bare : (graph : Graph) → numbers_in_graph (bare_graph graph) ≡ map bare_number (numbers_in_graph graph)
numbers-bare graph =
    ap (λ (ns : List Number). ns ++ edge_numbers (map bare_edge graph.edges)) (nodes_flat-bare graph.nodes)
    ∙ ap (λ (ns : List Number). map bare_number (node_numbers graph.nodes) ++ ns) (edges_flat-bare graph.edges)
    ∙ sym (map-append bare_number (node_numbers graph.nodes) (edge_numbers graph.edges))

abbrev bare_refused : RefusedNumber → RefusedNumber
bare_refused refused = record { at = 0; cause = refused.cause }

refused-bare : (number : Number) → refused_in (bare_number number) ≡ option_map bare_refused (refused_in number)
refused-bare number = by number.value
  where
    told : ℕ → Result ℤ NumberFault → Option RefusedNumber
    told at (Ok value) = None
    told at (Err cause) = Some (record { at = at; cause = cause })

    by : (r : Result ℤ NumberFault) → told 0 r ≡ option_map bare_refused (told number.at r)
    by (Ok value) = refl
    by (Err cause) = refl

all_refused-bare : (graph : Graph) → filter_map refused_in (numbers_in_graph (bare_graph graph)) ≡ map bare_refused (filter_map refused_in (numbers_in_graph graph))
all_refused-bare graph =
    ap (filter_map refused_in) (numbers-bare graph) ∙ filter_map-map refused_in bare_number bare_refused refused_in refused-bare (numbers_in_graph graph)

none_of_mapped : (refused : List RefusedNumber) → reduce earlier (map bare_refused refused) ≡ None → reduce earlier refused ≡ None
none_of_mapped [] none = refl
none_of_mapped (r ∷ rs) none = absurd (cc)

mapped_of_none : (refused : List RefusedNumber) → reduce earlier refused ≡ None → reduce earlier (map bare_refused refused) ≡ None
mapped_of_none [] none = refl
mapped_of_none (r ∷ rs) none = absurd (cc)

module _ (graph : Graph) where
  unknown-bare : position (has_unknown_end (number_of_id (ids_of (map bare_node graph.nodes)))) (map bare_edge graph.edges)
      ≡ position (has_unknown_end (number_of_id (ids_of graph.nodes))) graph.edges
  unknown-bare =
      position-map (has_unknown_end (number_of_id (ids_of (map bare_node graph.nodes)))) bare_edge graph.edges
      ∙ ap (λ (look : ℤ → Option ℕ). position (has_unknown_end look) graph.edges) (same_look graph)

  to_bare : HasNoFault graph → HasNoFault (bare_graph graph)
  to_bare has = record {
    some_node = subst (λ n. 0 < n) (sym (length-map graph.nodes bare_node)) has.some_node;
    ids = position-map (λ (node : Node). is_absent node.id) bare_node graph.nodes ∙ has.ids;
    fit_ids = position-map (λ (node : Node). is_unfit node.id) bare_node graph.nodes ∙ has.fit_ids;
    different_ids = ap first_repeated (ids_of-bare graph.nodes) ∙ has.different_ids;
    places = without_place-bare graph.nodes ∙ has.places;
    numbers = ap (reduce earlier) (all_refused-bare graph) ∙ mapped_of_none (filter_map refused_in (numbers_in_graph graph)) has.numbers;
    ends = position-map lacks_end bare_edge graph.edges ∙ has.ends;
    known_ends = unknown-bare ∙ has.known_ends;
    points = bad_point-bare 0 graph.edges ∙ has.points;
    few_vertices = subst (λ n. n ≤ MOST_VERTICES) (sym (ap length (points_in-bare graph))) has.few_vertices;
    few_pieces = subst (λ n. n ≤ MOST_PIECES_READ) (sym (ap length (pieces_in-bare graph))) has.few_pieces;
  }

  from_bare : HasNoFault (bare_graph graph) → HasNoFault graph
  from_bare has = record {
    some_node = subst (λ n. 0 < n) (length-map graph.nodes bare_node) has.some_node;
    ids = sym (position-map (λ (node : Node). is_absent node.id) bare_node graph.nodes) ∙ has.ids;
    fit_ids = sym (position-map (λ (node : Node). is_unfit node.id) bare_node graph.nodes) ∙ has.fit_ids;
    different_ids = sym (ap first_repeated (ids_of-bare graph.nodes)) ∙ has.different_ids;
    places = sym (without_place-bare graph.nodes) ∙ has.places;
    numbers = none_of_mapped (filter_map refused_in (numbers_in_graph graph)) (sym (ap (reduce earlier) (all_refused-bare graph)) ∙ has.numbers);
    ends = sym (position-map lacks_end bare_edge graph.edges) ∙ has.ends;
    known_ends = sym unknown-bare ∙ has.known_ends;
    points = sym (bad_point-bare 0 graph.edges) ∙ has.points;
    few_vertices = subst (λ n. n ≤ MOST_VERTICES) (ap length (points_in-bare graph)) has.few_vertices;
    few_pieces = subst (λ n. n ≤ MOST_PIECES_READ) (ap length (pieces_in-bare graph)) has.few_pieces;
  }

  -- both have no fault, or neither
  pub faultless_to_bare : graph_fault graph ≡ None → graph_fault (bare_graph graph) ≡ None
  faultless_to_bare none = is_faultless (bare_graph graph) (to_bare (has_no_fault graph none))

  pub faultless_from_bare : graph_fault (bare_graph graph) ≡ None → graph_fault graph ≡ None
  faultless_from_bare none = is_faultless graph (from_bare (has_no_fault (bare_graph graph) none))
