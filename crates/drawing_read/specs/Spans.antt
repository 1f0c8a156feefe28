-- The vertices and the pieces of a drawing: the bends of its edges, and the edges by their
-- vertices.
use Rattle.std.specs.Prelude.{ℕ, ◌+◌, ◌-◌, ℤ, Bool, false, ◌&&◌, List, [], ◌∷◌, ◌++◌, length}
use Rattle.std.specs.Prelude.{take, drop, slice_get, Option, if◌then◌else◌, nat_lt}
use Rattle.std.specs.Ordering.{int_eq}
use Rattle.std.specs.List.{flat_map, range_with_len}
use Rattle.std.specs.Option.{option_map_or}
use Rattle.compact_types.specs.declared.places.Point.{Point}
use Rattle.compact_types.specs.declared.plan.Piece.{Piece}
use Rattle.compact_types.specs.Lookups.{place}
use Rattle.drawing_read.specs.declared.written.Graph.{Graph}
use Rattle.drawing_read.specs.declared.spans.EdgeSpan.{EdgeSpan}
use Rattle.drawing_read.specs.Ids.{ids_of, number_of_id}
use Rattle.drawing_read.specs.Routes.{Route, node_points, routes_by}

-- the points are one
abbrev pub same_point : Point → Point → Bool
same_point p q = int_eq p.x q.x && int_eq p.y q.y

-- the first of the points is this one
abbrev pub begins_at : Point → List Point → Bool
begins_at here points = option_map_or (λ point. same_point point here) (slice_get points 0) false

-- the last of the points is this one
abbrev pub ends_at : Point → List Point → Bool
ends_at here points =
    option_map_or (λ point. same_point point here) (slice_get points (length points - 1)) false

-- the points without a first one at this place
abbrev pub after_first_at : Point → List Point → List Point
after_first_at here points = if begins_at here points then drop 1 points else points

-- the points without a last one at this place
abbrev pub before_last_at : Point → List Point → List Point
before_last_at here points = if ends_at here points then take (length points - 1) points else points

-- the bends of an edge: a first point at the source's place stands for the source, and where points
-- are left, a last one at the target's place for the target; each other point is a bend
abbrev pub bends_of : List Point → Route → List Point
bends_of nodes route =
    before_last_at (place nodes route.target)
    (after_first_at (place nodes route.source) route.points)

-- how many points stand for the source
abbrev pub points_at_source : List Point → Route → ℕ
points_at_source nodes route = if begins_at (place nodes route.source) route.points then 1 else 0

-- the places of the vertices: the nodes in order, and then the bends, by edge and by place in the
-- edge
abbrev pub vertex_points : List Point → List Route → List Point
vertex_points nodes routes = nodes ++ flat_map (bends_of nodes) routes

-- an edge by the numbers of its vertices, where its bends begin with this number
abbrev pub edge_span : List Point → ℕ → Route → EdgeSpan
edge_span nodes first route = record {
  source = route.source;
  target = route.target;
  at_source = points_at_source nodes route;
  first = first;
  bends = length (bends_of nodes route);
}

-- the same of some edges, where the bends of the first begin with this number
abbrev pub spans_from : List Point → ℕ → List Route → List EdgeSpan
spans_from nodes first [] = []
spans_from nodes first (route ∷ routes) =
    edge_span nodes first route
    ∷ spans_from nodes (first + length (bends_of nodes route)) routes

-- the edges in order, the bends of each numbered behind those of the edges before it
abbrev pub spans_of : List Point → List Route → List EdgeSpan
spans_of nodes routes = spans_from nodes (length nodes) routes

-- the span that stands for one that is not there
abbrev pub no_span : EdgeSpan
no_span = record { source = 0; target = 0; at_source = 0; first = 0; bends = 0 }

-- the vertex of point p of an edge: its source, one of its bends or its target
abbrev pub point_vertex : EdgeSpan → ℕ → ℕ
point_vertex span p =
    if nat_lt p span.at_source then span.source
    else if nat_lt (p - span.at_source) span.bends then span.first + (p - span.at_source)
    else span.target

-- the pieces from one vertex along some others to a last one
abbrev pub chain : ℕ → List ℕ → ℕ → List Piece
chain from [] to = record { from = from; to = to } ∷ []
chain from (bend ∷ bends) to = record { from = from; to = bend } ∷ chain bend bends to

-- the pieces of an edge, from its source along its bends to its target
abbrev pub span_pieces : EdgeSpan → List Piece
span_pieces span = chain span.source (range_with_len span.first span.bends) span.target

-- the pieces of all edges, in order
abbrev pub pieces_of : List EdgeSpan → List Piece
pieces_of spans = flat_map span_pieces spans

-- the places of the vertices of a graph, where `look` tells which node has an id
abbrev pub points_by : (ℤ → Option ℕ) → Graph → List Point
points_by look graph = vertex_points (node_points graph.nodes) (routes_by look graph)

-- its edges by the numbers of their vertices
abbrev pub spans_by : (ℤ → Option ℕ) → Graph → List EdgeSpan
spans_by look graph = spans_of (node_points graph.nodes) (routes_by look graph)

-- the places of the vertices of a graph
abbrev pub points_in : Graph → List Point
points_in graph = points_by (number_of_id (ids_of graph.nodes)) graph

-- the edges of a graph by the numbers of their vertices
abbrev pub spans_in : Graph → List EdgeSpan
spans_in graph = spans_by (number_of_id (ids_of graph.nodes)) graph

-- the pieces of a graph
abbrev pub pieces_in : Graph → List Piece
pieces_in graph = pieces_of (spans_in graph)
