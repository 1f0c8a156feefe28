-- The places of nodes, and edges with their ends as node numbers and their points as places.
use Rattle.std.specs.Prelude.{ℕ, pos, ℤ, List, map, Option, None, Some, Result, Ok, Err, unwrap_or}
use Rattle.gml_text.specs.declared.number.NumberFault.{NumberFault}
use Rattle.compact_types.specs.declared.places.Point.{Point}
use Rattle.compact_types.specs.Lookups.{origin}
use Rattle.drawing_read.specs.declared.numerals.Numbers.{Numbers}
use Rattle.drawing_read.specs.declared.written.Node.{Node}
use Rattle.drawing_read.specs.declared.written.Edge.{Edge}
use Rattle.drawing_read.specs.declared.written.Graph.{Graph}
use Rattle.drawing_read.specs.Ids.{node_with}

-- an edge with its ends as node numbers and its points as places
pub record Route : Type 0 where
  pub source : ℕ
  pub target : ℕ
  pub points : List Point

-- a number in thousandths that is not refused
abbrev pub value_of : Result ℤ NumberFault → ℤ
value_of (Ok value) = value
value_of (Err fault) = pos 0

-- the point that two numbers are
abbrev pub point_of : Option Numbers → Point
point_of None = origin
point_of (Some numbers) = record { x = value_of numbers.x.value; y = value_of numbers.y.value }

-- the places of the nodes
abbrev pub node_points : List Node → List Point
node_points nodes = map (λ node. point_of node.place) nodes

-- an edge as a route, where `look` tells which node has an id
abbrev pub route_of : (ℤ → Option ℕ) → Edge → Route
route_of look edge = record {
  source = unwrap_or (node_with look edge.source) 0;
  target = unwrap_or (node_with look edge.target) 0;
  points = map point_of edge.points;
}

-- the edges of a graph as routes
abbrev pub routes_by : (ℤ → Option ℕ) → Graph → List Route
routes_by look graph = map (route_of look) graph.edges
