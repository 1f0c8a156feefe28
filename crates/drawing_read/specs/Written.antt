-- What is written in a graph: its nodes with their ids and places, its edges with their ends and
-- points.
use Rattle.std.specs.Prelude.{List, [], Option, None, Some, if◌then◌else◌}
use Rattle.std.specs.Prelude.{option_and_then, unwrap_or, codes}
use Rattle.std.specs.List.{filter_map}
use Rattle.std.specs.Option.{option_map}
use Rattle.gml_text.specs.declared.tree.Pair.{Pair}
use Rattle.drawing_read.specs.declared.numerals.Numbers.{Numbers}
use Rattle.drawing_read.specs.declared.written.Node.{Node}
use Rattle.drawing_read.specs.declared.written.Edge.{Edge}
use Rattle.drawing_read.specs.declared.written.Graph.{Graph}
use Rattle.drawing_read.specs.Lookups.{has_key, list_in, list_under, first_list}
use Rattle.drawing_read.specs.Numerals.{numbers_in, whole_under}

-- a node: its id, and its place in its graphics
abbrev pub written_node : List Pair → Node
written_node pairs = record {
  id = whole_under (codes "id") pairs;
  place = option_and_then numbers_in (first_list (codes "graphics") pairs);
}

-- the node that a pair is
abbrev pub node_in : Pair → Option Node
node_in pair = option_map written_node (list_under (codes "node") pair)

-- a point that a pair of a line is: its x and y, where its value is a list with both
abbrev pub point_in : Pair → Option (Option Numbers)
point_in pair =
    if has_key (codes "point") pair
    then Some (option_and_then numbers_in (list_in pair.value))
    else None

-- the line in the graphics of an edge
abbrev pub line_in : List Pair → Option (List Pair)
line_in pairs = option_and_then (first_list (codes "Line")) (first_list (codes "graphics") pairs)

-- the pairs of an edge's line, none where there is no line
abbrev pub line_pairs : List Pair → List Pair
line_pairs pairs = unwrap_or (line_in pairs) []

-- an edge: its ends, and the points of its line in order
abbrev pub edge_of : List Pair → Edge
edge_of pairs = record {
  source = whole_under (codes "source") pairs;
  target = whole_under (codes "target") pairs;
  points = filter_map point_in (line_pairs pairs);
}

-- the edge that a pair is
abbrev pub edge_in : Pair → Option Edge
edge_in pair = option_map edge_of (list_under (codes "edge") pair)

-- the nodes and the edges of a graph, both in order
abbrev pub graph_of : List Pair → Graph
graph_of pairs = record { nodes = filter_map node_in pairs; edges = filter_map edge_in pairs }
