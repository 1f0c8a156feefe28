-- Where the coordinates of nodes and points stand in a tree, in document order.
use Rattle.std.specs.Prelude.{ℕ, ◌+◌, List, [], ◌∷◌, ◌++◌, slice_index_or}
use Rattle.std.specs.Prelude.{Option, None, Some, if◌then◌else◌, nat_lt, codes}
use Rattle.std.specs.Option.{option_map_or}
use Rattle.gml_text.specs.declared.tree.Pair.{Pair}
use Rattle.compact_types.specs.declared.places.Axis.{Axis}
use Rattle.compact_types.specs.declared.places.Axis.TheVariants.{X, Y}
use Rattle.drawing_read.specs.declared.reading.Spot.{Spot}
use Rattle.drawing_read.specs.declared.spans.EdgeSpan.{EdgeSpan}
use Rattle.drawing_read.specs.Lookups.{has_key, list_in, list_under, first_list, place_under}
use Rattle.drawing_read.specs.Spans.{point_vertex, no_span}

-- the spot at a place of the list that a path leads to
abbrev pub spot : List ℕ → ℕ → Axis → ℕ → Spot
spot path vertex axis at = record { path = path ++ at ∷ []; vertex = vertex; axis = axis }

-- two spots in the order of their places
abbrev pub in_order : List ℕ → ℕ → Option ℕ → Option ℕ → List Spot
in_order path vertex None y = []
in_order path vertex (Some x) None = []
in_order path vertex (Some x) (Some y) =
    if nat_lt x y then spot path vertex X x ∷ spot path vertex Y y ∷ []
    else spot path vertex Y y ∷ spot path vertex X x ∷ []

-- the spots of the x and the y of a list
abbrev pub coordinate_spots : List ℕ → ℕ → List Pair → List Spot
coordinate_spots path vertex pairs =
    in_order path vertex (place_under (codes "x") pairs) (place_under (codes "y") pairs)

-- what is said of the place and the list under a key, where there is one
abbrev pub inside : List ℕ → List ℕ → List Pair → (List ℕ → List Pair → List Spot) → List Spot
inside key path pairs spots =
    option_map_or
    (λ at. option_map_or (λ list. spots (path ++ at ∷ []) list) (first_list key pairs) [])
    (place_under key pairs) []

-- the spots of a node
abbrev pub node_spots : List ℕ → ℕ → List Pair → List Spot
node_spots path vertex pairs =
    inside (codes "graphics") path pairs (λ within list. coordinate_spots within vertex list)

-- the spots of the points of a line: `at` counts its pairs, and p its points
abbrev pub point_spots : List ℕ → EdgeSpan → ℕ → ℕ → List Pair → List Spot
point_spots path span at p [] = []
point_spots path span at p (pair ∷ pairs) =
    if has_key (codes "point") pair
    then option_map_or
    (λ list. coordinate_spots (path ++ at ∷ []) (point_vertex span p) list)
    (list_in pair.value) []
    ++ point_spots path span (at + 1) (p + 1) pairs
    else point_spots path span (at + 1) p pairs

-- the spots of the line in an edge's graphics
abbrev pub line_spots : List ℕ → EdgeSpan → List Pair → List Spot
line_spots path span pairs =
    inside (codes "Line") path pairs (λ line points. point_spots line span 0 0 points)

-- the spots of an edge
abbrev pub edge_spots : List ℕ → EdgeSpan → List Pair → List Spot
edge_spots path span pairs =
    inside (codes "graphics") path pairs (λ within list. line_spots within span list)

-- the spots of a pair of the graph, if it is node n or edge e
abbrev pub pair_spots : List ℕ → List EdgeSpan → ℕ → ℕ → Pair → List Spot
pair_spots path spans n e pair =
    option_map_or (λ list. node_spots path n list) (list_under (codes "node") pair) []
    ++ option_map_or
    (λ list. edge_spots path (slice_index_or spans e no_span) list)
    (list_under (codes "edge") pair) []

-- one more, where there is a list
abbrev pub counted : ℕ → Option (List Pair) → ℕ
counted n None = n
counted n (Some list) = n + 1

-- the spots of the pairs of a graph: `at` counts the pairs, n the nodes and e the edges before them
abbrev pub graph_spots : List ℕ → List EdgeSpan → ℕ → ℕ → ℕ → List Pair → List Spot
graph_spots path spans at n e [] = []
graph_spots path spans at n e (pair ∷ pairs) =
    pair_spots (path ++ at ∷ []) spans n e pair
    ++ graph_spots path spans (at + 1)
    (counted n (list_under (codes "node") pair)) (counted e (list_under (codes "edge") pair)) pairs
