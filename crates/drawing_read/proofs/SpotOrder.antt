-- The spots of a graph are in document order.
use Rattle.std.proofs.Common.{ℕ, ◌+◌, ◌≤◌, arith, Bool, true, false, cond, List, [], ◌∷◌, ◌++◌, inl, inr, ◌⊎◌, refl, slice_index_or, Contains}
use Rattle.std.specs.Prelude.{codes}
use Rattle.std.specs.Option.{option_map_or}
use Rattle.std.proofs.lemmas.List.Elements.{Contains-append_cases}
use Rattle.gml_text.specs.declared.tree.Pair.{Pair}
use Rattle.drawing_read.specs.declared.reading.Spot.{Spot}
use Rattle.drawing_read.specs.declared.spans.EdgeSpan.{EdgeSpan}
use Rattle.drawing_read.specs.Lookups.{has_key, list_in, list_under}
use Rattle.drawing_read.specs.Spots.{coordinate_spots, inside, node_spots, point_spots, edge_spots, pair_spots, counted, graph_spots}
use Rattle.drawing_read.specs.Spans.{point_vertex, no_span}
use Rattle.drawing_read.specs.Coordinates.{AreInDocumentOrder}
use Rattle.drawing_read.proofs.PointSpots.{IsOfPoint, point_of_spot}
use Rattle.drawing_read.proofs.ListSpots.{IsOfEither, list_of_spot}
use Rattle.drawing_read.proofs.PathOrder.{IsBehind, IsFrom, from_behind, behind_before_from, in_order_together}
use Rattle.drawing_read.proofs.InsideOrder.{AreOrderly, one_key, coordinates_orderly, maybe_behind, maybe_in_order, inside_orderly, key_of_spot}

-- the spots of the point that a pair of a line might be
abbrev one_point_spots : List ℕ → ℕ → Pair → List Spot
one_point_spots path v pair = option_map_or (λ list. coordinate_spots path v list) (list_in pair.value) []

-- the spots of the points of a line stand from the first pair on
points_from : (path : List ℕ) (span : EdgeSpan) (at p : ℕ) (pairs : List Pair) (s : Spot) → Contains (point_spots path span at p pairs) s → IsFrom path at s
points_from path span at p pairs s there = by_point (point_of_spot path span at p pairs s there)
  where
    by_point : IsOfPoint path span at p pairs s → IsFrom path at s
    by_point of =
        let within : at ≤ of.place = omega (arith, of.place_is) in
        from_behind path at of.place s within ((coordinates_orderly (point_vertex span of.index)).behind (path ++ of.place ∷ []) of.point s of.there)

-- they are in order
points_in_order : (path : List ℕ) (span : EdgeSpan) (at p : ℕ) (pairs : List Pair) → AreInDocumentOrder (point_spots path span at p pairs)
points_in_order path span at p [] = tt
points_in_order path span at p (pair ∷ pairs) =
    by_test (has_key (codes "point") pair) (points_in_order path span (at + 1) (p + 1) pairs) (points_in_order path span (at + 1) p pairs)
  where
    by_test : (b : Bool) → AreInDocumentOrder (point_spots path span (at + 1) (p + 1) pairs) → AreInDocumentOrder (point_spots path span (at + 1) p pairs) →
        AreInDocumentOrder
        (cond b (one_point_spots (path ++ at ∷ []) (point_vertex span p) pair ++ point_spots path span (at + 1) (p + 1) pairs) (point_spots path span (at + 1) p pairs))
    by_test true one more =
        let spots : List ℕ → List Pair → List Spot = λ path list. coordinate_spots path (point_vertex span p) list in
        let orderly = coordinates_orderly (point_vertex span p) in
        in_order_together (one_point_spots (path ++ at ∷ []) (point_vertex span p) pair) (point_spots path span (at + 1) (p + 1) pairs)
        (maybe_in_order spots orderly (path ++ at ∷ []) (list_in pair.value)) one
        (λ s t first later. behind_before_from path at s t (maybe_behind spots orderly (path ++ at ∷ []) (list_in pair.value) s first)
        (points_from path span (at + 1) (p + 1) pairs t later))
    by_test false one more = more

-- a spot from some place on is behind the path to that place
from_is_behind : (path : List ℕ) (at : ℕ) (s : Spot) → IsFrom path at s → IsBehind path s
from_is_behind path at s from = (from.place ∷ from.rest, from.is)

-- the spots of the points of a line are in order behind the path to it
line_orderly : (span : EdgeSpan) → AreOrderly (λ line points. point_spots line span 0 0 points)
line_orderly span = record {
  behind = λ path list s there. from_is_behind path 0 s (points_from path span 0 0 list s there);
  in_order = λ path list. points_in_order path span 0 0 list;
}

-- so are those of a node
node_orderly : (n : ℕ) → AreOrderly (λ path list. node_spots path n list)
node_orderly n = inside_orderly (λ within list. coordinate_spots within n list) (coordinates_orderly n) (codes "graphics")

-- so are those of an edge
edge_orderly : (span : EdgeSpan) → AreOrderly (λ path list. edge_spots path span list)
edge_orderly span =
    inside_orderly (λ within list. inside (codes "Line") within list (λ line points. point_spots line span 0 0 points))
    (inside_orderly (λ line points. point_spots line span 0 0 points) (line_orderly span) (codes "Line")) (codes "graphics")

-- the spots of the node, and of the edge, that a pair might be
abbrev one_node_spots : List ℕ → ℕ → Pair → List Spot
one_node_spots path n pair = option_map_or (λ list. node_spots path n list) (list_under (codes "node") pair) []

abbrev one_edge_spots : List ℕ → EdgeSpan → Pair → List Spot
one_edge_spots path span pair = option_map_or (λ list. edge_spots path span list) (list_under (codes "edge") pair) []

-- the spots of a pair are in order, since it is not both a node and an edge
pair_in_order : (path : List ℕ) (spans : List EdgeSpan) (n e : ℕ) (pair : Pair) → AreInDocumentOrder (pair_spots path spans n e pair)
pair_in_order path spans n e pair =
    let span = slice_index_or spans e no_span in
    in_order_together (one_node_spots path n pair) (one_edge_spots path span pair)
    (maybe_in_order (λ path list. node_spots path n list) (node_orderly n) path (list_under (codes "node") pair))
    (maybe_in_order (λ path list. edge_spots path span list) (edge_orderly span) path (list_under (codes "edge") pair))
    (λ s t node edge. absurd (one_key (codes "node") (codes "edge") pair refl (key_of_spot (node_spots path n) (codes "node") pair s node)
    (key_of_spot (edge_spots path span) (codes "edge") pair t edge)))

-- they are behind the path to the pair
pair_behind : (path : List ℕ) (spans : List EdgeSpan) (n e : ℕ) (pair : Pair) (s : Spot) → Contains (pair_spots path spans n e pair) s → IsBehind path s
pair_behind path spans n e pair s there =
    by_kind (Contains-append_cases (one_node_spots path n pair) (one_edge_spots path (slice_index_or spans e no_span) pair) s there)
  where
    by_kind : Contains (one_node_spots path n pair) s ⊎ Contains (one_edge_spots path (slice_index_or spans e no_span) pair) s → IsBehind path s
    by_kind (inl there) = maybe_behind (λ path list. node_spots path n list) (node_orderly n) path (list_under (codes "node") pair) s there
    by_kind (inr there) =
        maybe_behind (λ path list. edge_spots path (slice_index_or spans e no_span) list) (edge_orderly (slice_index_or spans e no_span)) path
        (list_under (codes "edge") pair) s there

-- the spots of the pairs of a graph stand from the first pair on
graph_from : (path : List ℕ) (spans : List EdgeSpan) (at n e : ℕ) (pairs : List Pair) (s : Spot) → Contains (graph_spots path spans at n e pairs) s → IsFrom path at s
graph_from path spans at n e pairs s there = by_kind (list_of_spot path spans at n e pairs s there)
  where
    by_kind : IsOfEither path spans at n e pairs s → IsFrom path at s
    by_kind (inl of) =
        let within : at ≤ of.place = omega (arith, of.place_is) in
        from_behind path at of.place s within ((node_orderly of.index).behind (path ++ of.place ∷ []) of.list s of.there)
    by_kind (inr of) =
        let within : at ≤ of.place = omega (arith, of.place_is) in
        from_behind path at of.place s within ((edge_orderly (slice_index_or spans of.index no_span)).behind (path ++ of.place ∷ []) of.list s of.there)

-- the spots of a graph are in document order
pub graph_in_order : (path : List ℕ) (spans : List EdgeSpan) (at n e : ℕ) (pairs : List Pair) → AreInDocumentOrder (graph_spots path spans at n e pairs)
graph_in_order path spans at n e [] = tt
graph_in_order path spans at n e (pair ∷ pairs) =
    let m = counted n (list_under (codes "node") pair) in
    let f = counted e (list_under (codes "edge") pair) in
    in_order_together (pair_spots (path ++ at ∷ []) spans n e pair) (graph_spots path spans (at + 1) m f pairs) (pair_in_order (path ++ at ∷ []) spans n e pair)
    (graph_in_order path spans (at + 1) m f pairs)
    (λ s t first later. behind_before_from path at s t (pair_behind (path ++ at ∷ []) spans n e pair s first) (graph_from path spans (at + 1) m f pairs t later))
