-- The spots of a graph are its coordinates, by the cases of their paths.
use Rattle.std.proofs.Common.{◌≡◌, ℕ, ◌+◌, arith, List, [], ◌∷◌, ◌++◌, inl, inr, sym, ap, ◌∙◌, subst, append_assoc, slice_index_or, Contains}
use Rattle.std.specs.Prelude.{codes}
use Rattle.compact_types.specs.declared.places.Axis.{Axis}
use Rattle.gml_text.specs.declared.tree.Pair.{Pair}
use Rattle.drawing_read.specs.declared.reading.Spot.{Spot}
use Rattle.drawing_read.specs.declared.spans.EdgeSpan.{EdgeSpan}
use Rattle.drawing_read.specs.Spots.{coordinate_spots, inside, point_spots, graph_spots}
use Rattle.drawing_read.specs.Spans.{point_vertex, no_span}
use Rattle.drawing_read.specs.Coordinates.{IsListNumber, IsPointNumber, IsCoordinate, of_axis}
use Rattle.drawing_read.specs.Coordinates.IsCoordinate.{of_node, of_point}
use Rattle.drawing_read.proofs.CoordinateSpots.{IsOneOfBoth, IsInside, one_of_both, of_both, list_of_inside, inside_of_list}
use Rattle.drawing_read.proofs.PointSpots.{IsOfPoint, point_of_spot, spot_of_point}
use Rattle.drawing_read.proofs.ListSpots.{IsOfNode, IsOfEdge, IsOfEither, list_of_spot, spot_of_list}

-- a path that goes on with one more place
abbrev further : List ℕ → ℕ → List ℕ
further path place = path ++ place ∷ []

-- a path that goes on with two places
two_further : (path : List ℕ) (i j : ℕ) (rest : List ℕ) → further (further path i) j ++ rest ≡ path ++ i ∷ j ∷ rest
two_further path i j rest = append_assoc (further path i) (j ∷ []) rest ∙ append_assoc path (i ∷ []) (j ∷ rest)

-- a path that goes on with four
four_further : (path : List ℕ) (i j l q : ℕ) (rest : List ℕ) → further (further (further (further path i) j) l) q ++ rest ≡ path ++ i ∷ j ∷ l ∷ q ∷ rest
four_further path i j l q rest = two_further (further (further path i) j) l q rest ∙ two_further path i j (l ∷ q ∷ rest)

-- spots of one vertex and axis are told by their paths
same_spot : (v : ℕ) (axis : Axis) (path other : List ℕ) → path ≡ other →
    (let first : Spot = record { path = path; vertex = v; axis = axis } in first) ≡ (let second : Spot = record { path = other; vertex = v; axis = axis } in second)
same_spot v axis path other is = ap (λ (path : List ℕ). let s : Spot = record { path = path; vertex = v; axis = axis } in s) is

-- the number of a list and its place, where the counts begin with 0
numbered_from_start : (key : List ℕ) (pairs list : List Pair) (from number place index : ℕ) → place ≡ 0 + from → index ≡ 0 + number →
    IsListNumber key pairs from number list → IsListNumber key pairs place index list
numbered_from_start key pairs list from number place index place_is index_is is =
    let place_same : from ≡ place = omega arith in
    let index_same : number ≡ index = omega arith in
    subst (λ (i : ℕ). IsListNumber key pairs i index list) place_same (subst (λ (n : ℕ). IsListNumber key pairs from n list) index_same is)

-- the same of a point
point_from_start : (pairs point : List Pair) (from number place index : ℕ) → place ≡ 0 + from → index ≡ 0 + number →
    IsPointNumber pairs from number point → IsPointNumber pairs place index point
point_from_start pairs point from number place index place_is index_is is =
    let place_same : from ≡ place = omega arith in
    let index_same : number ≡ index = omega arith in
    subst (λ (i : ℕ). IsPointNumber pairs i index point) place_same (subst (λ (n : ℕ). IsPointNumber pairs from n point) index_same is)

-- the spots of the line of an edge
abbrev line_spots : EdgeSpan → List ℕ → List Pair → List Spot
line_spots span line points = point_spots line span 0 0 points

-- the spots of an edge's graphics
abbrev graphics_spots : EdgeSpan → List ℕ → List Pair → List Spot
graphics_spots span within list = inside (codes "Line") within list (line_spots span)

module _ (path : List ℕ) (spans : List EdgeSpan) (graph : List Pair) (s : Spot) where
  -- the spot of a node
  node_case : (of : IsOfNode path 0 0 graph s) (within : IsInside (codes "graphics") (further path of.place) of.list (λ within list. coordinate_spots within of.index list) s) →
      IsOneOfBoth (further (further path of.place) within.place) of.index within.list s → IsCoordinate path spans graph s
  node_case of within one =
      subst (IsCoordinate path spans graph)
      (same_spot of.index one.axis _ _ (sym (two_further path of.place within.place (of_axis one.axis one.x one.y ∷ []))) ∙ one.is)
      (of_node of.place of.index within.place one.x one.y of.list within.list one.axis
      (numbered_from_start (codes "node") graph of.list of.from of.number of.place of.index of.place_is of.index_is of.is) within.at one.both)

  -- each spot of a node is a coordinate of it
  node_coordinate : IsOfNode path 0 0 graph s → IsCoordinate path spans graph s
  node_coordinate of =
      by_list (list_of_inside (λ within list. coordinate_spots within of.index list) (codes "graphics") (further path of.place) of.list s of.there)
    where
      by_list : IsInside (codes "graphics") (further path of.place) of.list (λ within list. coordinate_spots within of.index list) s → IsCoordinate path spans graph s
      by_list within = node_case of within (one_of_both (further (further path of.place) within.place) of.index within.list s within.there)

  module _ (of : IsOfEdge spans path 0 0 graph s) where
    -- the span of the edge, and the path to it
    abbrev span_of : EdgeSpan
    span_of = slice_index_or spans of.index no_span

    abbrev edge_path : List ℕ
    edge_path = further path of.place

    -- the spot is one of the edge's graphics
    abbrev IsOfGraphics : Type 0
    IsOfGraphics = IsInside (codes "graphics") edge_path of.list (graphics_spots span_of) s

    abbrev graphics_path : IsOfGraphics → List ℕ
    graphics_path graphics = further edge_path graphics.place

    -- and of the line in them
    abbrev IsOfLine : IsOfGraphics → Type 0
    IsOfLine graphics = IsInside (codes "Line") (graphics_path graphics) graphics.list (line_spots span_of) s

    abbrev line_path : (graphics : IsOfGraphics) → IsOfLine graphics → List ℕ
    line_path graphics line = further (graphics_path graphics) line.place

    -- and of a point of that line
    abbrev IsOfLinePoint : (graphics : IsOfGraphics) → IsOfLine graphics → Type 0
    IsOfLinePoint graphics line = IsOfPoint (line_path graphics line) span_of 0 0 line.list s

    -- the spot of a point of an edge
    point_case : (graphics : IsOfGraphics) (line : IsOfLine graphics) (point : IsOfLinePoint graphics line) →
        IsOneOfBoth (further (line_path graphics line) point.place) (point_vertex span_of point.index) point.point s →
        IsCoordinate path spans graph s
    point_case graphics line point one =
        subst (IsCoordinate path spans graph)
        (same_spot (point_vertex span_of point.index) one.axis _ _
        (sym (four_further path of.place graphics.place line.place point.place (of_axis one.axis one.x one.y ∷ []))) ∙ one.is)
        (of_point of.place of.index graphics.place line.place point.place point.index one.x one.y of.list graphics.list line.list point.point one.axis
        (numbered_from_start (codes "edge") graph of.list of.from of.number of.place of.index of.place_is of.index_is of.is) graphics.at line.at
        (point_from_start line.list point.point point.from point.number point.place point.index point.place_is point.index_is point.is) one.both)

    -- what is left, from the point, the line and the graphics on
    by_point : (graphics : IsOfGraphics) (line : IsOfLine graphics) → IsOfLinePoint graphics line → IsCoordinate path spans graph s
    by_point graphics line point =
        point_case graphics line point
        (one_of_both (further (line_path graphics line) point.place) (point_vertex span_of point.index) point.point s point.there)

    by_line : (graphics : IsOfGraphics) → IsOfLine graphics → IsCoordinate path spans graph s
    by_line graphics line =
        by_point graphics line (point_of_spot (line_path graphics line) span_of 0 0 line.list s line.there)

    by_graphics : IsOfGraphics → IsCoordinate path spans graph s
    by_graphics graphics =
        by_line graphics (list_of_inside (line_spots span_of) (codes "Line") (graphics_path graphics) graphics.list s graphics.there)

    -- each spot of an edge is a coordinate of one of its points
    edge_coordinate : IsCoordinate path spans graph s
    edge_coordinate = by_graphics (list_of_inside (graphics_spots span_of) (codes "graphics") edge_path of.list s of.there)

-- each spot of a graph is a coordinate of it
pub spot_is_coordinate : (path : List ℕ) (spans : List EdgeSpan) (graph : List Pair) (s : Spot) → Contains (graph_spots path spans 0 0 0 graph) s → IsCoordinate path spans graph s
spot_is_coordinate path spans graph s there = by_kind (list_of_spot path spans 0 0 0 graph s there)
  where
    by_kind : IsOfEither path spans 0 0 0 graph s → IsCoordinate path spans graph s
    by_kind (inl of) = node_coordinate path spans graph s of
    by_kind (inr of) = edge_coordinate path spans graph s of

-- each coordinate of a graph is one of its spots
pub coordinate_is_spot : (path : List ℕ) (spans : List EdgeSpan) (graph : List Pair) {s : Spot} → IsCoordinate path spans graph s → Contains (graph_spots path spans 0 0 0 graph) s
coordinate_is_spot path spans graph (of_node i n j x y node graphics axis number at both) =
    let s : Spot = record { path = path ++ i ∷ j ∷ of_axis axis x y ∷ []; vertex = n; axis = axis } in
    spot_of_list path spans 0 0 0 graph s
    (inl
    (record {
      from = i;
      number = n;
      place = i;
      index = n;
      list = node;
      place_is = omega arith;
      index_is = omega arith;
      is = number;
      there = inside_of_list (λ within list. coordinate_spots within n list) (codes "graphics") (further path i) node s
          (record {
            place = j;
            list = graphics;
            at = at;
            there = of_both (further (further path i) j) n graphics s
                (record { x = x; y = y; axis = axis; both = both; is = same_spot n axis _ _ (two_further path i j (of_axis axis x y ∷ [])) });
          });
    }))
coordinate_is_spot path spans graph (of_point i e j l q p x y edge graphics line point axis number at line_at point_at both) =
    let span = slice_index_or spans e no_span in
    let s : Spot = record { path = path ++ i ∷ j ∷ l ∷ q ∷ of_axis axis x y ∷ []; vertex = point_vertex span p; axis = axis } in
    spot_of_list path spans 0 0 0 graph s
    (inr
    (record {
      from = i;
      number = e;
      place = i;
      index = e;
      list = edge;
      place_is = omega arith;
      index_is = omega arith;
      is = number;
      there = inside_of_list (graphics_spots span) (codes "graphics") (further path i) edge s
          (record {
            place = j;
            list = graphics;
            at = at;
            there = inside_of_list (line_spots span) (codes "Line") (further (further path i) j) graphics s
                (record {
                  place = l;
                  list = line;
                  at = line_at;
                  there = spot_of_point (further (further (further path i) j) l) span 0 0 line s
                      (record {
                        from = q;
                        number = p;
                        place = q;
                        index = p;
                        point = point;
                        place_is = omega arith;
                        index_is = omega arith;
                        is = point_at;
                        there = of_both (further (further (further (further path i) j) l) q) (point_vertex span p) point s
                            (record {
                              x = x;
                              y = y;
                              axis = axis;
                              both = both;
                              is = same_spot (point_vertex span p) axis _ _ (four_further path i j l q (of_axis axis x y ∷ []));
                            });
                      });
                });
          });
    }))
