-- Trees that are alike have the same reading.
use Rattle.std.proofs.Common.{◌≡◌, ℕ, ◌+◌, Bool, true, false, cond, List, [], ◌∷◌, ◌++◌, length, map, Option, None, Some, refl, sym, ap, ◌∙◌, subst, slice_index_or}
use Rattle.std.specs.Prelude.{codes, is_some, unwrap_or}
use Rattle.std.specs.List.{position}
use Rattle.std.specs.Option.{option_map, option_map_or}
use Rattle.gml_text.specs.Alike.{IsAlike}
use Rattle.gml_text.specs.declared.tree.Tree.{Tree, out-Tree}
use Rattle.gml_text.specs.declared.tree.Pair.{Pair}
use Rattle.gml_text.proofs.Laws.{bare_value, bare_pair, pairs-IsAlike}
use Rattle.drawing_read.specs.declared.reading.Reading.{Reading}
use Rattle.drawing_read.specs.declared.reading.Spot.{Spot}
use Rattle.drawing_read.specs.declared.spans.EdgeSpan.{EdgeSpan}
use Rattle.drawing_read.specs.Lookups.{has_key, list_in, list_under, lists_under, first_list, place_under}
use Rattle.drawing_read.specs.Written.{graph_of}
use Rattle.drawing_read.specs.Spans.{point_vertex, no_span, points_in, spans_in, pieces_in}
use Rattle.drawing_read.specs.Faults.{graph_fault}
use Rattle.drawing_read.specs.Spots.{in_order, coordinate_spots, inside, node_spots, point_spots, line_spots, edge_spots, pair_spots, counted, graph_spots}
use Rattle.drawing_read.specs.Readings.{IsGraphReading, IfOne, IsReading}
use Rattle.drawing_read.proofs.AlikeLists.{bare, position-map, list_in-bare, list_under-bare, lists_under-bare, first_list-bare, place_under-bare, graph_of-bare}
use Rattle.drawing_read.proofs.AlikeGraphs.{points_in-bare, spans_in-bare, pieces_in-bare, faultless_to_bare, faultless_from_bare}
use Rattle.drawing_read.proofs.GraphLemmas.{is_graph}

-- spots

coordinates-bare : (path : List ℕ) (v : ℕ) (pairs : List Pair) → coordinate_spots path v (bare pairs) ≡ coordinate_spots path v pairs
coordinates-bare path v pairs =
    ap (λ (x : Option ℕ). in_order path v x (place_under (codes "y") (bare pairs))) (place_under-bare (codes "x") pairs)
    ∙ ap (in_order path v (place_under (codes "x") pairs)) (place_under-bare (codes "y") pairs)

-- the spots of a list that may be there
maybe-bare : (spots : List Pair → List Spot) → ((pairs : List Pair) → spots (bare pairs) ≡ spots pairs) → (o : Option (List Pair)) →
    option_map_or (λ list. spots list) (option_map bare o) [] ≡ option_map_or (λ list. spots list) o []
maybe-bare spots same None = refl
maybe-bare spots same (Some pairs) = same pairs

module _ (spots : List ℕ → List Pair → List Spot) (same : (path : List ℕ) (pairs : List Pair) → spots path (bare pairs) ≡ spots path pairs) where
  inside_by : List ℕ → Option (List Pair) → Option ℕ → List Spot
  inside_by path list place = option_map_or (λ at. option_map_or (λ list. spots (path ++ at ∷ []) list) list []) place []

  inside-bare : (key path : List ℕ) (pairs : List Pair) → inside key path (bare pairs) spots ≡ inside key path pairs spots
  unfolding inside_by
  inside-bare key path pairs =
      ap (inside_by path (first_list key (bare pairs))) (place_under-bare key pairs)
      ∙ ap (λ (list : Option (List Pair)). inside_by path list (place_under key pairs)) (first_list-bare key pairs)
      ∙ by (place_under key pairs)
    where
      by : (place : Option ℕ) → inside_by path (option_map bare (first_list key pairs)) place ≡ inside_by path (first_list key pairs) place
      by None = refl
      by (Some at) = maybe-bare (spots (path ++ at ∷ [])) (same (path ++ at ∷ [])) (first_list key pairs)

node-bare : (path : List ℕ) (n : ℕ) (pairs : List Pair) → node_spots path n (bare pairs) ≡ node_spots path n pairs
node-bare path n pairs = inside-bare (λ within list. coordinate_spots within n list) (λ path pairs. coordinates-bare path n pairs) (codes "graphics") path pairs

points-bare : (path : List ℕ) (span : EdgeSpan) (at p : ℕ) (pairs : List Pair) → point_spots path span at p (bare pairs) ≡ point_spots path span at p pairs
points-bare path span at p [] = refl
points-bare path span at p (pair ∷ pairs) = by (has_key (codes "point") pair) (points-bare path span (at + 1) (p + 1) pairs) (points-bare path span (at + 1) p pairs)
  where
    first : Option (List Pair) → List Spot
    first o = option_map_or (λ list. coordinate_spots (path ++ at ∷ []) (point_vertex span p) list) o []

    by : (b : Bool) → point_spots path span (at + 1) (p + 1) (bare pairs) ≡ point_spots path span (at + 1) (p + 1) pairs →
        point_spots path span (at + 1) p (bare pairs) ≡ point_spots path span (at + 1) p pairs →
        cond b (first (list_in (bare_value pair.value)) ++ point_spots path span (at + 1) (p + 1) (bare pairs)) (point_spots path span (at + 1) p (bare pairs))
        ≡ cond b (first (list_in pair.value) ++ point_spots path span (at + 1) (p + 1) pairs) (point_spots path span (at + 1) p pairs)
    by true one more =
        ap (λ (o : Option (List Pair)). first o ++ point_spots path span (at + 1) (p + 1) (bare pairs)) (list_in-bare pair.value)
        ∙ ap (λ (spots : List Spot). spots ++ point_spots path span (at + 1) (p + 1) (bare pairs))
        (maybe-bare (coordinate_spots (path ++ at ∷ []) (point_vertex span p)) (coordinates-bare (path ++ at ∷ []) (point_vertex span p)) (list_in pair.value))
        ∙ ap (λ (spots : List Spot). first (list_in pair.value) ++ spots) one
    by false one more = more

line-bare : (path : List ℕ) (span : EdgeSpan) (pairs : List Pair) → line_spots path span (bare pairs) ≡ line_spots path span pairs
line-bare path span pairs = inside-bare (λ line points. point_spots line span 0 0 points) (λ path pairs. points-bare path span 0 0 pairs) (codes "Line") path pairs

edge-bare : (path : List ℕ) (span : EdgeSpan) (pairs : List Pair) → edge_spots path span (bare pairs) ≡ edge_spots path span pairs
edge-bare path span pairs = inside-bare (λ within list. line_spots within span list) (λ path pairs. line-bare path span pairs) (codes "graphics") path pairs

counted-bare : (n : ℕ) (o : Option (List Pair)) → counted n (option_map bare o) ≡ counted n o
counted-bare n None = refl
counted-bare n (Some list) = refl

pair-bare : (path : List ℕ) (spans : List EdgeSpan) (n e : ℕ) (pair : Pair) → pair_spots path spans n e (bare_pair pair) ≡ pair_spots path spans n e pair
pair-bare path spans n e pair =
    let span = slice_index_or spans e no_span in
    ap (λ (spots : List Spot). spots ++ option_map_or (λ list. edge_spots path span list) (list_under (codes "edge") (bare_pair pair)) [])
    (ap (λ (o : Option (List Pair)). option_map_or (λ list. node_spots path n list) o []) (list_under-bare (codes "node") pair)
    ∙ maybe-bare (node_spots path n) (node-bare path n) (list_under (codes "node") pair))
    ∙ ap (λ (spots : List Spot). option_map_or (λ list. node_spots path n list) (list_under (codes "node") pair) [] ++ spots)
    (ap (λ (o : Option (List Pair)). option_map_or (λ list. edge_spots path span list) o []) (list_under-bare (codes "edge") pair)
    ∙ maybe-bare (edge_spots path span) (edge-bare path span) (list_under (codes "edge") pair))

graph_spots-bare : (path : List ℕ) (spans : List EdgeSpan) (at n e : ℕ) (pairs : List Pair) → graph_spots path spans at n e (bare pairs) ≡ graph_spots path spans at n e pairs
graph_spots-bare path spans at n e [] = refl
graph_spots-bare path spans at n e (pair ∷ pairs) =
    let m = counted n (list_under (codes "node") pair) in
    let f = counted e (list_under (codes "edge") pair) in
    let nodes : counted n (list_under (codes "node") (bare_pair pair)) ≡ m = ap (counted n) (list_under-bare (codes "node") pair) ∙ counted-bare n (list_under (codes "node") pair) in
    let edges : counted e (list_under (codes "edge") (bare_pair pair)) ≡ f = ap (counted e) (list_under-bare (codes "edge") pair) ∙ counted-bare e (list_under (codes "edge") pair) in
    ap (λ (spots : List Spot). spots ++ graph_spots path spans (at + 1) (counted n (list_under (codes "node") (bare_pair pair))) (counted e (list_under (codes "edge") (bare_pair pair))) (bare pairs))
    (pair-bare (path ++ at ∷ []) spans n e pair)
    ∙ ap (λ (m : ℕ). pair_spots (path ++ at ∷ []) spans n e pair ++ graph_spots path spans (at + 1) m (counted e (list_under (codes "edge") (bare_pair pair))) (bare pairs)) nodes
    ∙ ap (λ (f : ℕ). pair_spots (path ++ at ∷ []) spans n e pair ++ graph_spots path spans (at + 1) m f (bare pairs)) edges
    ∙ ap (λ (spots : List Spot). pair_spots (path ++ at ∷ []) spans n e pair ++ spots) (graph_spots-bare path spans (at + 1) m f pairs)

-- readings

module _ (at : ℕ) (pairs : List Pair) (reading : Reading) where
  same_points : points_in (graph_of (bare pairs)) ≡ points_in (graph_of pairs)
  same_points = ap points_in (graph_of-bare pairs) ∙ points_in-bare (graph_of pairs)

  same_pieces : pieces_in (graph_of (bare pairs)) ≡ pieces_in (graph_of pairs)
  same_pieces = ap pieces_in (graph_of-bare pairs) ∙ pieces_in-bare (graph_of pairs)

  same_spots : graph_spots (at ∷ []) (spans_in (graph_of (bare pairs))) 0 0 0 (bare pairs) ≡ graph_spots (at ∷ []) (spans_in (graph_of pairs)) 0 0 0 pairs
  same_spots =
      ap (λ (spans : List EdgeSpan). graph_spots (at ∷ []) spans 0 0 0 (bare pairs)) (ap spans_in (graph_of-bare pairs) ∙ spans_in-bare (graph_of pairs))
      ∙ graph_spots-bare (at ∷ []) (spans_in (graph_of pairs)) 0 0 0 pairs

  reading_to_bare : IsGraphReading at pairs reading → IsGraphReading at (bare pairs) reading
  reading_to_bare is = record {
    faultless = ap graph_fault (graph_of-bare pairs) ∙ faultless_to_bare (graph_of pairs) is.faultless;
    vertices = is.vertices ∙ sym (ap length same_points);
    pieces = is.pieces ∙ sym same_pieces;
    places = is.places ∙ sym same_points;
    spots = is.spots ∙ sym same_spots;
  }

  reading_from_bare : IsGraphReading at (bare pairs) reading → IsGraphReading at pairs reading
  reading_from_bare is = record {
    faultless = faultless_from_bare (graph_of pairs) (sym (ap graph_fault (graph_of-bare pairs)) ∙ is.faultless);
    vertices = is.vertices ∙ ap length same_points;
    pieces = is.pieces ∙ same_pieces;
    places = is.places ∙ same_points;
    spots = is.spots ∙ same_spots;
  }

-- the reading of a tree with these pairs at the top
abbrev IsReadingOf : List Pair → Reading → Type 0
IsReadingOf pairs reading =
    IfOne (lists_under (codes "graph") pairs) (λ list. IsGraphReading (unwrap_or (position is_graph pairs) 0) list reading)

is_some-bare : (o : Option (List Pair)) → is_some (option_map bare o) ≡ is_some o
is_some-bare None = refl
is_some-bare (Some list) = refl

same_place : (pairs : List Pair) → position is_graph (bare pairs) ≡ position is_graph pairs
same_place pairs =
    position-map is_graph bare_pair pairs
    ∙ ap (λ (p : Pair → Bool). position p pairs) (λ i pair. (ap is_some (list_under-bare (codes "graph") pair) ∙ is_some-bare (list_under (codes "graph") pair)) i)

module _ (reading : Reading) (pairs : List Pair) where
  abbrev IsOne : ℕ → List (List Pair) → Type 0
  IsOne at graphs = IfOne graphs (λ list. IsGraphReading at list reading)

  one_to_bare : (at : ℕ) (graphs : List (List Pair)) → IsOne at graphs → IsOne at (map bare graphs)
  one_to_bare at [] is = is
  one_to_bare at (graph ∷ []) is = reading_to_bare at graph reading is
  one_to_bare at (graph ∷ other ∷ more) is = is

  one_from_bare : (at : ℕ) (graphs : List (List Pair)) → IsOne at (map bare graphs) → IsOne at graphs
  one_from_bare at [] is = is
  one_from_bare at (graph ∷ []) is = reading_from_bare at graph reading is
  one_from_bare at (graph ∷ other ∷ more) is = is

  place_is : unwrap_or (position is_graph (bare pairs)) 0 ≡ unwrap_or (position is_graph pairs) 0
  place_is = ap (λ (o : Option ℕ). unwrap_or o 0) (same_place pairs)

  to_bare : IsReadingOf pairs reading → IsReadingOf (bare pairs) reading
  to_bare is =
      subst (λ (graphs : List (List Pair)). IsOne (unwrap_or (position is_graph (bare pairs)) 0) graphs) (sym (lists_under-bare (codes "graph") pairs))
      (subst (λ (at : ℕ). IsOne at (map bare (lists_under (codes "graph") pairs))) (sym place_is)
      (one_to_bare (unwrap_or (position is_graph pairs) 0) (lists_under (codes "graph") pairs) is))

  from_bare : IsReadingOf (bare pairs) reading → IsReadingOf pairs reading
  from_bare is =
      one_from_bare (unwrap_or (position is_graph pairs) 0) (lists_under (codes "graph") pairs)
      (subst (λ (at : ℕ). IsOne at (map bare (lists_under (codes "graph") pairs))) place_is
      (subst (λ (graphs : List (List Pair)). IsOne (unwrap_or (position is_graph (bare pairs)) 0) graphs) (lists_under-bare (codes "graph") pairs) is))

-- alike trees have the same reading
pub reading_alike : (a b : Tree) (reading : Reading) → IsAlike a b → IsReading a reading → IsReading b reading
reading_alike a b reading alike is =
    from_bare reading (out-Tree b).pairs
    (subst (λ (pairs : List Pair). IsReadingOf pairs reading) (pairs-IsAlike a b alike) (to_bare reading (out-Tree a).pairs is))
