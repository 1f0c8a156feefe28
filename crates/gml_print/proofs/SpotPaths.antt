-- The spots in a list are those of the list by itself, behind the path that leads to it.
use Rattle.std.proofs.Common.{◌≡◌, ℕ, ◌+◌, Bool, true, false, cond, List, [], ◌∷◌, ◌++◌, map, Option, None, Some, refl, sym, ap, ◌∙◌, nat_lt, slice_index_or, subst}
use Rattle.std.specs.Option.{option_map_or}
use Rattle.std.specs.Prelude.{codes}
use Rattle.std.proofs.lemmas.List.{map-append}
use Rattle.compact_types.specs.declared.places.Axis.TheVariants.{X, Y}
use Rattle.gml_text.specs.declared.tree.Pair.{Pair}
use Rattle.gml_text.specs.declared.tree.Value.{Value}
use Rattle.drawing_read.specs.declared.reading.Spot.{Spot}
use Rattle.drawing_read.specs.declared.spans.EdgeSpan.{EdgeSpan}
use Rattle.drawing_read.specs.Lookups.{has_key, list_in, list_under, first_list, place_under}
use Rattle.drawing_read.specs.Spots.{spot, in_order, coordinate_spots, inside, node_spots, point_spots, edge_spots, pair_spots, counted, graph_spots}
use Rattle.drawing_read.specs.Spans.{point_vertex, no_span}
use Rattle.gml_print.proofs.PutValues.{behind, behind_two, LeadIn, both_lead_in, behind_leads_in}

-- what a path leads to has its spots behind the path
abbrev pub IsRelative : (List ℕ → List Spot) → Type 0
IsRelative spots = (path : List ℕ) → spots path ≡ map (behind path) (spots [])

pub deeper : (spots : List ℕ → List Spot) → IsRelative spots → (path : List ℕ) (a : ℕ) → spots (path ++ a ∷ []) ≡ map (behind path) (spots (a ∷ []))
deeper spots relative path a =
    relative (path ++ a ∷ []) ∙ sym (behind_two path a (spots [])) ∙ ap (map (behind path)) (sym (relative (a ∷ [])))

two_behind : (path : List ℕ) (b : Bool) (s t : Spot) →
    cond b (behind path s ∷ behind path t ∷ []) (behind path t ∷ behind path s ∷ []) ≡ map (behind path) (cond b (s ∷ t ∷ []) (t ∷ s ∷ []))
two_behind path true s t = refl
two_behind path false s t = refl

in_order_relative : (v : ℕ) (x y : Option ℕ) → IsRelative (λ path. in_order path v x y)
in_order_relative v None y path = refl
in_order_relative v (Some x) None path = refl
in_order_relative v (Some x) (Some y) path = two_behind path (nat_lt x y) (spot [] v X x) (spot [] v Y y)

pub coordinates_relative : (v : ℕ) (pairs : List Pair) → IsRelative (λ path. coordinate_spots path v pairs)
coordinates_relative v pairs = in_order_relative v (place_under (codes "x") pairs) (place_under (codes "y") pairs)

two_lead : (b : Bool) (v i j : ℕ) → LeadIn (cond b (spot [] v X i ∷ spot [] v Y j ∷ []) (spot [] v Y j ∷ spot [] v X i ∷ []))
two_lead true v i j = (tt, (tt, tt))
two_lead false v i j = (tt, (tt, tt))

in_order_lead : (v : ℕ) (x y : Option ℕ) → LeadIn (in_order [] v x y)
in_order_lead v None y = tt
in_order_lead v (Some x) None = tt
in_order_lead v (Some x) (Some y) = two_lead (nat_lt x y) v x y

pub coordinates_lead : (v : ℕ) (pairs : List Pair) → LeadIn (coordinate_spots [] v pairs)
coordinates_lead v pairs = in_order_lead v (place_under (codes "x") pairs) (place_under (codes "y") pairs)

module _ (spots : List ℕ → List Pair → List Spot) (relative : (pairs : List Pair) → IsRelative (λ path. spots path pairs)) where
  inside_by : List ℕ → Option ℕ → Option (List Pair) → List Spot
  inside_by path place list = option_map_or (λ a. option_map_or (λ pairs. spots (path ++ a ∷ []) pairs) list []) place []

  inside_by_relative : (place : Option ℕ) (list : Option (List Pair)) → IsRelative (λ path. inside_by path place list)
  unfolding inside_by
  inside_by_relative None list path = refl
  inside_by_relative (Some a) None path = refl
  inside_by_relative (Some a) (Some pairs) path = deeper (λ path. spots path pairs) (relative pairs) path a

  inside_by_leads : (place : Option ℕ) (list : Option (List Pair)) → LeadIn (inside_by [] place list)
  unfolding inside_by
  inside_by_leads None list = tt
  inside_by_leads (Some a) None = tt
  inside_by_leads (Some a) (Some pairs) = let P : List Spot → Type 0 = LeadIn in subst P (sym (relative pairs (a ∷ []))) (behind_leads_in a (spots [] pairs))

  pub inside_relative : (key : List ℕ) (pairs : List Pair) → IsRelative (λ path. inside key path pairs spots)
  unfolding inside_by
  inside_relative key pairs = inside_by_relative (place_under key pairs) (first_list key pairs)

  pub inside_leads : (key : List ℕ) (pairs : List Pair) → LeadIn (inside key [] pairs spots)
  unfolding inside_by
  inside_leads key pairs = inside_by_leads (place_under key pairs) (first_list key pairs)

-- the spots of a point that stands for a vertex
abbrev pub value_spots : List ℕ → ℕ → Value → List Spot
value_spots path v value = option_map_or (λ list. coordinate_spots path v list) (list_in value) []

list_relative : (v : ℕ) (list : Option (List Pair)) → IsRelative (λ path. option_map_or (λ list. coordinate_spots path v list) list [])
list_relative v None path = refl
list_relative v (Some pairs) path = coordinates_relative v pairs path

pub value_relative : (v : ℕ) (value : Value) → IsRelative (λ path. value_spots path v value)
value_relative v value = list_relative v (list_in value)

list_lead : (v : ℕ) (list : Option (List Pair)) → LeadIn (option_map_or (λ list. coordinate_spots [] v list) list [])
list_lead v None = tt
list_lead v (Some pairs) = coordinates_lead v pairs

pub value_lead : (v : ℕ) (value : Value) → LeadIn (value_spots [] v value)
value_lead v value = list_lead v (list_in value)

append_behind : (path : List ℕ) (xs ys zs ws : List Spot) → xs ≡ map (behind path) zs → ys ≡ map (behind path) ws → xs ++ ys ≡ map (behind path) (zs ++ ws)
append_behind path xs ys zs ws first second = rw (first, second) (sym (map-append (behind path) zs ws))

pub points_relative : (span : EdgeSpan) (at p : ℕ) (pairs : List Pair) → IsRelative (λ path. point_spots path span at p pairs)
points_relative span at p [] path = refl
points_relative span at p (pair ∷ pairs) path =
    by_test (has_key (codes "point") pair) (points_relative span (at + 1) (p + 1) pairs path) (points_relative span (at + 1) p pairs path)
  where
    by_test : (b : Bool) → point_spots path span (at + 1) (p + 1) pairs ≡ map (behind path) (point_spots [] span (at + 1) (p + 1) pairs) →
        point_spots path span (at + 1) p pairs ≡ map (behind path) (point_spots [] span (at + 1) p pairs) →
        cond b (value_spots (path ++ at ∷ []) (point_vertex span p) pair.value ++ point_spots path span (at + 1) (p + 1) pairs) (point_spots path span (at + 1) p pairs) ≡
        map (behind path) (cond b (value_spots (at ∷ []) (point_vertex span p) pair.value ++ point_spots [] span (at + 1) (p + 1) pairs) (point_spots [] span (at + 1) p pairs))
    by_test true one more = append_behind path (value_spots (path ++ at ∷ []) (point_vertex span p) pair.value) (point_spots path span (at + 1) (p + 1) pairs)
        (value_spots (at ∷ []) (point_vertex span p) pair.value) (point_spots [] span (at + 1) (p + 1) pairs)
        (deeper (λ path. value_spots path (point_vertex span p) pair.value) (value_relative (point_vertex span p) pair.value) path at) one
    by_test false one more = more

points_lead_from : (span : EdgeSpan) (at p : ℕ) (pairs : List Pair) → LeadIn (point_spots [] span at p pairs)
points_lead_from span at p [] = tt
points_lead_from span at p (pair ∷ pairs) =
    by_test (has_key (codes "point") pair) (points_lead_from span (at + 1) (p + 1) pairs) (points_lead_from span (at + 1) p pairs)
  where
    by_test : (b : Bool) → LeadIn (point_spots [] span (at + 1) (p + 1) pairs) → LeadIn (point_spots [] span (at + 1) p pairs) →
        LeadIn (cond b (value_spots (at ∷ []) (point_vertex span p) pair.value ++ point_spots [] span (at + 1) (p + 1) pairs) (point_spots [] span (at + 1) p pairs))
    by_test true one more =
        let P : List Spot → Type 0 = λ spots. LeadIn (spots ++ point_spots [] span (at + 1) (p + 1) pairs) in
        subst P (sym (value_relative (point_vertex span p) pair.value (at ∷ [])))
        (both_lead_in (map (behind (at ∷ [])) (value_spots [] (point_vertex span p) pair.value)) (point_spots [] span (at + 1) (p + 1) pairs)
        (behind_leads_in at (value_spots [] (point_vertex span p) pair.value)) one)
    by_test false one more = more

pub points_lead : (span : EdgeSpan) (pairs : List Pair) → LeadIn (point_spots [] span 0 0 pairs)
points_lead span pairs = points_lead_from span 0 0 pairs

-- the spots of the line in an edge's graphics
abbrev pub line_spots : List ℕ → EdgeSpan → List Pair → List Spot
line_spots path span pairs = inside (codes "Line") path pairs (λ line points. point_spots line span 0 0 points)

pub line_relative : (span : EdgeSpan) (pairs : List Pair) → IsRelative (λ path. line_spots path span pairs)
line_relative span pairs = inside_relative (λ path points. point_spots path span 0 0 points) (points_relative span 0 0) (codes "Line") pairs

pub line_leads : (span : EdgeSpan) (pairs : List Pair) → LeadIn (line_spots [] span pairs)
line_leads span pairs = inside_leads (λ path points. point_spots path span 0 0 points) (points_relative span 0 0) (codes "Line") pairs

pub node_relative : (n : ℕ) (pairs : List Pair) → IsRelative (λ path. node_spots path n pairs)
node_relative n pairs = inside_relative (λ path list. coordinate_spots path n list) (coordinates_relative n) (codes "graphics") pairs

pub node_leads : (n : ℕ) (pairs : List Pair) → LeadIn (node_spots [] n pairs)
node_leads n pairs = inside_leads (λ path list. coordinate_spots path n list) (coordinates_relative n) (codes "graphics") pairs

pub edge_relative : (span : EdgeSpan) (pairs : List Pair) → IsRelative (λ path. edge_spots path span pairs)
edge_relative span pairs = inside_relative (λ path list. line_spots path span list) (line_relative span) (codes "graphics") pairs

pub edge_leads : (span : EdgeSpan) (pairs : List Pair) → LeadIn (edge_spots [] span pairs)
edge_leads span pairs = inside_leads (λ path list. line_spots path span list) (line_relative span) (codes "graphics") pairs

node_pair_relative : (n : ℕ) (list : Option (List Pair)) → IsRelative (λ path. option_map_or (λ list. node_spots path n list) list [])
node_pair_relative n None path = refl
node_pair_relative n (Some pairs) path = node_relative n pairs path

edge_pair_relative : (span : EdgeSpan) (list : Option (List Pair)) → IsRelative (λ path. option_map_or (λ list. edge_spots path span list) list [])
edge_pair_relative span None path = refl
edge_pair_relative span (Some pairs) path = edge_relative span pairs path

pub pair_relative : (spans : List EdgeSpan) (n e : ℕ) (pair : Pair) → IsRelative (λ path. pair_spots path spans n e pair)
pair_relative spans n e pair path =
    append_behind path (option_map_or (λ list. node_spots path n list) (list_under (codes "node") pair) [])
    (option_map_or (λ list. edge_spots path (slice_index_or spans e no_span) list) (list_under (codes "edge") pair) [])
    (option_map_or (λ list. node_spots [] n list) (list_under (codes "node") pair) [])
    (option_map_or (λ list. edge_spots [] (slice_index_or spans e no_span) list) (list_under (codes "edge") pair) [])
    (node_pair_relative n (list_under (codes "node") pair) path) (edge_pair_relative (slice_index_or spans e no_span) (list_under (codes "edge") pair) path)

node_pair_leads : (n : ℕ) (list : Option (List Pair)) → LeadIn (option_map_or (λ list. node_spots [] n list) list [])
node_pair_leads n None = tt
node_pair_leads n (Some pairs) = node_leads n pairs

edge_pair_leads : (span : EdgeSpan) (list : Option (List Pair)) → LeadIn (option_map_or (λ list. edge_spots [] span list) list [])
edge_pair_leads span None = tt
edge_pair_leads span (Some pairs) = edge_leads span pairs

pub pair_leads : (spans : List EdgeSpan) (n e : ℕ) (pair : Pair) → LeadIn (pair_spots [] spans n e pair)
pair_leads spans n e pair =
    both_lead_in (option_map_or (λ list. node_spots [] n list) (list_under (codes "node") pair) [])
    (option_map_or (λ list. edge_spots [] (slice_index_or spans e no_span) list) (list_under (codes "edge") pair) [])
    (node_pair_leads n (list_under (codes "node") pair)) (edge_pair_leads (slice_index_or spans e no_span) (list_under (codes "edge") pair))

pub graph_relative : (spans : List EdgeSpan) (at n e : ℕ) (pairs : List Pair) → IsRelative (λ path. graph_spots path spans at n e pairs)
graph_relative spans at n e [] path = refl
graph_relative spans at n e (pair ∷ pairs) path =
    append_behind path (pair_spots (path ++ at ∷ []) spans n e pair)
    (graph_spots path spans (at + 1) (counted n (list_under (codes "node") pair)) (counted e (list_under (codes "edge") pair)) pairs)
    (pair_spots (at ∷ []) spans n e pair)
    (graph_spots [] spans (at + 1) (counted n (list_under (codes "node") pair)) (counted e (list_under (codes "edge") pair)) pairs)
    (deeper (λ path. pair_spots path spans n e pair) (pair_relative spans n e pair) path at)
    (graph_relative spans (at + 1) (counted n (list_under (codes "node") pair)) (counted e (list_under (codes "edge") pair)) pairs path)

graph_leads_from : (spans : List EdgeSpan) (at n e : ℕ) (pairs : List Pair) → LeadIn (graph_spots [] spans at n e pairs)
graph_leads_from spans at n e [] = tt
graph_leads_from spans at n e (pair ∷ pairs) =
    let rest = graph_spots [] spans (at + 1) (counted n (list_under (codes "node") pair)) (counted e (list_under (codes "edge") pair)) pairs in
    let P : List Spot → Type 0 = λ spots. LeadIn (spots ++ rest) in
    subst P (sym (pair_relative spans n e pair (at ∷ [])))
    (both_lead_in (map (behind (at ∷ [])) (pair_spots [] spans n e pair)) rest (behind_leads_in at (pair_spots [] spans n e pair))
    (graph_leads_from spans (at + 1) (counted n (list_under (codes "node") pair)) (counted e (list_under (codes "edge") pair)) pairs))

pub graph_leads : (spans : List EdgeSpan) (pairs : List Pair) → LeadIn (graph_spots [] spans 0 0 0 pairs)
graph_leads spans pairs = graph_leads_from spans 0 0 0 pairs
