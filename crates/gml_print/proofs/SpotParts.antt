-- The paths of a drawing's spots part, and a value stands at each.
use Rattle.std.proofs.Common.{◌≡◌, ℕ, zero, suc, ◌+◌, ◌≤◌, inl, inr, arith, List, [], ◌∷◌, ◌++◌, length, map, Option, None, Some, Bool, true, false, cond, refl, sym, ap, ◌∙◌, subst, nat_lt, append-nil, append_assoc, length-append, slice_index_or}
use Rattle.std.specs.Option.{option_map_or}
use Rattle.std.specs.List.{position, cons_option}
use Rattle.std.specs.Prelude.{slice_get, codes, option_and_then, is_some, unwrap_or}
use Rattle.std.proofs.lemmas.Option.{same_Some}
use Rattle.compact_types.specs.declared.places.Axis.TheVariants.{X, Y}
use Rattle.gml_text.specs.declared.tree.Tree.{Tree, out-Tree}
use Rattle.gml_text.specs.declared.tree.Pair.{Pair}
use Rattle.gml_text.specs.declared.tree.Value.{Value}
use Rattle.drawing_read.specs.declared.reading.Spot.{Spot}
use Rattle.drawing_read.specs.declared.spans.EdgeSpan.{EdgeSpan}
use Rattle.drawing_read.specs.declared.reading.Reading.{Reading}
use Rattle.drawing_read.specs.Spans.{spans_in}
use Rattle.drawing_read.specs.Written.{graph_of}
use Rattle.drawing_read.specs.Faults.{graphs_of}
use Rattle.drawing_read.specs.Readings.{graph_place, IsGraphReading, IsReading}
use Rattle.drawing_read.specs.Lookups.{has_key, list_in, list_under, lists_under, first_list, place_under}
use Rattle.drawing_read.specs.Spots.{spot, in_order, coordinate_spots, inside, node_spots, point_spots, edge_spots, pair_spots, counted, graph_spots}
use Rattle.drawing_read.specs.Spans.{point_vertex, no_span}
use Rattle.gml_print.specs.Paths.{value_below, value_in, Part}
use Rattle.gml_print.proofs.ListFacts.{found_at, position_here, position_later}
use Rattle.gml_print.proofs.PlacedReadings.{only_graph}
use Rattle.gml_print.proofs.ChangedLists.{apart_words}
use Rattle.gml_print.proofs.PutValues.{behind}
use Rattle.gml_print.proofs.SpotPaths.{IsRelative, coordinates_relative, value_spots, value_relative, points_relative, line_spots, line_relative, pair_relative, graph_relative}
use Rattle.gml_print.proofs.SpotValues.{Each, each_weaker, PartsFrom, AllPart}

abbrev IsIn : List Pair → Spot → Type 0
IsIn pairs spot = (old : Value) × (value_in spot.path pairs ≡ Some old)

abbrev IsBelow : Value → Spot → Type 0
IsBelow value spot = (old : Value) × (value_below spot.path value ≡ Some old)

-- the spots are places of values of the list, and of a value
pub record FitIn (pairs : List Pair) (spots : List Spot) : Type 0 where
  pub part : AllPart spots
  pub there : Each (λ spot. (old : Value) × (value_in spot.path pairs ≡ Some old)) spots

pub record FitBelow (value : Value) (spots : List Spot) : Type 0 where
  pub part : AllPart spots
  pub there : Each (λ spot. (old : Value) × (value_below spot.path value ≡ Some old)) spots

none_fit_in : (pairs : List Pair) → FitIn pairs []
none_fit_in pairs = record { part = tt; there = tt }

none_fit_below : (value : Value) → FitBelow value []
none_fit_below value = record { part = tt; there = tt }

parts_behind : (a : ℕ) (path : List ℕ) (spots : List Spot) → PartsFrom path spots → PartsFrom (a ∷ path) (map (behind (a ∷ [])) spots)
parts_behind a path [] parts = tt
parts_behind a path (spot ∷ spots) parts = (inr parts.0, parts_behind a path spots parts.1)

all_part_behind : (a : ℕ) (spots : List Spot) → AllPart spots → AllPart (map (behind (a ∷ [])) spots)
all_part_behind a [] part = tt
all_part_behind a (spot ∷ spots) part = (parts_behind a spot.path spots part.0, all_part_behind a spots part.1)

there_behind : (a : ℕ) (pair : Pair) (pairs : List Pair) (spots : List Spot) → slice_get pairs a ≡ Some pair → Each (IsBelow pair.value) spots →
    Each (IsIn pairs) (map (behind (a ∷ [])) spots)
there_behind a pair pairs [] at below = tt
there_behind a pair pairs (spot ∷ spots) at below =
    ((below.0.0, ap (option_and_then (λ (pair : Pair). value_below spot.path pair.value)) at ∙ below.0.1), there_behind a pair pairs spots at below.1)

-- spots below the value of one pair
fit_behind : (a : ℕ) (pair : Pair) (pairs : List Pair) (spots : List Spot) → slice_get pairs a ≡ Some pair → FitBelow pair.value spots → FitIn pairs (map (behind (a ∷ [])) spots)
fit_behind a pair pairs spots at fit = record { part = all_part_behind a spots fit.part; there = there_behind a pair pairs spots at fit.there }

one_below : (value old : Value) (list : List Pair) (path : List ℕ) → list_in value ≡ Some list → value_in path list ≡ Some old → value_below path value ≡ Some old
one_below value old list [] inner is = cc
one_below value old list (a ∷ path) inner is =
    ap (option_and_then (λ pairs. option_and_then (λ (pair : Pair). value_below path pair.value) (slice_get pairs a))) inner ∙ is

-- spots in the list that a value is
fit_list : (value : Value) (list : List Pair) (spots : List Spot) → list_in value ≡ Some list → FitIn list spots → FitBelow value spots
fit_list value list spots inner fit = record {
  part = fit.part;
  there = each_weaker (IsIn list) (IsBelow value) spots (λ spot here. (here.0, one_below value here.0 list spot.path inner here.1)) fit.there;
}

-- the path begins with this place or a later one
abbrev StartsFrom : ℕ → List ℕ → Type 0
StartsFrom a [] = ⊥
StartsFrom a (b ∷ path) = a ≤ b

abbrev From : ℕ → List Spot → Type 0
From a spots = Each (λ spot. StartsFrom a spot.path) spots

later_start : (a b : ℕ) (path : List ℕ) → a ≤ b → StartsFrom b path → StartsFrom a path
later_start a b [] le from = absurd from
later_start a b (c ∷ path) le from = omega arith

later_part : (a : ℕ) (path other : List ℕ) → StartsFrom (a + 1) other → Part (a ∷ path) other
later_part a path [] from = absurd from
later_part a path (b ∷ other) from = inl (λ e. absurd (omega arith))

from_behind : (a : ℕ) (spots : List Spot) → From a (map (behind (a ∷ [])) spots)
from_behind a [] = tt
from_behind a (spot ∷ spots) = (omega arith, from_behind a spots)

each_of_both : (P : Spot → Type 0) (xs ys : List Spot) → Each P xs → Each P ys → Each P (xs ++ ys)
each_of_both P [] ys first second = second
each_of_both P (spot ∷ xs) ys first second = (first.0, each_of_both P xs ys first.1 second)

all_part_then : (a : ℕ) (xs ys : List Spot) → AllPart xs → AllPart ys → From (a + 1) ys → AllPart (map (behind (a ∷ [])) xs ++ ys)
all_part_then a [] ys first second from = second
all_part_then a (spot ∷ xs) ys first second from = (
  each_of_both (λ other. Part (a ∷ spot.path) other.path) (map (behind (a ∷ [])) xs) ys (parts_behind a spot.path xs first.0)
      (each_weaker (λ other. StartsFrom (a + 1) other.path) (λ other. Part (a ∷ spot.path) other.path) ys (λ other from. later_part a spot.path other.path from) from),
  all_part_then a xs ys first.1 second from,
)

-- spots of the pairs from a place on
record FitFrom (a : ℕ) (pairs : List Pair) (spots : List Spot) : Type 0 where
  fit : FitIn pairs spots
  from : From a spots

none_fit_from : (a : ℕ) (pairs : List Pair) → FitFrom a pairs []
none_fit_from a pairs = record { fit = none_fit_in pairs; from = tt }

earlier : (a b : ℕ) (pairs : List Pair) (spots : List Spot) → a ≤ b → FitFrom b pairs spots → FitFrom a pairs spots
earlier a b pairs spots le fit = record {
  fit = fit.fit;
  from = each_weaker (λ spot. StartsFrom b spot.path) (λ spot. StartsFrom a spot.path) spots (λ spot from. later_start a b spot.path le from) fit.from;
}

fit_then : (a : ℕ) (pair : Pair) (pairs : List Pair) (xs ys : List Spot) → slice_get pairs a ≡ Some pair → FitBelow pair.value xs → FitFrom (a + 1) pairs ys →
    FitFrom a pairs (map (behind (a ∷ [])) xs ++ ys)
fit_then a pair pairs xs ys at first rest = record {
  fit = record {
    part = all_part_then a xs ys first.part rest.fit.part rest.from;
    there = each_of_both (IsIn pairs) (map (behind (a ∷ [])) xs) ys (there_behind a pair pairs xs at first.there) rest.fit.there;
  };
  from = each_of_both (λ spot. StartsFrom a spot.path) (map (behind (a ∷ [])) xs) ys (from_behind a xs) (earlier a (a + 1) pairs ys (omega arith) rest).from;
}

two_fit : (pairs : List Pair) (v i j : ℕ) (x y : Value) → (i ≡ j → ⊥) → value_in (i ∷ []) pairs ≡ Some x → value_in (j ∷ []) pairs ≡ Some y → (b : Bool) →
    FitIn pairs (cond b (spot [] v X i ∷ spot [] v Y j ∷ []) (spot [] v Y j ∷ spot [] v X i ∷ []))
two_fit pairs v i j x y differ first second true = record { part = ((inl differ, tt), (tt, tt)); there = ((x, first), ((y, second), tt)) }
two_fit pairs v i j x y differ first second false = record { part = ((inl (λ e. differ (sym e)), tt), (tt, tt)); there = ((y, second), ((x, first), tt)) }

-- the spots of the x and the y of a list
coordinates_fit : (v : ℕ) (pairs : List Pair) → FitIn pairs (coordinate_spots [] v pairs)
coordinates_fit v pairs = by_places (place_under (codes "x") pairs) (place_under (codes "y") pairs) refl refl
  where
    by_places : (x y : Option ℕ) → place_under (codes "x") pairs ≡ x → place_under (codes "y") pairs ≡ y → FitIn pairs (in_order [] v x y)
    by_places None y first second = none_fit_in pairs
    by_places (Some i) None first second = none_fit_in pairs
    by_places (Some i) (Some j) first second =
        let x = found_at (has_key (codes "x")) pairs i first in
        let y = found_at (has_key (codes "y")) pairs j second in
        let differ : i ≡ j → ⊥ = λ e.
        let same : x.0 ≡ y.0 = same_Some x.0 y.0 (sym x.1 ∙ ap (slice_get pairs) e ∙ y.1) in
        let other : has_key (codes "y") x.0 ≡ false = apart_words (codes "x") (codes "y") refl x.0.key x.2 in
        let both : has_key (codes "y") x.0 ≡ true = ap (has_key (codes "y")) same ∙ y.2 in
        cc in
        two_fit pairs v i j x.0.value y.0.value differ
        (ap (option_and_then (λ (pair : Pair). Some pair.value)) x.1) (ap (option_and_then (λ (pair : Pair). Some pair.value)) y.1) (nat_lt i j)

module _ (spots : List ℕ → List Pair → List Spot) (relative : (pairs : List Pair) → IsRelative (λ path. spots path pairs))
    (fit : (pairs : List Pair) → FitIn pairs (spots [] pairs)) where
  inside_of : Option ℕ → Option (List Pair) → List Spot
  inside_of place list = option_map_or (λ a. option_map_or (λ pairs. spots ([] ++ a ∷ []) pairs) list []) place []

  -- the spots inside the list under a key
  inside_fit : (key : List ℕ) (pairs : List Pair) → FitIn pairs (inside key [] pairs spots)
  unfolding inside_of
  inside_fit key pairs = by_place (place_under key pairs) (first_list key pairs) refl refl
    where
      by_place : (place : Option ℕ) (list : Option (List Pair)) → place_under key pairs ≡ place → first_list key pairs ≡ list → FitIn pairs (inside_of place list)
      by_place None list at is = none_fit_in pairs
      by_place (Some a) None at is = none_fit_in pairs
      by_place (Some a) (Some list) at is =
          let found = found_at (has_key key) pairs a at in
          let inner : list_in found.0.value ≡ Some list = sym (ap (option_and_then (λ (pair : Pair). list_in pair.value)) found.3) ∙ is in
          let P : List Spot → Type 0 = FitIn pairs in
          subst P (sym (relative list (a ∷ []))) (fit_behind a found.0 pairs (spots [] list) found.1 (fit_list found.0.value list (spots [] list) inner (fit list)))

value_fit : (v : ℕ) (value : Value) → FitBelow value (value_spots [] v value)
value_fit v value = by_list (list_in value) refl
  where
    by_list : (o : Option (List Pair)) → list_in value ≡ o → FitBelow value (option_map_or (λ list. coordinate_spots [] v list) o [])
    by_list None inner = none_fit_below value
    by_list (Some list) inner = fit_list value list (coordinate_spots [] v list) inner (coordinates_fit v list)

at_front : (front : List Pair) (pair : Pair) (pairs : List Pair) (a : ℕ) → length front ≡ a → slice_get (front ++ pair ∷ pairs) a ≡ Some pair
at_front [] pair pairs zero long = refl
at_front [] pair pairs (suc a) long = absurd (omega arith)
at_front (other ∷ front) pair pairs zero long = absurd (omega arith)
at_front (other ∷ front) pair pairs (suc a) long = at_front front pair pairs a (omega arith)

-- the same pairs with one more of them in front
one_further : (a : ℕ) (front : List Pair) (pair : Pair) (pairs : List Pair) (spots : List Spot) →
    FitFrom a ((front ++ pair ∷ []) ++ pairs) spots → FitFrom a (front ++ pair ∷ pairs) spots
one_further a front pair pairs spots fit = let P : List Pair → Type 0 = λ all. FitFrom a all spots in subst P (append_assoc front (pair ∷ []) pairs) fit

points_fit_from : (span : EdgeSpan) (at p : ℕ) (pairs front : List Pair) → length front ≡ at → FitFrom at (front ++ pairs) (point_spots [] span at p pairs)
points_fit_from span at p [] front long = none_fit_from at (front ++ [])
points_fit_from span at p (pair ∷ pairs) front long =
    let long_front : length (front ++ pair ∷ []) ≡ at + 1 = omega (arith, length-append front (pair ∷ [])) in
    by_test (has_key (codes "point") pair)
    (one_further (at + 1) front pair pairs (point_spots [] span (at + 1) (p + 1) pairs) (points_fit_from span (at + 1) (p + 1) pairs (front ++ pair ∷ []) long_front))
    (one_further (at + 1) front pair pairs (point_spots [] span (at + 1) p pairs) (points_fit_from span (at + 1) p pairs (front ++ pair ∷ []) long_front))
  where
    by_test : (b : Bool) → FitFrom (at + 1) (front ++ pair ∷ pairs) (point_spots [] span (at + 1) (p + 1) pairs) →
        FitFrom (at + 1) (front ++ pair ∷ pairs) (point_spots [] span (at + 1) p pairs) →
        FitFrom at (front ++ pair ∷ pairs)
        (cond b (value_spots (at ∷ []) (point_vertex span p) pair.value ++ point_spots [] span (at + 1) (p + 1) pairs) (point_spots [] span (at + 1) p pairs))
    by_test true one more =
        let P : List Spot → Type 0 = λ spots. FitFrom at (front ++ pair ∷ pairs) (spots ++ point_spots [] span (at + 1) (p + 1) pairs) in
        subst P (sym (value_relative (point_vertex span p) pair.value (at ∷ [])))
        (fit_then at pair (front ++ pair ∷ pairs) (value_spots [] (point_vertex span p) pair.value) (point_spots [] span (at + 1) (p + 1) pairs)
        (at_front front pair pairs at long) (value_fit (point_vertex span p) pair.value) one)
    by_test false one more = earlier at (at + 1) (front ++ pair ∷ pairs) (point_spots [] span (at + 1) p pairs) (omega arith) more

points_fit : (span : EdgeSpan) (pairs : List Pair) → FitIn pairs (point_spots [] span 0 0 pairs)
points_fit span pairs = (points_fit_from span 0 0 pairs [] refl).fit

line_fit : (span : EdgeSpan) (pairs : List Pair) → FitIn pairs (line_spots [] span pairs)
line_fit span pairs = inside_fit (λ path points. point_spots path span 0 0 points) (points_relative span 0 0) (points_fit span) (codes "Line") pairs

node_fit : (n : ℕ) (pairs : List Pair) → FitIn pairs (node_spots [] n pairs)
node_fit n pairs = inside_fit (λ path list. coordinate_spots path n list) (coordinates_relative n) (coordinates_fit n) (codes "graphics") pairs

edge_fit : (span : EdgeSpan) (pairs : List Pair) → FitIn pairs (edge_spots [] span pairs)
edge_fit span pairs = inside_fit (λ path list. line_spots path span list) (line_relative span) (line_fit span) (codes "graphics") pairs

-- a pair of a graph is a node, an edge or neither
pair_fit : (spans : List EdgeSpan) (n e : ℕ) (pair : Pair) → FitBelow pair.value (pair_spots [] spans n e pair)
pair_fit spans n e pair =
    by_keys (has_key (codes "node") pair) (has_key (codes "edge") pair) (list_in pair.value) refl (apart_words (codes "node") (codes "edge") refl pair.key)
  where
    by_keys : (b c : Bool) (o : Option (List Pair)) → list_in pair.value ≡ o → (b ≡ true → c ≡ false) →
        FitBelow pair.value (option_map_or (λ list. node_spots [] n list) (cond b o None) []
        ++ option_map_or (λ list. edge_spots [] (slice_index_or spans e no_span) list) (cond c o None) [])
    by_keys false false o inner apart = none_fit_below pair.value
    by_keys false true None inner apart = none_fit_below pair.value
    by_keys false true (Some list) inner apart =
        fit_list pair.value list (edge_spots [] (slice_index_or spans e no_span) list) inner (edge_fit (slice_index_or spans e no_span) list)
    by_keys true true o inner apart = let h : true ≡ false = apart refl in absurd cc
    by_keys true false None inner apart = none_fit_below pair.value
    by_keys true false (Some list) inner apart =
        let P : List Spot → Type 0 = FitBelow pair.value in
        subst P (sym (append-nil (node_spots [] n list))) (fit_list pair.value list (node_spots [] n list) inner (node_fit n list))

graph_fit_from : (spans : List EdgeSpan) (at n e : ℕ) (pairs front : List Pair) → length front ≡ at → FitFrom at (front ++ pairs) (graph_spots [] spans at n e pairs)
graph_fit_from spans at n e [] front long = none_fit_from at (front ++ [])
graph_fit_from spans at n e (pair ∷ pairs) front long =
    let m = counted n (list_under (codes "node") pair) in
    let f = counted e (list_under (codes "edge") pair) in
    let rest = graph_spots [] spans (at + 1) m f pairs in
    let long_front : length (front ++ pair ∷ []) ≡ at + 1 = omega (arith, length-append front (pair ∷ [])) in
    let P : List Spot → Type 0 = λ spots. FitFrom at (front ++ pair ∷ pairs) (spots ++ rest) in
    subst P (sym (pair_relative spans n e pair (at ∷ [])))
    (fit_then at pair (front ++ pair ∷ pairs) (pair_spots [] spans n e pair) rest (at_front front pair pairs at long) (pair_fit spans n e pair)
    (one_further (at + 1) front pair pairs rest (graph_fit_from spans (at + 1) m f pairs (front ++ pair ∷ []) long_front)))

graph_fit : (spans : List EdgeSpan) (pairs : List Pair) → FitIn pairs (graph_spots [] spans 0 0 0 pairs)
graph_fit spans pairs = (graph_fit_from spans 0 0 0 pairs [] refl).fit

listed : (b : Bool) (o : Option (List Pair)) (list : List Pair) → cond b o None ≡ Some list → o ≡ Some list
listed true o list is = is
listed false o list is = cc

-- where the one list under a key stands
IsThere : List ℕ → List Pair → List Pair → Type 0
IsThere key pairs list =
    (a : ℕ) × (pair : Pair) × (position (λ pair. is_some (list_under key pair)) pairs ≡ Some a) × (slice_get pairs a ≡ Some pair) × (list_in pair.value ≡ Some list)

only_there : (key : List ℕ) (pairs list : List Pair) → lists_under key pairs ≡ list ∷ [] → IsThere key pairs list
unfolding IsThere
only_there key [] list one = cc
only_there key (pair ∷ pairs) list one = by_list (list_under key pair) refl one (λ one. only_there key pairs list one)
  where
    by_list : (o : Option (List Pair)) → list_under key pair ≡ o → cons_option o (lists_under key pairs) ≡ list ∷ [] →
        (lists_under key pairs ≡ list ∷ [] → IsThere key pairs list) → IsThere key (pair ∷ pairs) list
    by_list None none is rest =
        let later = rest is in
        (suc later.0, later.1, position_later (λ pair. is_some (list_under key pair)) pair pairs later.0 (ap is_some none) later.2, later.3, later.4)
    by_list (Some found) some is rest =
        let same : found ≡ list = cc in
        let inner : list_in pair.value ≡ Some found = listed (has_key key pair) (list_in pair.value) found some in
        (0, pair, position_here (λ pair. is_some (list_under key pair)) pair pairs (ap is_some some), refl, inner ∙ ap (λ (l : List Pair). Some l) same)

-- the paths of the spots of a reading part, and a value stands at each
pub reading_fit : (tree : Tree) (reading : Reading) → IsReading tree reading → FitIn (out-Tree tree).pairs reading.spots
unfolding IsThere
reading_fit tree reading read =
    let one = only_graph (graphs_of tree) (λ pairs. IsGraphReading (graph_place tree) pairs reading) read in
    let pairs = one.0 in
    let spans = spans_in (graph_of pairs) in
    let there = only_there (codes "graph") (out-Tree tree).pairs pairs one.1 in
    let at : graph_place tree ≡ there.0 = ap (λ (o : Option ℕ). unwrap_or o 0) there.2 in
    let spots : reading.spots ≡ map (behind (there.0 ∷ [])) (graph_spots [] spans 0 0 0 pairs) =
    one.2.spots ∙ ap (λ (a : ℕ). graph_spots (a ∷ []) spans 0 0 0 pairs) at ∙ graph_relative spans 0 0 0 pairs (there.0 ∷ []) in
    let P : List Spot → Type 0 = FitIn (out-Tree tree).pairs in
    subst P (sym spots)
    (fit_behind there.0 there.1 (out-Tree tree).pairs (graph_spots [] spans 0 0 0 pairs) there.3
    (fit_list there.1.value pairs (graph_spots [] spans 0 0 0 pairs) there.4 (graph_fit spans pairs)))
