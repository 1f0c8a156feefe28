-- What is written in a legible list is small.
use Rattle.std.proofs.Common.{◌≡◌, ℕ, ◌+◌, ◌≤◌, Bool, true, false, cond, List, [], ◌∷◌, length, Option, None, Some, refl, ap, ◌∙◌, sum_by, arith}
use Rattle.std.specs.Prelude.{option_and_then, unwrap_or, codes}
use Rattle.std.specs.List.{filter_map, cons_option, find}
use Rattle.std.specs.Option.{option_map}
use Rattle.std.proofs.lemmas.List.Sums.{sum_by-cons, get_or-le-sum_by}
use Rattle.gml_text.specs.declared.tree.Tree.{out-Tree}
use Rattle.gml_text.specs.declared.tree.Pair.{Pair}
use Rattle.gml_text.specs.declared.tree.Value.{Value}
use Rattle.gml_text.specs.declared.tree.Value.TheVariants.{Whole, Real, Text, Inner}
use Rattle.drawing_read.specs.declared.written.Edge.{Edge}
use Rattle.drawing_read.specs.Lookups.{has_key, list_in, first_under, first_list}
use Rattle.drawing_read.specs.Written.{node_in, edge_of, edge_in, point_in, line_pairs, graph_of}
use Rattle.gml_text.specs.PairCounts.{count_in_value, count_in_pair}
use Rattle.gml_text.proofs.Laws.{pair_with_value, tree_count, value_count}
use Rattle.drawing_read.specs.inner.Legible.{AreLegible}
use Rattle.drawing_read.specs.inner.Passes.{point_count, CanBeCounted}

abbrev weight : List Pair → ℕ
weight pairs = sum_by count_in_pair pairs

weight_cons : (pair : Pair) (pairs : List Pair) → weight (pair ∷ pairs) ≡ count_in_value pair.value + 1 + weight pairs
weight_cons pair pairs = sum_by-cons count_in_pair pair pairs ∙ ap (λ n. n + weight pairs) (pair_with_value pair)

-- the list that a value is weighs as much as the value
value_below : (value : Value) (list : List Pair) → list_in value ≡ Some list → weight list ≤ count_in_value value
value_below (Whole word) list is = absurd (cc)
value_below (Real word) list is = absurd (cc)
value_below (Text inside) list is = absurd (cc)
value_below (Inner tree) list is =
    let same : (out-Tree tree).pairs ≡ list = cc in
    let e : weight (out-Tree tree).pairs ≡ weight list = ap weight same in
    omega (arith, tree_count tree, value_count (Inner tree))

found_next : (pair x : Pair) (pairs : List Pair) (b : Bool) (o : Option Pair) → (o ≡ Some x → count_in_pair x ≤ weight pairs) →
    cond b (Some pair) o ≡ Some x → count_in_pair x ≤ weight (pair ∷ pairs)
found_next pair x pairs true o rest is =
    let same : pair ≡ x = cc in
    let e : count_in_pair pair ≡ count_in_pair x = ap count_in_pair same in
    omega (arith, sum_by-cons count_in_pair pair pairs)
found_next pair x pairs false o rest is = omega (arith, sum_by-cons count_in_pair pair pairs, rest is)

-- a pair that is found weighs no more than the whole
found_below : (p : Pair → Bool) (pairs : List Pair) (x : Pair) → find p pairs ≡ Some x → count_in_pair x ≤ weight pairs
found_below p [] x is = absurd (cc)
found_below p (pair ∷ pairs) x is = found_next pair x pairs (p pair) (find p pairs) (found_below p pairs x) is

-- the list of the first pair with a key weighs no more than the whole
first_below : (key : List ℕ) (pairs : List Pair) (list : List Pair) → first_list key pairs ≡ Some list → weight list ≤ weight pairs
first_below key pairs list is = by (first_under key pairs) refl is
  where
    by : (o : Option Pair) → first_under key pairs ≡ o → option_and_then (λ (pair : Pair). list_in pair.value) o ≡ Some list → weight list ≤ weight pairs
    by None found is = absurd (cc)
    by (Some pair) found is = omega (arith, found_below (has_key key) pairs pair found, pair_with_value pair, value_below pair.value list is)

inside_below : (key : List ℕ) (pairs : List Pair) (o : Option (List Pair)) → first_list key pairs ≡ o → weight (unwrap_or o []) ≤ weight pairs
inside_below key pairs None is = omega arith
inside_below key pairs (Some list) is = first_below key pairs list is

-- so does the line of an edge
line_below : (pairs : List Pair) → weight (line_pairs pairs) ≤ weight pairs
line_below pairs = by (first_list (codes "graphics") pairs) refl
  where
    by : (o : Option (List Pair)) → first_list (codes "graphics") pairs ≡ o → weight (unwrap_or (option_and_then (first_list (codes "Line")) o) []) ≤ weight pairs
    by None is = omega arith
    by (Some list) is = omega (arith, first_below (codes "graphics") pairs list is, inside_below (codes "Line") list (first_list (codes "Line") list) refl)

kept_next : {X : Type 0} (pair : Pair) (pairs : List Pair) (o : Option X) (kept : List X) → length kept ≤ weight pairs → length (cons_option o kept) ≤ weight (pair ∷ pairs)
kept_next pair pairs None kept below = omega (arith, weight_cons pair pairs)
kept_next pair pairs (Some x) kept below = omega (arith, weight_cons pair pairs)

-- a list keeps no more of its pairs than their weight
kept_below : {X : Type 0} (h : Pair → Option X) (pairs : List Pair) → length (filter_map h pairs) ≤ weight pairs
kept_below h [] = omega arith
kept_below h (pair ∷ pairs) = kept_next pair pairs (h pair) (filter_map h pairs) (kept_below h pairs)

edge_points : (pairs : List Pair) → length (edge_of pairs).points ≤ weight pairs
edge_points pairs = omega (arith, kept_below point_in (line_pairs pairs), line_below pairs)

-- an edge has no more points than its pair's value has pairs
edge_below : (pair : Pair) (edge : Edge) → edge_in pair ≡ Some edge → length edge.points ≤ count_in_value pair.value
edge_below pair edge is = by (has_key (codes "edge") pair) (list_in pair.value) refl is
  where
    of_list : (o : Option (List Pair)) → list_in pair.value ≡ o → option_map edge_of o ≡ Some edge → length edge.points ≤ count_in_value pair.value
    of_list None found is = absurd (cc)
    of_list (Some list) found is =
        let same : edge_of list ≡ edge = cc in
        let e : length (edge_of list).points ≡ length edge.points = ap (λ (edge : Edge). length edge.points) same in
        omega (arith, edge_points list, value_below pair.value list found)

    by : (b : Bool) (o : Option (List Pair)) → list_in pair.value ≡ o → option_map edge_of (cond b o None) ≡ Some edge → length edge.points ≤ count_in_value pair.value
    by true o found is = of_list o found is
    by false o found is = absurd (cc)

abbrev pub size_of : Edge → ℕ
size_of edge = length edge.points

points_next : (pair : Pair) (o : Option Edge) (edges : List Edge) → edge_in pair ≡ o → point_count (cons_option o edges) ≤ count_in_value pair.value + point_count edges
points_next pair None edges is = omega arith
points_next pair (Some edge) edges is = omega (arith, sum_by-cons size_of edge edges, edge_below pair edge is)

length_next : {X : Type 0} (o : Option X) (xs : List X) → length (cons_option o xs) ≤ length xs + 1
length_next None xs = omega arith
length_next (Some x) xs = omega arith

-- what is kept, and the points of the edges
kept_and_points : {X : Type 0} (h : Pair → Option X) (pairs : List Pair) → length (filter_map h pairs) + point_count (filter_map edge_in pairs) ≤ weight pairs
kept_and_points h [] = omega arith
kept_and_points h (pair ∷ pairs) =
    omega (arith, weight_cons pair pairs, length_next (h pair) (filter_map h pairs), points_next pair (edge_in pair) (filter_map edge_in pairs) refl, kept_and_points h pairs)

pub graph_small : (pairs : List Pair) → AreLegible pairs → CanBeCounted (graph_of pairs)
graph_small pairs legible = record {
  nodes = omega (arith, kept_below node_in pairs, legible.few);
  edges = omega (arith, kept_below edge_in pairs, legible.few);
  points = λ k d below. omega (arith, get_or-le-sum_by size_of (filter_map edge_in pairs) k d below, kept_and_points edge_in pairs, legible.few);
  vertices = omega (arith, kept_and_points node_in pairs, legible.few);
}
