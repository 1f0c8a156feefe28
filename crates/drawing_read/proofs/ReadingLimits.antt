-- Every reading is within the limits of a drawing.
use Rattle.std.proofs.Common.{◌≡◌, ℕ, ◌<◌, ◌≤◌, ℤ, pos, negsuc, ◌+ℤ◌, Bool, true, false, cond, List, [], ◌∷◌, ◌++◌, map, length, drop, Option, None, Some, Ok, Err, refl, sym, ap, length-append, ◌∙◌, subst, arith}
use Rattle.std.specs.Prelude.{codes, unsigned_abs, nat_le, option_and_then}
use Rattle.std.specs.List.{All, filter_map, flat_map, cons_option}
use Rattle.std.specs.Option.{IfSome, option_map}
use Rattle.std.proofs.lemmas.Int.{ints}
use Rattle.std.proofs.lemmas.Bool.Decides.{nat_tests}
use Rattle.std.proofs.lemmas.List.{length-map}
use Rattle.std.proofs.lemmas.List.Elements.{All-nil, All-cons, All-head, All-tail, All-append, All-weaker, All-take, All-drop, All-map, All-get_or, All-same}
use Rattle.gml_text.specs.declared.number.NumberFault.TheVariants.{OutOfRange}
use Rattle.gml_text.specs.declared.tree.Tree.{Tree}
use Rattle.gml_text.specs.declared.tree.Pair.{Pair}
use Rattle.gml_text.specs.Numerals.{mantissa, power_of_ten}
use Rattle.gml_text.specs.NumeralKinds.{parts_of}
use Rattle.compact_types.specs.declared.limits.TheConstants.{MOST_VERTICES, GREATEST_THOUSANDTHS}
use Rattle.compact_types.specs.declared.places.Point.{Point}
use Rattle.compact_types.specs.declared.places.Axis.{Axis}
use Rattle.compact_types.specs.declared.places.Axis.TheVariants.{X, Y}
use Rattle.compact_types.specs.Lookups.{origin, place, along}
use Rattle.compact_types.specs.Magnitudes.{IsWithin}
use Rattle.drawing_read.specs.declared.limits.TheConstants.{MOST_PIECES_READ}
use Rattle.drawing_read.specs.declared.numerals.Number.{Number}
use Rattle.drawing_read.specs.declared.numerals.Numbers.{Numbers}
use Rattle.drawing_read.specs.declared.written.Node.{Node}
use Rattle.drawing_read.specs.declared.written.Edge.{Edge}
use Rattle.drawing_read.specs.declared.written.Graph.{Graph}
use Rattle.drawing_read.specs.declared.reading.Reading.{Reading}
use Rattle.drawing_read.specs.Lookups.{has_key, list_in, list_under, first_under, first_list}
use Rattle.gml_text.specs.Thousandths.{times_ten, within_range, thousandths_of}
use Rattle.drawing_read.specs.Numerals.{numeral_in, number_of, number_under, numbers_in}
use Rattle.drawing_read.specs.Written.{written_node, node_in, point_in, line_pairs, edge_of, edge_in, graph_of}
use Rattle.drawing_read.specs.Ids.{ids_of, number_of_id}
use Rattle.drawing_read.specs.Routes.{Route, value_of, point_of, node_points, route_of}
use Rattle.drawing_read.specs.Spans.{begins_at, ends_at, after_first_at, before_last_at, bends_of, points_in}
use Rattle.drawing_read.specs.Faults.{graphs_of}
use Rattle.drawing_read.specs.Readings.{graph_place, IsGraphReading, IfOne, IsReading, IsWithinLimits}
use Rattle.drawing_read.proofs.FaultlessGraphs.{has_no_fault}

-- the number is within reach
abbrev IsNear : ℤ → Type 0
IsNear z = IsWithin GREATEST_THOUSANDTHS z

-- both coordinates are
abbrev IsNearPoint : Point → Type 0
IsNearPoint point = IsNear point.x × IsNear point.y

-- the number is, where it is not refused
abbrev IsNearNumber : Number → Type 0
IsNearNumber number = IsNear (value_of number.value)

abbrev AreNear : Numbers → Type 0
AreNear numbers = IsNearNumber numbers.x × IsNearNumber numbers.y

abbrev MayBeNear : Option Numbers → Type 0
MayBeNear numbers = IfSome numbers AreNear

-- what holds of the parts holds of the whole

all_cons_option : {B : Type 0} (P : B → Type 0) (o : Option B) (xs : List B) → IfSome o P → All P xs → All P (cons_option o xs)
all_cons_option P None xs first holds = holds
all_cons_option P (Some b) xs first holds = All-cons P b xs first holds

all_filter_map : {A B : Type 0} (f : A → Option B) (P : B → Type 0) → ((a : A) → IfSome (f a) P) → (xs : List A) → All P (filter_map f xs)
all_filter_map f P each [] = All-nil P
all_filter_map f P each (x ∷ xs) = all_cons_option P (f x) (filter_map f xs) (each x) (all_filter_map f P each xs)

all_flat_map : {A B : Type 0} (f : A → List B) (P : B → Type 0) (Q : A → Type 0) → ((a : A) → Q a → All P (f a)) → (xs : List A) → All Q xs → All P (flat_map f xs)
all_flat_map f P Q each [] holds = All-nil P
all_flat_map f P Q each (x ∷ xs) holds =
    All-append P (f x) (flat_map f xs) (each x (All-head Q x xs holds)) (all_flat_map f P Q each xs (All-tail Q x xs holds))

all_cond : {A : Type 0} (P : A → Type 0) (b : Bool) (xs ys : List A) → All P xs → All P ys → All P (cond b xs ys)
all_cond P true xs ys first second = first
all_cond P false xs ys first second = second

some_and_then : {A B : Type 0} (f : A → Option B) (P : B → Type 0) → ((a : A) → IfSome (f a) P) → (o : Option A) → IfSome (option_and_then f o) P
some_and_then f P each None = tt
some_and_then f P each (Some a) = each a

some_map : {A B : Type 0} (f : A → B) (P : B → Type 0) → ((a : A) → P (f a)) → (o : Option A) → IfSome (option_map f o) P
some_map f P each None = tt
some_map f P each (Some a) = each a

-- numbers

zero_near : IsNear (pos 0)
zero_near = record { low = omega (arith, ints); high = omega (arith, ints) }

near : (t : ℤ) → unsigned_abs t ≤ GREATEST_THOUSANDTHS → IsNear t
near (pos n) within = record { low = omega (arith, ints); high = omega (arith, ints) }
near (negsuc n) within = record { low = omega (arith, ints); high = omega (arith, ints) }

tested_near : (t : ℤ) (b : Bool) → nat_le (unsigned_abs t) GREATEST_THOUSANDTHS ≡ b → IsNear (value_of (cond b (Ok t) (Err OutOfRange)))
tested_near t true is = let within : unsigned_abs t ≤ GREATEST_THOUSANDTHS = grind (arith, nat_tests) in near t within
tested_near t false is = zero_near

range_near : (o : Option ℤ) → IsNear (value_of (within_range o))
range_near None = zero_near
range_near (Some t) = tested_near t (nat_le (unsigned_abs t) GREATEST_THOUSANDTHS) refl

thousandths_near : (word : List ℕ) → IsNear (value_of (thousandths_of word))
unfolding thousandths_of
thousandths_near word = range_near (times_ten (mantissa (parts_of word)) (power_of_ten (parts_of word) +ℤ pos 3))

number_near : (pair : Pair) → IfSome (number_of pair) IsNearNumber
number_near pair = some_map _ IsNearNumber (λ word. thousandths_near word) (numeral_in pair.value)

number_under_near : (key : List ℕ) (pairs : List Pair) → IfSome (number_under key pairs) IsNearNumber
number_under_near key pairs = some_and_then number_of IsNearNumber number_near (first_under key pairs)

both_near : (x y : Option Number) → IfSome x IsNearNumber → IfSome y IsNearNumber →
    MayBeNear (option_and_then (λ (a : Number). option_map (λ (b : Number). record { x = a; y = b }) y) x)
both_near None y near_x near_y = tt
both_near (Some a) None near_x near_y = tt
both_near (Some a) (Some b) near_x near_y = (near_x, near_y)

numbers_near : (pairs : List Pair) → MayBeNear (numbers_in pairs)
numbers_near pairs = both_near (number_under (codes "x") pairs) (number_under (codes "y") pairs) (number_under_near _ pairs) (number_under_near _ pairs)

-- what is written

node_near : (pair : Pair) → IfSome (node_in pair) (λ node. MayBeNear node.place)
node_near pair = some_map written_node (λ node. MayBeNear node.place)
    (λ pairs. some_and_then numbers_in AreNear numbers_near (first_list (codes "graphics") pairs)) (list_under (codes "node") pair)

point_near : (pair : Pair) → IfSome (point_in pair) MayBeNear
point_near pair = where_keyed (has_key (codes "point") pair)
  where
    where_keyed : (b : Bool) → IfSome (cond b (Some (option_and_then numbers_in (list_in pair.value))) None) MayBeNear
    where_keyed true = some_and_then numbers_in AreNear numbers_near (list_in pair.value)
    where_keyed false = tt

edge_near : (pair : Pair) → IfSome (edge_in pair) (λ edge. All MayBeNear edge.points)
edge_near pair = some_map edge_of (λ edge. All MayBeNear edge.points)
    (λ pairs. all_filter_map point_in MayBeNear point_near (line_pairs pairs)) (list_under (codes "edge") pair)

-- the points

point_of_near : (numbers : Option Numbers) → MayBeNear numbers → IsNearPoint (point_of numbers)
point_of_near None near = (zero_near, zero_near)
point_of_near (Some numbers) near = near

node_points_near : (nodes : List Node) → All (λ node. MayBeNear node.place) nodes → All IsNearPoint (node_points nodes)
node_points_near nodes holds = All-map IsNearPoint (λ (node : Node). point_of node.place) nodes
    (All-weaker (λ node. MayBeNear node.place) (λ node. IsNearPoint (point_of node.place)) (λ node here. point_of_near node.place here) nodes holds)

points_near : (points : List (Option Numbers)) → All MayBeNear points → All IsNearPoint (map point_of points)
points_near points holds = All-map IsNearPoint point_of points (All-weaker MayBeNear (λ numbers. IsNearPoint (point_of numbers)) point_of_near points holds)

bends_near : (nodes : List Point) (route : Route) → All IsNearPoint route.points → All IsNearPoint (bends_of nodes route)
bends_near nodes route holds = without_last (after_first_at (place nodes route.source) route.points)
    (all_cond IsNearPoint (begins_at (place nodes route.source) route.points) (drop 1 route.points) route.points (All-drop IsNearPoint 1 route.points holds) holds)
  where
    without_last : (points : List Point) → All IsNearPoint points → All IsNearPoint (before_last_at (place nodes route.target) points)
    without_last points near = all_cond IsNearPoint (ends_at (place nodes route.target) points) _ points (All-take IsNearPoint _ points near) near

all_near : (look : ℤ → Option ℕ) (nodes : List Node) (edges : List Edge) → All (λ node. MayBeNear node.place) nodes → All (λ edge. All MayBeNear edge.points) edges →
    All IsNearPoint (node_points nodes ++ flat_map (bends_of (node_points nodes)) (map (route_of look) edges))
all_near look nodes edges near_nodes near_edges =
    let routes : All (λ (route : Route). All IsNearPoint route.points) (map (route_of look) edges) =
    All-map (λ (route : Route). All IsNearPoint route.points) (route_of look) edges
    (All-weaker (λ (edge : Edge). All MayBeNear edge.points) (λ edge. All IsNearPoint (map point_of edge.points)) (λ edge here. points_near edge.points here) edges near_edges) in
    All-append IsNearPoint (node_points nodes) _ (node_points_near nodes near_nodes)
    (all_flat_map (bends_of (node_points nodes)) IsNearPoint (λ route. All IsNearPoint route.points) (bends_near (node_points nodes)) (map (route_of look) edges) routes)

vertices_near : (pairs : List Pair) → All IsNearPoint (points_in (graph_of pairs))
vertices_near pairs = all_near (number_of_id (ids_of (graph_of pairs).nodes)) (graph_of pairs).nodes (graph_of pairs).edges
    (all_filter_map node_in (λ node. MayBeNear node.place) node_near pairs) (all_filter_map edge_in (λ edge. All MayBeNear edge.points) edge_near pairs)

-- readings

-- a graph with a node has a vertex
has_vertex : (graph : Graph) → 0 < length graph.nodes → 0 < length (points_in graph)
has_vertex graph node =
    let nodes : length (node_points graph.nodes) ≡ length graph.nodes = length-map graph.nodes (λ (node : Node). point_of node.place) in
    simp length-append (omega arith)

-- both coordinates of a point that is within reach are
along_near : (axis : Axis) (point : Point) → IsNearPoint point → IsNear (along axis point)
along_near X point near = near.0
along_near Y point near = near.1

graph_within_limits : (at : ℕ) (pairs : List Pair) (reading : Reading) → IsGraphReading at pairs reading → IsWithinLimits reading
graph_within_limits at pairs reading is =
    let has = has_no_fault (graph_of pairs) is.faultless in
    let fit : length reading.places.xy ≡ reading.plan.vertices = ap length is.places ∙ sym is.vertices in
    let near : All IsNearPoint reading.places.xy = All-same IsNearPoint reading.places.xy (points_in (graph_of pairs)) is.places (vertices_near pairs) in
    record {
      some_vertex = subst (λ (n : ℕ). 0 < n) (sym is.vertices) (has_vertex (graph_of pairs) has.some_node);
      few_vertices = subst (λ (n : ℕ). n ≤ MOST_VERTICES) (sym is.vertices) has.few_vertices;
      few_pieces = subst (λ (n : ℕ). n ≤ MOST_PIECES_READ) (sym (ap length is.pieces)) has.few_pieces;
      places_fit = fit;
      within_reach = λ axis v inside. along_near axis (place reading.places.xy v) (All-get_or IsNearPoint reading.places.xy v origin inside near);
    }

-- a reading is within the limits
pub reading_within_limits : (tree : Tree) (reading : Reading) → IsReading tree reading → IsWithinLimits reading
reading_within_limits tree reading is = by (graphs_of tree) is
  where
    by : (graphs : List (List Pair)) → IfOne graphs (λ pairs. IsGraphReading (graph_place tree) pairs reading) → IsWithinLimits reading
    by [] one = absurd one
    by (pairs ∷ []) one = graph_within_limits (graph_place tree) pairs reading one
    by (pairs ∷ other ∷ more) one = absurd one
