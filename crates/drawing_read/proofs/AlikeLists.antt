-- What is written in a graph, where all offsets are 0.
use Rattle.std.proofs.Common.{◌≡◌, ℕ, Bool, true, false, cond, not, ◌+◌, List, [], ◌∷◌, map, Option, None, Some, refl, ap, ◌∙◌}
use Rattle.std.specs.Prelude.{codes, option_and_then, unwrap_or}
use Rattle.std.specs.List.{filter_map, cons_option, position, prefix_len}
use Rattle.std.specs.Option.{option_map, option_map_or}
use Rattle.std.proofs.lemmas.List.{length-map}
use Rattle.gml_text.specs.Alike.{without_offsets}
use Rattle.gml_text.specs.declared.tree.Tree.{Tree, out-Tree, out-roll-Tree}
use Rattle.gml_text.specs.declared.tree.Pair.{Pair}
use Rattle.gml_text.specs.declared.tree.Value.{Value}
use Rattle.gml_text.specs.declared.tree.Value.TheVariants.{Whole, Real, Text, Inner}
use Rattle.gml_text.specs.Thousandths.{thousandths_of}
use Rattle.gml_text.proofs.Laws.{bare_value, bare_pair, without_offsets-pairs}
use Rattle.drawing_read.specs.declared.numerals.Number.{Number}
use Rattle.drawing_read.specs.declared.numerals.Numbers.{Numbers}
use Rattle.drawing_read.specs.declared.numerals.WholeNumber.{WholeNumber}
use Rattle.drawing_read.specs.declared.numerals.WholeNumber.TheVariants.{Absent}
use Rattle.drawing_read.specs.declared.written.Node.{Node}
use Rattle.drawing_read.specs.declared.written.Edge.{Edge}
use Rattle.drawing_read.specs.declared.written.Graph.{Graph}
use Rattle.drawing_read.specs.Lookups.{has_key, list_in, list_under, lists_under, first_under, first_list, place_under}
use Rattle.drawing_read.specs.Numerals.{numeral_in, number_of, number_under, numbers_in, whole_in, whole_under}
use Rattle.drawing_read.specs.Written.{written_node, node_in, point_in, line_in, line_pairs, edge_of, edge_in, graph_of}

-- some pairs, a number, .. with 0 for each offset
abbrev pub bare : List Pair → List Pair
bare pairs = map bare_pair pairs

abbrev pub bare_number : Number → Number
bare_number number = record { at = 0; value = number.value }

abbrev pub bare_numbers : Numbers → Numbers
bare_numbers numbers = record { x = bare_number numbers.x; y = bare_number numbers.y }

abbrev pub bare_point : Option Numbers → Option Numbers
bare_point point = option_map bare_numbers point

abbrev pub bare_node : Node → Node
bare_node node = record { id = node.id; place = bare_point node.place }

abbrev pub bare_edge : Edge → Edge
bare_edge edge = record { source = edge.source; target = edge.target; points = map bare_point edge.points }

abbrev pub bare_graph : Graph → Graph
bare_graph graph = record { nodes = map bare_node graph.nodes; edges = map bare_edge graph.edges }

-- lists that are mapped

pub prefix_len-map : {X Y : Type 0} (p : Y → Bool) (f : X → Y) (xs : List X) → prefix_len p (map f xs) ≡ prefix_len (λ x. p (f x)) xs
prefix_len-map p f [] = refl
prefix_len-map p f (x ∷ xs) = ap (λ (n : ℕ). cond (p (f x)) (1 + n) 0) (prefix_len-map p f xs)

pub position-map : {X Y : Type 0} (p : Y → Bool) (f : X → Y) (xs : List X) → position p (map f xs) ≡ position (λ x. p (f x)) xs
position-map p f xs = rw (prefix_len-map (λ y. not (p y)) f xs, length-map xs f) refl

-- where each item gives what its image gives, mapped, so does the list
pub filter_map-map : {X Y Z W : Type 0} (h : Y → Option Z) (f : X → Y) (k : W → Z) (g : X → Option W) →
    ((x : X) → h (f x) ≡ option_map k (g x)) → (xs : List X) → filter_map h (map f xs) ≡ map k (filter_map g xs)
filter_map-map h f k g each [] = refl
filter_map-map h f k g each (x ∷ xs) =
    ap (λ o. cons_option o (filter_map h (map f xs))) (each x)
    ∙ ap (cons_option (option_map k (g x))) (filter_map-map h f k g each xs) ∙ mapped (g x)
  where
    mapped : (o : Option _) → cons_option (option_map k o) (map k (filter_map g xs)) ≡ map k (cons_option o (filter_map g xs))
    mapped None = refl
    mapped (Some w) = refl

-- look-ups

bare_inside : (tree : Tree) → (out-Tree (without_offsets tree)).pairs ≡ bare (out-Tree tree).pairs
bare_inside tree =
    ap (λ (tree : Tree). (out-Tree tree).pairs) (without_offsets-pairs tree)
    ∙ ap (λ r. r.pairs) (out-roll-Tree (record { pairs = bare (out-Tree tree).pairs }))

pub list_in-bare : (value : Value) → list_in (bare_value value) ≡ option_map bare (list_in value)
list_in-bare (Whole word) = refl
list_in-bare (Real word) = refl
list_in-bare (Text inside) = refl
list_in-bare (Inner tree) = ap Some (bare_inside tree)

pub list_under-bare : (key : List ℕ) (pair : Pair) → list_under key (bare_pair pair) ≡ option_map bare (list_under key pair)
list_under-bare key pair = by (has_key key pair)
  where
    by : (b : Bool) → cond b (list_in (bare_value pair.value)) None ≡ option_map bare (cond b (list_in pair.value) None)
    by true = list_in-bare pair.value
    by false = refl

pub lists_under-bare : (key : List ℕ) (pairs : List Pair) → lists_under key (bare pairs) ≡ map bare (lists_under key pairs)
lists_under-bare key pairs = filter_map-map (list_under key) bare_pair bare (list_under key) (list_under-bare key) pairs

first_under-bare : (key : List ℕ) (pairs : List Pair) → first_under key (bare pairs) ≡ option_map bare_pair (first_under key pairs)
first_under-bare key [] = refl
first_under-bare key (pair ∷ pairs) =
    ap (λ (o : Option Pair). cond (has_key key pair) (Some (bare_pair pair)) o) (first_under-bare key pairs) ∙ by (has_key key pair)
  where
    by : (b : Bool) → cond b (Some (bare_pair pair)) (option_map bare_pair (first_under key pairs)) ≡ option_map bare_pair (cond b (Some pair) (first_under key pairs))
    by true = refl
    by false = refl

pub first_list-bare : (key : List ℕ) (pairs : List Pair) → first_list key (bare pairs) ≡ option_map bare (first_list key pairs)
first_list-bare key pairs = ap (option_and_then (λ (pair : Pair). list_in pair.value)) (first_under-bare key pairs) ∙ by (first_under key pairs)
  where
    by : (o : Option Pair) → option_and_then (λ (pair : Pair). list_in pair.value) (option_map bare_pair o) ≡ option_map bare (option_and_then (λ (pair : Pair). list_in pair.value) o)
    by None = refl
    by (Some pair) = list_in-bare pair.value

pub place_under-bare : (key : List ℕ) (pairs : List Pair) → place_under key (bare pairs) ≡ place_under key pairs
place_under-bare key pairs = position-map (has_key key) bare_pair pairs

-- numerals

numeral_in-bare : (value : Value) → numeral_in (bare_value value) ≡ numeral_in value
numeral_in-bare (Whole word) = refl
numeral_in-bare (Real word) = refl
numeral_in-bare (Text inside) = refl
numeral_in-bare (Inner tree) = refl

number_of-bare : (pair : Pair) → number_of (bare_pair pair) ≡ option_map bare_number (number_of pair)
number_of-bare pair = ap (option_map made) (numeral_in-bare pair.value) ∙ by (numeral_in pair.value)
  where
    made : List ℕ → Number
    made word = record { at = 0; value = thousandths_of word }

    by : (o : Option (List ℕ)) → option_map made o ≡ option_map bare_number (option_map (λ word. record { at = pair.at; value = thousandths_of word }) o)
    by None = refl
    by (Some word) = refl

number_under-bare : (key : List ℕ) (pairs : List Pair) → number_under key (bare pairs) ≡ option_map bare_number (number_under key pairs)
number_under-bare key pairs = ap (option_and_then number_of) (first_under-bare key pairs) ∙ by (first_under key pairs)
  where
    by : (o : Option Pair) → option_and_then number_of (option_map bare_pair o) ≡ option_map bare_number (option_and_then number_of o)
    by None = refl
    by (Some pair) = number_of-bare pair

numbers_in-bare : (pairs : List Pair) → numbers_in (bare pairs) ≡ bare_point (numbers_in pairs)
numbers_in-bare pairs =
    ap (λ (x : Option Number). both x (number_under (codes "y") (bare pairs))) (number_under-bare (codes "x") pairs)
    ∙ ap (both (option_map bare_number (number_under (codes "x") pairs))) (number_under-bare (codes "y") pairs)
    ∙ by (number_under (codes "x") pairs) (number_under (codes "y") pairs)
  where
    both : Option Number → Option Number → Option Numbers
    both x y = option_and_then (λ (x : Number). option_map (λ (y : Number). record { x = x; y = y }) y) x

    by : (x y : Option Number) → both (option_map bare_number x) (option_map bare_number y) ≡ bare_point (both x y)
    by None y = refl
    by (Some x) None = refl
    by (Some x) (Some y) = refl

whole_in-bare : (value : Value) → whole_in (bare_value value) ≡ whole_in value
whole_in-bare (Whole word) = refl
whole_in-bare (Real word) = refl
whole_in-bare (Text inside) = refl
whole_in-bare (Inner tree) = refl

whole_under-bare : (key : List ℕ) (pairs : List Pair) → whole_under key (bare pairs) ≡ whole_under key pairs
whole_under-bare key pairs = ap whole (first_under-bare key pairs) ∙ by (first_under key pairs)
  where
    whole : Option Pair → WholeNumber
    whole o = option_map_or (λ (pair : Pair). whole_in pair.value) o Absent

    by : (o : Option Pair) → whole (option_map bare_pair o) ≡ whole o
    by None = refl
    by (Some pair) = whole_in-bare pair.value

-- the numbers in a list that may be there
maybe_numbers-bare : (o : Option (List Pair)) → option_and_then numbers_in (option_map bare o) ≡ bare_point (option_and_then numbers_in o)
maybe_numbers-bare None = refl
maybe_numbers-bare (Some pairs) = numbers_in-bare pairs

-- nodes and edges

same_node : (id new : WholeNumber) (place at : Option Numbers) → id ≡ new → place ≡ at →
    (let node : Node = record { id = id; place = place } in node) ≡ (let node : Node = record { id = new; place = at } in node)
same_node id new place at first second = cc

same_edge : (source from target to : WholeNumber) (points others : List (Option Numbers)) → source ≡ from → target ≡ to → points ≡ others →
    (let edge : Edge = record { source = source; target = target; points = points } in edge) ≡ (let edge : Edge = record { source = from; target = to; points = others } in edge)
same_edge source from target to points others first second third = cc

written_node-bare : (pairs : List Pair) → written_node (bare pairs) ≡ bare_node (written_node pairs)
written_node-bare pairs =
    same_node (whole_under (codes "id") (bare pairs)) (whole_under (codes "id") pairs)
    (option_and_then numbers_in (first_list (codes "graphics") (bare pairs))) (bare_point (option_and_then numbers_in (first_list (codes "graphics") pairs)))
    (whole_under-bare (codes "id") pairs)
    (ap (option_and_then numbers_in) (first_list-bare (codes "graphics") pairs) ∙ maybe_numbers-bare (first_list (codes "graphics") pairs))

node_in-bare : (pair : Pair) → node_in (bare_pair pair) ≡ option_map bare_node (node_in pair)
node_in-bare pair = ap (option_map written_node) (list_under-bare (codes "node") pair) ∙ by (list_under (codes "node") pair)
  where
    by : (o : Option (List Pair)) → option_map written_node (option_map bare o) ≡ option_map bare_node (option_map written_node o)
    by None = refl
    by (Some pairs) = ap Some (written_node-bare pairs)

point_in-bare : (pair : Pair) → point_in (bare_pair pair) ≡ option_map bare_point (point_in pair)
point_in-bare pair = by (has_key (codes "point") pair)
  where
    by : (b : Bool) → cond b (Some (option_and_then numbers_in (list_in (bare_value pair.value)))) None
        ≡ option_map bare_point (cond b (Some (option_and_then numbers_in (list_in pair.value))) None)
    by true = ap Some (ap (option_and_then numbers_in) (list_in-bare pair.value) ∙ maybe_numbers-bare (list_in pair.value))
    by false = refl

line_in-bare : (pairs : List Pair) → line_in (bare pairs) ≡ option_map bare (line_in pairs)
line_in-bare pairs = ap (option_and_then (first_list (codes "Line"))) (first_list-bare (codes "graphics") pairs) ∙ by (first_list (codes "graphics") pairs)
  where
    by : (o : Option (List Pair)) → option_and_then (first_list (codes "Line")) (option_map bare o) ≡ option_map bare (option_and_then (first_list (codes "Line")) o)
    by None = refl
    by (Some list) = first_list-bare (codes "Line") list

line_pairs-bare : (pairs : List Pair) → line_pairs (bare pairs) ≡ bare (line_pairs pairs)
line_pairs-bare pairs = ap (λ (o : Option (List Pair)). unwrap_or o []) (line_in-bare pairs) ∙ by (line_in pairs)
  where
    by : (o : Option (List Pair)) → unwrap_or (option_map bare o) [] ≡ bare (unwrap_or o [])
    by None = refl
    by (Some list) = refl

edge_of-bare : (pairs : List Pair) → edge_of (bare pairs) ≡ bare_edge (edge_of pairs)
edge_of-bare pairs =
    same_edge (whole_under (codes "source") (bare pairs)) (whole_under (codes "source") pairs) (whole_under (codes "target") (bare pairs)) (whole_under (codes "target") pairs)
    (filter_map point_in (line_pairs (bare pairs))) (map bare_point (filter_map point_in (line_pairs pairs)))
    (whole_under-bare (codes "source") pairs) (whole_under-bare (codes "target") pairs)
    (ap (filter_map point_in) (line_pairs-bare pairs) ∙ filter_map-map point_in bare_pair bare_point point_in point_in-bare (line_pairs pairs))

edge_in-bare : (pair : Pair) → edge_in (bare_pair pair) ≡ option_map bare_edge (edge_in pair)
edge_in-bare pair = ap (option_map edge_of) (list_under-bare (codes "edge") pair) ∙ by (list_under (codes "edge") pair)
  where
    by : (o : Option (List Pair)) → option_map edge_of (option_map bare o) ≡ option_map bare_edge (option_map edge_of o)
    by None = refl
    by (Some pairs) = ap Some (edge_of-bare pairs)

-- the graph
pub graph_of-bare : (pairs : List Pair) → graph_of (bare pairs) ≡ bare_graph (graph_of pairs)
graph_of-bare pairs =
    let nodes : filter_map node_in (bare pairs) ≡ map bare_node (filter_map node_in pairs) = filter_map-map node_in bare_pair bare_node node_in node_in-bare pairs in
    let edges : filter_map edge_in (bare pairs) ≡ map bare_edge (filter_map edge_in pairs) = filter_map-map edge_in bare_pair bare_edge edge_in edge_in-bare pairs in
    same_graph (filter_map node_in (bare pairs)) (map bare_node (filter_map node_in pairs)) (filter_map edge_in (bare pairs)) (map bare_edge (filter_map edge_in pairs)) nodes edges
  where
    same_graph : (nodes others : List Node) (edges more : List Edge) → nodes ≡ others → edges ≡ more →
        (let graph : Graph = record { nodes = nodes; edges = edges } in graph) ≡ (let graph : Graph = record { nodes = others; edges = more } in graph)
    same_graph nodes others edges more first second = cc
