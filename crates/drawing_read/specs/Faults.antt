-- Why a tree is no drawing: the first fault, in the order in which they are looked for.
use Rattle.std.specs.Prelude.{◌≡◌, ℕ, ◌+◌, ℤ, Bool, true, false, ◌||◌}
use Rattle.std.specs.Prelude.{List, [], ◌∷◌, ◌++◌, length, Option, None, Some, Result, Ok, Err}
use Rattle.std.specs.Prelude.{if◌then◌else◌, nat_lt, is_none, codes}
use Rattle.std.specs.List.{position, filter_map, flat_map, reduce}
use Rattle.std.specs.Option.{option_map, option_or}
use Rattle.compact_types.specs.declared.limits.TheConstants.{MOST_VERTICES}
use Rattle.gml_text.specs.declared.number.NumberFault.{NumberFault}
use Rattle.gml_text.specs.declared.tree.Tree.{Tree, out-Tree}
use Rattle.gml_text.specs.declared.tree.Pair.{Pair}
use Rattle.drawing_read.specs.declared.fault.DrawFault.{DrawFault}
use Rattle.drawing_read.specs.declared.fault.DrawFault.TheVariants as kinds
use Rattle.drawing_read.specs.declared.limits.TheConstants.{MOST_PIECES_READ}
use Rattle.drawing_read.specs.declared.numerals.Number.{Number}
use Rattle.drawing_read.specs.declared.numerals.Numbers.{Numbers}
use Rattle.drawing_read.specs.declared.numerals.WholeNumber.{WholeNumber}
use Rattle.drawing_read.specs.declared.numerals.WholeNumber.TheVariants.{Absent, Other}
use Rattle.drawing_read.specs.declared.numerals.WholeNumber.TheVariants.{Beyond, Fits}
use Rattle.drawing_read.specs.declared.written.Node.{Node}
use Rattle.drawing_read.specs.declared.written.Edge.{Edge}
use Rattle.drawing_read.specs.declared.written.Graph.{Graph}
use Rattle.drawing_read.specs.declared.refused.RefusedNumber.{RefusedNumber}
use Rattle.drawing_read.specs.Lookups.{lists_under}
use Rattle.drawing_read.specs.Written.{graph_of}
use Rattle.drawing_read.specs.Ids.{ids_of, number_of_id, node_with, first_repeated}
use Rattle.drawing_read.specs.Spans.{points_in, pieces_in}

-- it is not there
abbrev pub is_absent : WholeNumber → Bool
is_absent Absent = true
is_absent Other = false
is_absent Beyond = false
is_absent (Fits number) = false

-- it is there, and is no whole numeral of 64 bits
abbrev pub is_unfit : WholeNumber → Bool
is_unfit Absent = false
is_unfit Other = true
is_unfit Beyond = true
is_unfit (Fits number) = false

-- there is no whole numeral
abbrev pub is_no_numeral : WholeNumber → Bool
is_no_numeral Absent = true
is_no_numeral Other = true
is_no_numeral Beyond = false
is_no_numeral (Fits number) = false

-- the x and the y, where there are both
abbrev pub both_numbers : Option Numbers → List Number
both_numbers None = []
both_numbers (Some numbers) = numbers.x ∷ numbers.y ∷ []

-- the numbers of the nodes' places, and of the points that have both
abbrev pub numbers_in_graph : Graph → List Number
numbers_in_graph graph =
    flat_map (λ node. both_numbers node.place) graph.nodes
    ++ flat_map (λ edge. flat_map both_numbers edge.points) graph.edges

-- where a refused number stands, and why it is refused
abbrev pub refused_in : Number → Option RefusedNumber
refused_in number = refused_by number.value
  where
    refused_by : Result ℤ NumberFault → Option RefusedNumber
    refused_by (Ok value) = None
    refused_by (Err cause) = Some (record { at = number.at; cause = cause })

-- the one of two that stands first
abbrev pub earlier : RefusedNumber → RefusedNumber → RefusedNumber
earlier a b = if nat_lt b.at a.at then b else a

-- of the refused numbers the one with the least offset
abbrev pub first_refused : List Number → Option RefusedNumber
first_refused numbers = reduce earlier (filter_map refused_in numbers)

-- an end of the edge is no whole numeral
abbrev pub lacks_end : Edge → Bool
lacks_end edge = is_no_numeral edge.source || is_no_numeral edge.target

-- an end of the edge is no node's id, where `look` tells which node has an id
abbrev pub has_unknown_end : (ℤ → Option ℕ) → Edge → Bool
has_unknown_end look edge =
    is_none (node_with look edge.source) || is_none (node_with look edge.target)

-- the first bad point of the edges, which are numbered from e on
abbrev pub bad_point_from : ℕ → List Edge → Option DrawFault
bad_point_from e [] = None
bad_point_from e (edge ∷ edges) =
    option_or (option_map (λ p. kinds.BadPoint e p) (position is_none edge.points))
    (bad_point_from (e + 1) edges)

-- the count, where it is above the most
abbrev pub too_many : ℕ → ℕ → Option ℕ
too_many most count = if nat_lt most count then Some count else None

-- a graph needs a node
abbrev pub empty_fault : List Node → Option DrawFault
empty_fault nodes = if nat_lt 0 (length nodes) then None else Some kinds.Empty

-- what may be wrong with a graph, in the order in which it is looked for
abbrev pub faults_in : Graph → List (Option DrawFault)
faults_in graph =
    empty_fault graph.nodes
    ∷ option_map (λ n. kinds.NoId n) (position (λ node. is_absent node.id) graph.nodes)
    ∷ option_map (λ n. kinds.BadId n) (position (λ node. is_unfit node.id) graph.nodes)
    ∷ option_map (λ n. kinds.RepeatedId n) (first_repeated (ids_of graph.nodes))
    ∷ option_map (λ n. kinds.NoPlace n) (position (λ node. is_none node.place) graph.nodes)
    ∷ option_map (λ number. kinds.BadNumber number.at number.cause)
    (first_refused (numbers_in_graph graph))
    ∷ option_map (λ e. kinds.NoEnd e) (position lacks_end graph.edges)
    ∷ option_map (λ e. kinds.UnknownEnd e)
    (position (has_unknown_end (number_of_id (ids_of graph.nodes))) graph.edges)
    ∷ bad_point_from 0 graph.edges
    ∷ option_map (λ c. kinds.TooManyVertices c) (too_many MOST_VERTICES (length (points_in graph)))
    ∷ option_map (λ c. kinds.TooManyPieces c)
    (too_many MOST_PIECES_READ (length (pieces_in graph)))
    ∷ []

-- of some faults that may be there the first that is
abbrev pub first_that_is : List (Option DrawFault) → Option DrawFault
first_that_is [] = None
first_that_is (fault ∷ faults) = option_or fault (first_that_is faults)

-- the first fault of what is written in a graph
abbrev pub graph_fault : Graph → Option DrawFault
graph_fault graph = first_that_is (faults_in graph)

-- the first fault where these are the graphs at the top
abbrev pub fault_of : List (List Pair) → Option DrawFault
fault_of [] = Some kinds.NoGraph
fault_of (graph ∷ []) = graph_fault (graph_of graph)
fault_of (graph ∷ other ∷ graphs) = Some kinds.TwoGraphs

-- the graphs of a tree: the lists at the top under the key `graph`
abbrev pub graphs_of : Tree → List (List Pair)
graphs_of tree = lists_under (codes "graph") (out-Tree tree).pairs

-- the tree is no drawing, and this is its first fault
abbrev pub FirstDrawFault : Tree → DrawFault → Type 0
FirstDrawFault tree fault = fault_of (graphs_of tree) ≡ Some fault
