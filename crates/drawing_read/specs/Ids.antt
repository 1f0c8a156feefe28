-- The ids of nodes, and the nodes that the ends of edges name.
use Rattle.std.specs.Prelude.{ℕ, pos, ℤ, Bool, List, map, length, take, slice_index_or}
use Rattle.std.specs.Prelude.{Option, None, Some, option_and_then, unwrap_or, is_some}
use Rattle.std.specs.List.{find, position, range_with_len}
use Rattle.std.specs.Ordering.{int_eq}
use Rattle.drawing_read.specs.declared.numerals.WholeNumber.{WholeNumber}
use Rattle.drawing_read.specs.declared.numerals.WholeNumber.TheVariants.{Absent, Other}
use Rattle.drawing_read.specs.declared.numerals.WholeNumber.TheVariants.{Beyond, Fits}
use Rattle.drawing_read.specs.declared.written.Node.{Node}

-- the number itself, where it is one of 64 bits
abbrev pub fitting : WholeNumber → Option ℤ
fitting Absent = None
fitting Other = None
fitting Beyond = None
fitting (Fits number) = Some number

-- the id of a node that has one
abbrev pub id_of : Node → ℤ
id_of node = unwrap_or (fitting node.id) (pos 0)

-- the ids of the nodes, in order
abbrev pub ids_of : List Node → List ℤ
ids_of nodes = map id_of nodes

-- the number of the first node with an id
abbrev pub number_of_id : List ℤ → ℤ → Option ℕ
number_of_id ids id = position (int_eq id) ids

-- the node that an end names, where `look` tells which node has an id
abbrev pub node_with : (ℤ → Option ℕ) → WholeNumber → Option ℕ
node_with look end = option_and_then look (fitting end)

-- node n has the id of an earlier node
abbrev pub repeats_id : List ℤ → ℕ → Bool
repeats_id ids n = is_some (number_of_id (take n ids) (slice_index_or ids n (pos 0)))

-- the first node with the id of an earlier one
abbrev pub first_repeated : List ℤ → Option ℕ
first_repeated ids = find (repeats_id ids) (range_with_len 0 (length ids))
