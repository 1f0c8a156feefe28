-- Flows on a graph: amounts on its arcs that bound the length of every solution from below.
use Rattle.std.specs.Prelude.{◌≡◌, ℕ, ◌<◌, ◌≤◌, pos, ℤ, ◌-ℤ◌, ◌*ℤ◌, ◌≤ℤ◌, List, length, slice_index_or, ◌==◌, if◌then◌else◌}
use Rattle.compact_types.specs.Sums.{sum_to}
use Rattle.shape_graphs.specs.declared.graph.Arc.{Arc}
use Rattle.shape_graphs.specs.declared.graph.TheConstants.{MOST_AMOUNT}
use Rattle.shape_graphs.specs.Arcs.{arc_at}

-- the amount on an arc
abbrev pub amount_at : List ℕ → ℕ → ℕ
amount_at amounts i = slice_index_or amounts i 0

-- one amount for each arc, and none above the most
pub record IsFlowOn (arcs : List Arc) (amounts : List ℕ) : Type 0 where
  pub one_for_each : length amounts ≡ length arcs
  pub most : (i : ℕ) → i < length arcs → amount_at amounts i ≤ MOST_AMOUNT

-- a number where the two nodes are one, else 0
abbrev pub at_node : ℕ → ℕ → ℤ → ℤ
at_node a b z = if a == b then z else pos 0

-- what comes in at a node minus what goes out, where each arc carries a number
abbrev pub net : List Arc → (ℕ → ℤ) → ℕ → ℤ
net arcs carried node =
    sum_to (λ i. at_node (arc_at arcs i).to node (carried i) -ℤ at_node (arc_at arcs i).from node (carried i))
    (length arcs)

-- at the node the amounts balance as the pulls do
abbrev pub BalancesAt : List Arc → List ℕ → ℕ → Type 0
BalancesAt arcs amounts node =
    net arcs (λ i. pos (amount_at amounts i)) node ≡ net arcs (λ i. (arc_at arcs i).pull) node

-- one amount for each arc, and at every node of so many the amounts balance as the pulls do
pub record Balances (nodes : ℕ) (arcs : List Arc) (amounts : List ℕ) : Type 0 where
  pub one_for_each : length amounts ≡ length arcs
  pub each : (node : ℕ) → node < nodes → BalancesAt arcs amounts node

-- the bound of a flow: the sum over the arcs of amount times least
abbrev pub bound_of : List Arc → List ℕ → ℤ
bound_of arcs amounts = sum_to (λ i. pos (amount_at amounts i) *ℤ (arc_at arcs i).least) (length arcs)

-- no balanced flow has a greater bound
pub record IsBestFlow (nodes : ℕ) (arcs : List Arc) (amounts : List ℕ) : Type 0 where
  pub balanced : Balances nodes arcs amounts
  pub best : (others : List ℕ) → Balances nodes arcs others → bound_of arcs others ≤ℤ bound_of arcs amounts

-- the number of a node
abbrev pub number_at : List ℤ → ℕ → ℤ
number_at numbers node = slice_index_or numbers node (pos 0)

-- the difference of numbers on the nodes over arc i
abbrev pub over : List Arc → (ℕ → ℤ) → ℕ → ℤ
over arcs numbers i = numbers (arc_at arcs i).to -ℤ numbers (arc_at arcs i).from

-- the numbers solve the graph: over each arc the difference is at least its least
abbrev pub IsSolution : List Arc → (ℕ → ℤ) → Type 0
IsSolution arcs numbers = (i : ℕ) → i < length arcs → (arc_at arcs i).least ≤ℤ over arcs numbers i

-- the numbers are tight for a flow: over each arc with a positive amount the difference is its
-- least
abbrev pub IsTight : List Arc → List ℕ → (ℕ → ℤ) → Type 0
IsTight arcs amounts numbers =
    (i : ℕ) → i < length arcs → 0 < amount_at amounts i → over arcs numbers i ≡ (arc_at arcs i).least

-- the length of numbers on the nodes: each arc counts with its pull
abbrev pub length_over : List Arc → (ℕ → ℤ) → ℤ
length_over arcs numbers = sum_to (λ i. (arc_at arcs i).pull *ℤ over arcs numbers i) (length arcs)
