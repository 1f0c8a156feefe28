-- Surpluses of nodes: what comes in by the amounts of a flow, above what comes in by the pulls.
use Rattle.std.specs.Prelude.{◌≡◌, ℕ, ◌+◌, ◌<◌, pos, ℤ, ◌-ℤ◌, List, length}
use Rattle.compact_types.specs.Magnitudes.{IsWithin}
use Rattle.shape_graphs.specs.declared.graph.Arc.{Arc}
use Rattle.shape_graphs.specs.Arcs.{arc_at}
use Rattle.shape_graphs.specs.Flows.{at_node, amount_at, net, BalancesAt}
use Rattle.shape_graphs.specs.Flows.{number_at}

-- what an arc brings in at the node, where it carries a number
abbrev pub brought : Arc → ℤ → ℕ → ℤ
brought arc carried node = at_node arc.to node carried -ℤ at_node arc.from node carried

-- the surplus of the node
abbrev pub surplus : List Arc → List ℕ → ℕ → ℤ
surplus arcs amounts node =
    net arcs (λ i. pos (amount_at amounts i)) node -ℤ net arcs (λ i. (arc_at arcs i).pull) node

-- the sums are the surpluses of the nodes from the first on
abbrev pub AreSurpluses : List Arc → List ℕ → ℕ → List ℤ → Type 0
AreSurpluses arcs amounts first sums =
    (k : ℕ) → k < length sums → number_at sums k ≡ surplus arcs amounts (first + k)

-- of so many nodes, those below the limit balance
abbrev pub BalanceBelow : ℕ → ℕ → List Arc → List ℕ → Type 0
BalanceBelow limit nodes arcs amounts =
    (node : ℕ) → node < limit → node < nodes → BalancesAt arcs amounts node

-- no number is above the limit in magnitude
abbrev pub NumbersAreWithin : ℕ → List ℤ → Type 0
NumbersAreWithin limit numbers = (k : ℕ) → k < length numbers → IsWithin limit (number_at numbers k)

-- all numbers are 0
abbrev pub AreNothing : List ℤ → Type 0
AreNothing numbers = (k : ℕ) → k < length numbers → number_at numbers k ≡ pos 0

-- the place is the first with a number other than 0
pub record IsFirstSome (numbers : List ℤ) (place : ℕ) : Type 0 where
  pub inside : place < length numbers
  pub some : number_at numbers place ≡ pos 0 → ⊥
  pub first : (before : ℕ) → before < place → number_at numbers before ≡ pos 0
