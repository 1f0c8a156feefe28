-- Which entry of the certificate each branch of a finished search has.
use Rattle.std.specs.Prelude.{◌≡◌, ℕ, zero, suc, ◌+◌, List, [], ◌∷◌, ◌++◌, Some}
use Rattle.compact_types.specs.declared.places.Key.{Key}
use Rattle.compact_types.specs.declared.search.Flows.{Flows}
use Rattle.compact_types.specs.Orders.{IsBefore}
use Rattle.shape_graphs.specs.declared.measure.Verdict.{Verdict}
use Rattle.shape_graphs.specs.declared.measure.Verdict.TheVariants.{Cyclic, Above, Least}
use Rattle.separation.specs.Branching.{IsBranchPair}
use Rattle.board.specs.declared.entries.Settled.TheVariants as settled
use Rattle.board.specs.declared.standings.Standing.TheVariants.{Done}
use Rattle.board.specs.Boards.{BoardView, board_state, verdict_of}
use Rattle.board.specs.Histories.{choices_of, standing_of}
use Rattle.cert_text.specs.declared.tree.CertNode.{CertNode}
use Rattle.cert_text.specs.declared.tree.CertNode.TheVariants.{Split, Bound, Cycle}
use Rattle.cert_text.specs.declared.tree.Load.{Load}

-- the load of an arc: none where its amount is 0
abbrev pub load_of : ℕ → ℕ → List Load
load_of arc zero = []
load_of arc (suc amount) = record { arc = arc; amount = suc amount } ∷ []

-- the loads of these amounts, of which the first is that of the arc
abbrev pub loads_from : ℕ → List ℕ → List Load
loads_from arc [] = []
loads_from arc (amount ∷ amounts) = load_of arc amount ++ loads_from (suc arc) amounts

-- the bound of two flows: their positive amounts, by rising arcs
abbrev pub bound_entry : Flows → CertNode
bound_entry flows = Bound (loads_from 0 flows.x.amounts) (loads_from 0 flows.y.amounts)

-- The entry closes a branch with this verdict: it is the cycle, or the bound of the flows, and a
-- least key does not come before the incumbent.
abbrev pub Closes : Key → Verdict Flows → CertNode → Type 0
Closes incumbent (Cyclic axis cycle) node = node ≡ Cycle axis cycle.arcs
Closes incumbent (Above bound stop proof) node = node ≡ bound_entry proof
Closes incumbent (Least key proof) node =
    (IsBefore key incumbent → ⊥) × (node ≡ bound_entry proof)

-- the entry closes the branch, by the verdict that settled it, whether or not it was split
pub record IsClosing (board : BoardView Flows) (id : ℕ) (node : CertNode) : Type 0 where
  pub verdict : Verdict Flows
  pub kept : verdict_of board id ≡ Some verdict
  pub closes : Closes board.incumbent verdict node

-- the branch was split at the pair into four branches from the number `first` on, and its least
-- key comes before the incumbent; the pair is the branch pair at the places of that key
pub record IsSplitStill (board : BoardView Flows) (id first s t : ℕ) : Type 0 where
  pub split : standing_of (board_state board) id ≡ Done (settled.Split first s t)
  pub key : Key
  pub proof : Flows
  pub kept : verdict_of board id ≡ Some (Least key proof)
  pub before : IsBefore key board.incumbent
  pub pair : IsBranchPair board.shape (choices_of (board_state board) id) key.places s t

-- The entries are those of these branches, the next one first, each with the branches under it. A
-- branch that was split, and whose least key comes before the incumbent, is a split, and its four
-- branches follow. Any other branch is closed, and no branch under it has an entry.
abbrev pub AreEntriesOf : BoardView Flows → List ℕ → List CertNode → Type 0
AreEntriesOf board [] [] = Unit {0}
AreEntriesOf board [] (node ∷ nodes) = ⊥
AreEntriesOf board (id ∷ ids) [] = ⊥
AreEntriesOf board (id ∷ ids) (Split s t ∷ nodes) =
    (first : ℕ) × (IsSplitStill board id first s t
    × AreEntriesOf board (first ∷ (first + 1) ∷ (first + 2) ∷ (first + 3) ∷ ids) nodes)
AreEntriesOf board (id ∷ ids) (Bound x y ∷ nodes) =
    IsClosing board id (Bound x y) × AreEntriesOf board ids nodes
AreEntriesOf board (id ∷ ids) (Cycle axis arcs ∷ nodes) =
    IsClosing board id (Cycle axis arcs) × AreEntriesOf board ids nodes
