-- A certificate while it is made: its first entries, and the branches that are to come.
use Rattle.std.specs.Prelude.{◌≡◌, ℕ, ◌+◌, ◌-◌, ◌^◌, ◌<◌, ◌≤◌, List, [], ◌∷◌, ◌++◌, length, All, Some}
use Rattle.compact_types.specs.declared.places.Key.{Key}
use Rattle.compact_types.specs.declared.places.Places.{Places}
use Rattle.compact_types.specs.declared.plan.Shape.{Shape}
use Rattle.compact_types.specs.declared.search.Choice.{Choice}
use Rattle.compact_types.specs.declared.search.Flows.{Flows}
use Rattle.compact_types.specs.Bests.Objective.{total_length}
use Rattle.compact_types.specs.Orders.{IsBefore}
use Rattle.shape_graphs.specs.declared.measure.Verdict.{Verdict}
use Rattle.shape_graphs.specs.declared.measure.Verdict.TheVariants.{Cyclic, Above, Least}
use Rattle.shape_graphs.specs.Backings.{DoBack}
use Rattle.board.specs.Boards.{BoardView, board_state, verdict_of}
use Rattle.board.specs.Facts.{AreFacts}
use Rattle.board.specs.Histories.{State, branch_count, choices_of, open_count_of}
use Rattle.cert_text.specs.declared.tree.CertNode.{CertNode}
use Rattle.cert_text.specs.declared.tree.CertNode.TheVariants.{Cycle}
use Rattle.cert_text.specs.declared.trimming.TheConstants.{MOST_SPLITS}
use Rattle.cert_text.specs.Accepting.{IsGoodEntry, opened_by}
use Rattle.cert_text.specs.Loads.{IsInRange}
use Rattle.cert_text.specs.Trims.{AreEntriesOf, bound_entry}
use Rattle.cert_text.specs.inner.Positives.{HaveFewAmounts}

-- the verdict has a least key that comes before the incumbent
abbrev pub ComesFirst : Key → Verdict Flows → Type 0
ComesFirst incumbent (Cyclic axis cycle) = ⊥
ComesFirst incumbent (Above bound stop proof) = ⊥
ComesFirst incumbent (Least key proof) = IsBefore key incumbent

-- the verdict that settled the branch has such a key
abbrev pub HasFirstKey : BoardView Flows → ℕ → Type 0
HasFirstKey board id =
    (verdict : Verdict Flows) → verdict_of board id ≡ Some verdict →
    ComesFirst board.incumbent verdict

-- the key of the verdict has as many points as the incumbent
abbrev pub HasPointsOf : Key → Verdict Flows → Type 0
HasPointsOf incumbent (Cyclic axis cycle) = Unit {0}
HasPointsOf incumbent (Above bound stop proof) = Unit {0}
HasPointsOf incumbent (Least key proof) = length key.places.xy ≡ length incumbent.places.xy

-- the flows of the verdict have at most as many amounts as a graph has arcs
abbrev pub HasFewAmounts : Verdict Flows → Type 0
HasFewAmounts (Cyclic axis cycle) = Unit {0}
HasFewAmounts (Above bound stop proof) = HaveFewAmounts proof
HasFewAmounts (Least key proof) = HaveFewAmounts proof

-- the entry that closes a branch with this verdict: its cycle, or the bound of its flows
abbrev pub closing_of : Verdict Flows → CertNode
closing_of (Cyclic axis cycle) = Cycle axis cycle.arcs
closing_of (Above bound stop proof) = bound_entry proof
closing_of (Least key proof) = bound_entry proof

-- the entry is good for the choices, its numbers are within the limits, and the choices are few
pub record IsRightEntry
    (shape : Shape) (choices : List Choice) (places : Places) (node : CertNode) : Type 0 where
  pub good : IsGoodEntry shape choices places node
  pub in_range : IsInRange node
  pub few : length choices ≤ MOST_SPLITS

-- each entry is right for its choices, and the entries are used up exactly, where branches with
-- these choices are to come, the next one first
abbrev pub AreRight : Shape → Places → List (List Choice) → List CertNode → Type 0
AreRight shape places [] [] = Unit {0}
AreRight shape places [] (node ∷ nodes) = ⊥
AreRight shape places (choices ∷ branches) [] = ⊥
AreRight shape places (choices ∷ branches) (node ∷ nodes) =
    IsRightEntry shape choices places node
    × AreRight shape places (opened_by node choices ++ branches) nodes

-- the choices of the branches that are to come: those of a stack of branches, the last one first,
-- and then later ones
abbrev pub to_come : State → List ℕ → List (List Choice) → List (List Choice)
to_come state [] later = later
to_come state (id ∷ ids) later = to_come state ids (choices_of state id ∷ later)

-- the branches that are to come: those of a stack, the last one first, and then later ones
abbrev pub ids_to_come : List ℕ → List ℕ → List ℕ
ids_to_come [] later = later
ids_to_come (id ∷ ids) later = ids_to_come ids (id ∷ later)

-- The entries begin the certificate for the board's incumbent, and the stack has the branches that
-- are to come: with right entries for these the certificate is right, and with their entries it has
-- those of all branches.
pub record BeginsCertificate (board : BoardView Flows) (nodes : List CertNode) (waiting : List ℕ) :
    Type 0 where
  pub facts : AreFacts total_length DoBack board
  pub none_open : open_count_of (board_state board) ≡ 0
  pub inside : All (λ id. id < branch_count (board_state board)) waiting
  pub goes_on : (rest : List CertNode) →
      AreRight board.shape board.incumbent.places (to_come (board_state board) waiting []) rest →
      AreRight board.shape board.incumbent.places ([] ∷ []) (nodes ++ rest)
  pub entries_go_on : (rest : List CertNode) →
      AreEntriesOf board (ids_to_come waiting []) rest → AreEntriesOf board (0 ∷ []) (nodes ++ rest)

-- how much is left to do for some of so many branches, where a branch was split into four with
-- greater numbers
abbrev pub work_waiting : ℕ → List ℕ → ℕ
work_waiting count [] = 0
work_waiting count (id ∷ ids) = 5 ^ (count - id) + work_waiting count ids

-- the certificate is begun, and less is left to do than for another stack
pub record IsFurther (board : BoardView Flows) (nodes : List CertNode) (waiting before : List ℕ) :
    Type 0 where
  pub begun : BeginsCertificate board nodes waiting
  pub less : work_waiting (branch_count (board_state board)) waiting
      < work_waiting (branch_count (board_state board)) before
