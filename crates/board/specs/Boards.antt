-- What a board shows, and the tables of its answers.
use Rattle.std.specs.Prelude.{◌≡◌, ◌⊎◌, ℕ, ◌+◌, ◌≤◌, List, [], ◌∷◌, ◌++◌, slice_index_or, slice_set, Option, None, Some}
use Rattle.compact_types.specs.declared.places.Key.{Key}
use Rattle.compact_types.specs.declared.plan.Shape.{Shape}
use Rattle.compact_types.specs.declared.search.Branch.{Branch}
use Rattle.compact_types.specs.Orders.{IsBefore}
use Rattle.shape_graphs.specs.declared.measure.Verdict.{Verdict}
use Rattle.shape_graphs.specs.declared.measure.Verdict.TheVariants.{Cyclic, Above, Least}
use Rattle.board.specs.declared.entries.Claim.{Claim}
use Rattle.board.specs.declared.entries.Claim.TheVariants.{Yours, Taken, Stranger}
use Rattle.board.specs.declared.entries.Entry.{Entry}
use Rattle.board.specs.declared.entries.Entry.TheVariants as entries
use Rattle.board.specs.declared.entries.Settled.{Settled}
use Rattle.board.specs.declared.entries.Settled.TheVariants.{Split, Closed, Improved}
use Rattle.board.specs.Histories.{State, state_of, IsWaiting, IsKnown, choices_of, branch_count}

-- the shape that is compacted, the history, how many caller numbers were given, the first key so
-- far, and for each branch by its number the verdict that settled it
pub record BoardView (P : Type 0) : Type 0 where
  pub shape : Shape
  pub entries : List Entry
  pub given : ℕ
  pub incumbent : Key
  pub verdicts : List (Option (Verdict P))

-- what stands on the board
abbrev pub board_state : {P : Type 0} → BoardView P → State
board_state board = state_of board.entries

-- the verdict that settled a branch
abbrev pub verdict_of : {P : Type 0} → BoardView P → ℕ → Option (Verdict P)
verdict_of board id = slice_index_or board.verdicts id None

-- the number was given to a caller
pub record IsCaller (given who : ℕ) : Type 0 where
  pub positive : 1 ≤ who
  pub known : who ≤ given

-- a new board for a shape: one branch waits, and the key is the first so far
abbrev pub opened_board : {P : Type 0} → Shape → Key → BoardView P
opened_board shape key = record {
  shape = shape;
  entries = [];
  given = 0;
  incumbent = key;
  verdicts = None ∷ [];
}

-- the board with one more caller
abbrev pub enlisted : {P : Type 0} → BoardView P → BoardView P
enlisted board = record board { given = board.given + 1 }

-- the board after the caller has claimed the branch
abbrev pub after_claim : {P : Type 0} → BoardView P → ℕ → ℕ → BoardView P
after_claim board who id =
    record board { entries = board.entries ++ entries.Claimed who id ∷ [] }

-- The table of a claim: a stranger exactly if there is no branch of the number with the
-- choices; taken exactly if there is one that does not wait; and else the caller's.
abbrev pub IsClaimAnswer : {P : Type 0} → BoardView P → ℕ → Branch → Claim → BoardView P → Type 0
IsClaimAnswer old who branch Stranger new = (IsKnown (board_state old) branch → ⊥) × (new ≡ old)
IsClaimAnswer old who branch Taken new =
    IsKnown (board_state old) branch × (IsWaiting (board_state old) branch.id → ⊥) × (new ≡ old)
IsClaimAnswer old who branch Yours new =
    IsKnown (board_state old) branch × IsWaiting (board_state old) branch.id
    × (new ≡ after_claim old who branch.id)

-- a key that comes before the incumbent has one outcome, and a key that does not is closed
abbrev pub IsByOrder : Key → Key → Settled → Settled → Type 0
IsByOrder key incumbent before what =
    (IsBefore key incumbent × (what ≡ before)) ⊎ ((IsBefore key incumbent → ⊥) × (what ≡ Closed))

-- what a least key leads to: a drawing improves the incumbent, and else the branch is split at the
-- pair, with children from the number `first`
abbrev pub outcome_before : ℕ → Option (ℕ × ℕ) → Settled
outcome_before first None = Improved
outcome_before first (Some (s, t)) = Split first s t

-- The table of a settle: a cycle or a bound closes the branch; a least key before the incumbent
-- improves it or splits the branch; another least key closes it.
abbrev pub IsOutcome : {P : Type 0} → BoardView P → Verdict P → Option (ℕ × ℕ) → Settled → Type 0
IsOutcome board (Cyclic axis cycle) pair what = what ≡ Closed
IsOutcome board (Above bound stop proof) pair what = what ≡ Closed
IsOutcome board (Least key proof) pair what =
    IsByOrder key board.incumbent (outcome_before (branch_count (board_state board)) pair) what

-- the incumbent after this outcome: an improvement alone changes it
abbrev pub incumbent_after : {P : Type 0} → Key → Verdict P → Settled → Key
incumbent_after incumbent (Cyclic axis cycle) what = incumbent
incumbent_after incumbent (Above bound stop proof) what = incumbent
incumbent_after incumbent (Least key proof) (Split first s t) = incumbent
incumbent_after incumbent (Least key proof) Closed = incumbent
incumbent_after incumbent (Least key proof) Improved = key

-- the branches that were opened have no verdict yet
abbrev pub verdicts_opened : {P : Type 0} → Settled → List (Option (Verdict P))
verdicts_opened (Split first s t) = None ∷ None ∷ None ∷ None ∷ []
verdicts_opened Closed = []
verdicts_opened Improved = []

-- the board after the caller has settled the branch by the verdict, with this outcome
abbrev pub after_settle : {P : Type 0} → BoardView P → ℕ → ℕ → Verdict P → Settled → BoardView P
after_settle board who id verdict what = record {
  shape = board.shape;
  entries = board.entries ++ entries.Settled who id what ∷ [];
  given = board.given;
  incumbent = incumbent_after board.incumbent verdict what;
  verdicts = slice_set board.verdicts id (Some verdict) ++ verdicts_opened what;
}

-- the branch waits, its choices are these, and no branch with a greater number waits
pub record IsLatestWaiting (state : State) (branch : Branch) : Type 0 where
  pub waits : IsWaiting state branch.id
  pub choices : branch.choices.choices ≡ choices_of state branch.id
  pub latest : (id : ℕ) → IsWaiting state id → id ≤ branch.id

-- no branch waits
abbrev pub NoneWaits : State → Type 0
NoneWaits state = (id : ℕ) → IsWaiting state id → ⊥
