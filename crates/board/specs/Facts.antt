-- The facts of a board that hold at all times.
use Rattle.std.specs.Prelude.{◌≡◌, ◌⊎◌, ℕ, ◌<◌, ℤ, ◌≤ℤ◌, List, length, All, None, Some}
use Rattle.compact_types.specs.declared.places.Key.{Key}
use Rattle.compact_types.specs.declared.places.Places.{Places}
use Rattle.compact_types.specs.declared.plan.Shape.{Shape}
use Rattle.compact_types.specs.declared.search.Choice.{Choice}
use Rattle.compact_types.specs.Bests.{Objective, worth_of, key_of}
use Rattle.compact_types.specs.Drawings.{IsDrawing, IsFromZero}
use Rattle.compact_types.specs.Orders.{IsBefore}
use Rattle.bars.specs.Solutions.{IsSound, Fit, Solves, choice_at}
use Rattle.shape_graphs.specs.declared.measure.Verdict.{Verdict}
use Rattle.shape_graphs.specs.declared.measure.Verdict.TheVariants.{Cyclic, Above, Least}
use Rattle.separation.specs.Branching.{IsBranchPair}
use Rattle.board.specs.declared.entries.Entry.{Entry}
use Rattle.board.specs.declared.entries.Settled.{Settled}
use Rattle.board.specs.declared.entries.Settled.TheVariants.{Split, Closed, Improved}
use Rattle.board.specs.declared.standings.Standing.{Standing}
use Rattle.board.specs.declared.standings.Standing.TheVariants.{Waiting, Held, Done}
use Rattle.board.specs.Histories.{State, choices_of, standing_of, branch_count, IsOpen, IsLegal, caller_of}
use Rattle.board.specs.Boards.{BoardView, board_state, verdict_of, IsCaller}
use Rattle.board.specs.Verdicts.{IsSoundVerdict}

-- every entry is one of a caller whose number was given
abbrev pub AreByCallers : ℕ → List Entry → Type 0
AreByCallers given history = All (λ entry. IsCaller given (caller_of entry)) history

-- no two of the choices are on one pair
abbrev pub AreOnDifferentPairs : List Choice → Type 0
AreOnDifferentPairs choices =
    (i j : ℕ) → i < length choices → j < length choices →
    (choice_at choices i).s ≡ (choice_at choices j).s →
    (choice_at choices i).t ≡ (choice_at choices j).t → i ≡ j

-- the choices fit the shape, and are on different pairs
pub record AreSound (shape : Shape) (choices : List Choice) : Type 0 where
  pub fit : Fit shape choices
  pub different : AreOnDifferentPairs choices

-- the key is that of a drawing from zero
pub record IsDrawnKey (objective : Objective) (shape : Shape) (key : Key) : Type 0 where
  pub drawing : IsDrawing shape key.places
  pub from_zero : IsFromZero key.places
  pub worth : key.worth ≡ worth_of objective shape key.places

-- no drawing is worth less
abbrev pub IsNotUndercut : Objective → Shape → ℤ → Type 0
IsNotUndercut objective shape worth =
    (places : Places) → IsDrawing shape places → worth ≤ℤ (worth_of objective shape places)

-- the places solve the choices of an open branch
pub record AreInOpenBranch (shape : Shape) (state : State) (places : Places) : Type 0 where
  pub id : ℕ
  pub open_branch : IsOpen state id
  pub solves : Solves shape (choices_of state id) places

-- every drawing from zero that comes before the incumbent, and whose worth no drawing undercuts,
-- solves the choices of an open branch
abbrev pub IsCovered : Objective → Shape → State → Key → Type 0
IsCovered objective shape state incumbent =
    (places : Places) → IsDrawing shape places → IsFromZero places →
    IsBefore (key_of objective shape places) incumbent →
    IsNotUndercut objective shape (worth_of objective shape places) →
    AreInOpenBranch shape state places

-- the outcome is a split
abbrev pub IsSplit : Settled → Type 0
IsSplit (Split first s t) = Unit {0}
IsSplit Closed = ⊥
IsSplit Improved = ⊥

-- the verdict leads to the outcome: a cycle and a bound close the branch, and a least key does not
-- come before the incumbent unless the branch was split
abbrev pub LeadsTo : {P : Type 0} → Key → Verdict P → Settled → Type 0
LeadsTo incumbent (Cyclic axis cycle) what = what ≡ Closed
LeadsTo incumbent (Above bound stop proof) what = what ≡ Closed
LeadsTo incumbent (Least key proof) what = IsSplit what ⊎ (IsBefore key incumbent → ⊥)

-- the verdict is a least key, and the pair is the branch pair at its places
abbrev pub HasBranchPair : {P : Type 0} → Shape → List Choice → Verdict P → ℕ → ℕ → Type 0
HasBranchPair shape choices (Cyclic axis cycle) s t = ⊥
HasBranchPair shape choices (Above bound stop proof) s t = ⊥
HasBranchPair shape choices (Least key proof) s t = IsBranchPair shape choices key.places s t

-- if the outcome is a split, the verdict has its pair as the branch pair
abbrev pub SplitsAtBranchPair : {P : Type 0} → Shape → List Choice → Verdict P → Settled → Type 0
SplitsAtBranchPair shape choices verdict (Split first s t) =
    HasBranchPair shape choices verdict s t
SplitsAtBranchPair shape choices verdict Closed = Unit {0}
SplitsAtBranchPair shape choices verdict Improved = Unit {0}

-- the board keeps the verdict that settled the branch with this outcome: it is sound for the
-- choices of the branch, leads to the outcome, and gives the pair of a split
pub record IsSettledBy {P : Type 0} (objective : Objective)
    (Backs : Shape → List Choice → P → Verdict P → Type 0)
    (board : BoardView P) (id : ℕ) (what : Settled) : Type 0 where
  pub verdict : Verdict P
  pub kept : verdict_of board id ≡ Some verdict
  pub sound : IsSoundVerdict objective Backs board.shape (choices_of (board_state board) id) verdict
  pub leads : LeadsTo board.incumbent verdict what
  pub splits : SplitsAtBranchPair board.shape (choices_of (board_state board) id) verdict what

-- what the board keeps of a branch that stands so: its verdict where it is settled, and else none
abbrev pub IsKeptAt : {P : Type 0} → Objective →
    (Shape → List Choice → P → Verdict P → Type 0) → BoardView P → ℕ → Standing → Type 0
IsKeptAt objective Backs board id Waiting = verdict_of board id ≡ None
IsKeptAt objective Backs board id (Held who) = verdict_of board id ≡ None
IsKeptAt objective Backs board id (Done what) = IsSettledBy objective Backs board id what

-- a place for the verdict of each branch, and in it the verdict that settled the branch
pub record AreVerdictsKept {P : Type 0} (objective : Objective)
    (Backs : Shape → List Choice → P → Verdict P → Type 0) (board : BoardView P) : Type 0 where
  pub places : length board.verdicts ≡ branch_count (board_state board)
  pub each : (id : ℕ) → id < branch_count (board_state board) →
      IsKeptAt objective Backs board id (standing_of (board_state board) id)

-- What is true of a board at all times: its entries are a legal history by callers whose numbers
-- were given; the choices of each branch fit the shape and are on different pairs; the incumbent is
-- the key of a drawing from zero; every drawing that may still improve it is in an open branch; and
-- each settled branch has its verdict.
pub record AreFacts {P : Type 0} (objective : Objective)
    (Backs : Shape → List Choice → P → Verdict P → Type 0) (board : BoardView P) : Type 0 where
  pub shape : IsSound board.shape
  pub legal : IsLegal board.entries
  pub callers : AreByCallers board.given board.entries
  pub choices : (id : ℕ) → id < branch_count (board_state board) →
      AreSound board.shape (choices_of (board_state board) id)
  pub incumbent : IsDrawnKey objective board.shape board.incumbent
  pub covered : IsCovered objective board.shape (board_state board) board.incumbent
  pub kept : AreVerdictsKept objective Backs board
