-- What a board keeps beside what it shows.
use Rattle.std.specs.Prelude.{◌≡◌, ℕ, ◌≤◌, List, length, count_by, sum_by, Option}
use Rattle.compact_types.specs.declared.plan.Shape.{Shape}
use Rattle.compact_types.specs.declared.search.Choice.{Choice}
use Rattle.compact_types.specs.Bests.{Objective}
use Rattle.shape_graphs.specs.declared.measure.Verdict.{Verdict}
use Rattle.shape_graphs.specs.declared.measure.Verdict.TheVariants.{Cyclic, Above, Least}
use Rattle.board.specs.declared.entries.Settled.{Settled}
use Rattle.board.specs.declared.entries.Settled.TheVariants.{Split, Closed, Improved}
use Rattle.board.specs.declared.standings.Standing.{Standing}
use Rattle.board.specs.declared.standings.Standing.TheVariants.{Waiting, Held, Done}
use Rattle.board.specs.Boards.{BoardView, IsCaller, IsOutcome, board_state}
use Rattle.board.specs.Facts.{AreFacts}
use Rattle.board.specs.Histories.{State, choices_of, is_open, IsHeldBy}
use Rattle.board.specs.Verdicts.{IsPairFor, IsSoundVerdict}
use Rattle.board.specs.inner.Stacks.{IsStack}

-- the tables of branches: equally many lists of choices and standings, the waiting branches in a
-- stack, and how many branches are open
pub record AreBranches
    (choices : List (List Choice)) (standings : List Standing) (waiting : List ℕ) (count : ℕ) :
    Type 0 where
  pub alike : length choices ≡ length standings
  pub stack : IsStack standings waiting
  pub counted : count ≡ count_by is_open standings

-- how many entries a branch that stands so will still add
abbrev pub owed : Standing → ℕ
owed Waiting = 2
owed (Held who) = 1
owed (Done what) = 0

-- how many entries all branches will still add
abbrev pub owed_by : List Standing → ℕ
owed_by standings = sum_by owed standings

-- the branches are those of the history, there is room for all entries that they will add, and the
-- facts of a board hold
pub record AreBoardTables {P : Type 0} (objective : Objective)
    (Backs : Shape → List Choice → P → Verdict P → Type 0)
    (board : BoardView P) (branches : State) (room : ℕ) : Type 0 where
  pub state : branches ≡ board_state board
  pub room_left : owed_by branches.standings ≤ room
  pub facts : AreFacts objective Backs board

-- a caller settles a branch that it holds by a sound verdict, with this outcome
pub record IsSettling {P : Type 0} (objective : Objective)
    (Backs : Shape → List Choice → P → Verdict P → Type 0)
    (board : BoardView P) (who id : ℕ) (verdict : Verdict P) (what : Settled) : Type 0 where
  pub caller : IsCaller board.given who
  pub held : IsHeldBy (board_state board) id who
  pub sound : IsSoundVerdict objective Backs board.shape (choices_of (board_state board) id) verdict
  pub pair : Option (ℕ × ℕ)
  pub pair_for : IsPairFor board.shape (choices_of (board_state board) id) board.incumbent verdict pair
  pub outcome : IsOutcome board verdict pair what

-- the places of a least key are as many as the vertices of the shape
abbrev pub HasFittingPlaces : {P : Type 0} → Shape → Verdict P → Type 0
HasFittingPlaces shape (Cyclic axis cycle) = Unit {0}
HasFittingPlaces shape (Above bound stop proof) = Unit {0}
HasFittingPlaces shape (Least key proof) = length key.places.xy ≡ shape.plan.vertices

-- the outcome opens no branch
abbrev pub IsLeaf : Settled → Type 0
IsLeaf (Split first s t) = ⊥
IsLeaf Closed = Unit {0}
IsLeaf Improved = Unit {0}
