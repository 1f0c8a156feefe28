-- How a search ends.
use Rattle.std.specs.Prelude.{◌≡◌, ℕ, ◌<◌, List}
use Rattle.compact_types.specs.declared.places.Key.{Key}
use Rattle.compact_types.specs.declared.plan.Shape.{Shape}
use Rattle.compact_types.specs.declared.search.Choice.{Choice}
use Rattle.compact_types.specs.Bests.{Objective}
use Rattle.shape_graphs.specs.declared.measure.Verdict.{Verdict}
use Rattle.board.specs.Boards.{BoardView, board_state}
use Rattle.board.specs.Facts.{AreFacts}
use Rattle.board.specs.Histories.{branch_count, open_count_of}
use Rattle.board.specs.Tellings.{IsTold}

-- the search of a shape has ended on the board with this key: the key is the incumbent, no branch is
-- open, what a board keeps is true of it, and its entries tell of each branch that it was claimed
-- once and after that settled once, by the same caller
pub record HasEnded {P : Type 0} (objective : Objective)
    (Backs : Shape → List Choice → P → Verdict P → Type 0)
    (shape : Shape) (key : Key) (board : BoardView P) : Type 0 where
  pub shape_kept : board.shape ≡ shape
  pub none_open : open_count_of (board_state board) ≡ 0
  pub incumbent : board.incumbent ≡ key
  pub facts : AreFacts objective Backs board
  pub told : (id : ℕ) → id < branch_count (board_state board) → IsTold board.entries id
