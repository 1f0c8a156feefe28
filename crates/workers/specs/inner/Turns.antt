-- What a turn of a search with one worker keeps, and why the turns end.
use Rattle.std.specs.Prelude.{◌≡◌, ℕ, ◌<◌}
use Rattle.compact_types.specs.declared.limits.TheConstants.{MOST_PAIRS}
use Rattle.compact_types.specs.declared.plan.Shape.{Shape}
use Rattle.board.specs.Boards.{BoardView, board_state, IsCaller}
use Rattle.board.specs.Histories.{State, IsHeldBy, open_count_of}
use Rattle.board.specs.Works.{work_left}

-- between two turns the board is one of the shape, the worker is a caller, and no branch is held
pub record IsBetweenTurns {P : Type 0} (shape : Shape) (who : ℕ) (board : BoardView P) : Type 0 where
  pub shape_kept : board.shape ≡ shape
  pub caller : IsCaller board.given who
  pub none_held : (id holder : ℕ) → IsHeldBy (board_state board) id holder → ⊥

-- the work that open branches may still make: no branch has more choices than a shape has pairs
unfoldable pub work_ahead : State → ℕ
work_ahead state = work_left MOST_PAIRS state

-- a turn keeps what holds between turns, and leaves less work
pub record IsAfterTurn {P : Type 0}
    (shape : Shape) (who : ℕ) (old new : BoardView P) : Type 0 where
  pub between : IsBetweenTurns shape who new
  pub less_work : work_ahead (board_state new) < work_ahead (board_state old)

-- the board is one of the shape, and every branch is settled
pub record AreAllSettled {P : Type 0} (shape : Shape) (board : BoardView P) : Type 0 where
  pub shape_kept : board.shape ≡ shape
  pub none_open : open_count_of (board_state board) ≡ 0
