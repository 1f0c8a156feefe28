use Rattle.board.specs.Boards.{board_state}
use Rattle.workers.specs.inner.Turns.{IsBetweenTurns, work_ahead}
use Rattle.workers.proofs.turns.settle_all.Given as goal

abbrev pub invariant-loop-branch : goal.invariant-loop-branch
invariant-loop-branch g l =
    IsBetweenTurns l.bars l.who l.board × g.M.Workspace.Workspace.serves l.bars l.workspace

abbrev pub decreases-loop-branch : goal.decreases-loop-branch
decreases-loop-branch g l = work_ahead (board_state l.board)
