use Rattle.board.specs.Boards.{board_state}
use Rattle.board.specs.Histories.{choices_of}
use Rattle.board.proofs.Laws.{branch_pairs_settle}
use Rattle.workers.proofs.turns.settle.Goals as goal

pub settle-answer-requires-clause-pair : goal.settle-answer-requires-clause-pair
settle-answer-requires-clause-pair g c κs within = λ below.
    branch_pairs_settle c.args.board.now.shape (choices_of (board_state c.args.board.now) c.args.id) c.args.board.now.incumbent
    c.args.solved.verdict c.args.solved.pair c.requires.pair
