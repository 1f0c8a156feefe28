use Rattle.std.proofs.Common.{◌∙◌, sym}
use Rattle.board.specs.Boards.{board_state}
use Rattle.board.specs.Histories.{choices_of}
use Rattle.board.proofs.Laws.{branch_pairs_settle, first_choices}
use Rattle.workers.proofs.TurnLemmas.{pair_on_board, sound_on_board}
use Rattle.workers.proofs.tests.board_table.settle.Goals as goal

pub settle-requires-clause-verdict : goal.settle-requires-clause-verdict
settle-requires-clause-verdict g c κs within = λ known.
    sound_on_board g.M.Proof.Backing.objective g.M.Proof.Backing.backs c.args.board.now c.in_ok-bars.bars (sym (c.in_ok-bars.ensures ∙ c.shape.ensures.shape))
    (choices_of (board_state c.args.board.now) 0) c.new-choices.result (first_choices c.args.board.now.entries ∙ sym c.new-choices.ensures)
    c.in_ok-solved.solved.verdict c.in_ok-solved.ensures.sound

pub settle-requires-clause-pair : goal.settle-requires-clause-pair
settle-requires-clause-pair g c κs within = λ known.
    branch_pairs_settle c.args.board.now.shape (choices_of (board_state c.args.board.now) 0) c.args.board.now.incumbent
    c.in_ok-solved.solved.verdict c.in_ok-solved.solved.pair
    (pair_on_board c.args.board.now c.in_ok-bars.bars (sym (c.in_ok-bars.ensures ∙ c.shape.ensures.shape))
    (choices_of (board_state c.args.board.now) 0) c.new-choices.result (first_choices c.args.board.now.entries ∙ sym c.new-choices.ensures)
    c.in_ok-solved.solved.verdict c.in_ok-solved.solved.pair c.in_ok-solved.ensures.pair)
