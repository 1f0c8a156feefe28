use Rattle.std.proofs.Common.{ap, ◌∙◌}
use Rattle.least_word.specs.Seats.{SeatView}
use Rattle.workers.proofs.CrewLemmas.{all_settled_where_quiet}
use Rattle.workers.proofs.several.close.Goals as goal

pub answer-requires-after_bounds : goal.answer-requires-after_bounds
answer-requires-after_bounds g c κs within =
    all_settled_where_quiet c.args.bars.now c.close.result c.args.met.pass.seen c.args.met.seat.view c.halted.result
    (c.close.ensures.shape ∙ c.requires.shape) c.close.ensures.later c.close.ensures.facts.legal c.if-halted.false
    (c.halted.ensures.heard ∙ ap (λ (s : SeatView). s.view.heard) c.halted.ensures.load) c.requires.ended.why
