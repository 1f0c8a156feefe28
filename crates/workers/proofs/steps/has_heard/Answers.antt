use Rattle.std.proofs.Common.{ap}
use Rattle.least_word.specs.Seats.{SeatView}
use Rattle.workers.proofs.HandLemmas.{going_by_seat}
use Rattle.workers.proofs.steps.has_heard.Goals as goal

pub returns-clause-going : goal.returns-clause-going
returns-clause-going g c =
    going_by_seat c.args.hand.now c.halted.new.seat (ap (λ (s : SeatView). s.home) c.halted.ensures.load)
    (record {
      halting = ap (λ (s : SeatView). s.view.halting) c.halted.ensures.load;
      splits = ap (λ (s : SeatView). s.view.splits) c.halted.ensures.load;
    })
