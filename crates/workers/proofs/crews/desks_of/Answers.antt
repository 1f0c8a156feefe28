use Rattle.std.proofs.Common.{◌≡◌, ◌∷◌, [], length, ap, ◌∙◌, arith}
use Rattle.std.proofs.lemmas.List.{length-append}
use Rattle.ticket_board.specs.Passes.{PassView}
use Rattle.least_word.specs.Seats.{SeatView}
use Rattle.workers.proofs.CrewLemmas.{desks_with_of, taken_fewer, taken_front, taken_last}
use Rattle.workers.proofs.crews.desks_of.Goals as goal

pub loop-pass-preserved : goal.loop-pass-preserved
loop-pass-preserved g c =
    let P = λ (pass : PassView). pass.home ≡ c.args.board.now in
    let fewer = taken_fewer P c.loop-pass.passes c.pop.new.self c.in-Some.pass c.in-Some.ensures c.loop-pass.invariant.0 in
    let more = ap length c.in_ok-push.ensures.ok ∙ length-append c.loop-pass.desks (c.in_ok-new_desk.field-0 ∷ []) in
    let count = c.loop-pass.invariant.3 in (
      taken_front P c.loop-pass.passes c.pop.new.self c.in-Some.pass c.in-Some.ensures c.loop-pass.invariant.0,
      desks_with_of c.args.board.now c.args.word.now c.loop-pass.desks c.in_ok-new_desk.field-0 c.push.new.self c.in_ok-push.ensures.ok
          c.loop-pass.invariant.1
          (ap (λ (pass : PassView). pass.home) c.in_ok-new_desk.ensures.pass ∙ taken_last P c.loop-pass.passes c.pop.new.self c.in-Some.pass c.in-Some.ensures c.loop-pass.invariant.0)
          (ap (λ (seat : SeatView). seat.home) (c.in_ok-new_desk.ensures.seat ∙ c.split-seat.ensures.result) ∙ c.loop-pass.invariant.2),
      ap (λ (seat : SeatView). seat.home) c.split-seat.ensures.seat ∙ c.loop-pass.invariant.2,
      omega (arith, fewer, more, count),
    )

pub returns-clause-desks : goal.returns-clause-desks
returns-clause-desks g c = c.join_lanes.ensures.kept c.args.board.now c.args.word.now c.loop-pass.invariant.1
