use Rattle.std.proofs.Common.{◌≡◌, ◌+◌, length, rules, subst, sym}
use Rattle.ticket_board.specs.Passes.{Begins, PassView}
use Rattle.workers.specs.declared.desks.Desk.{Desk}
use Rattle.workers.specs.Hands.{IsHandAt}
use Rattle.workers.specs.inner.Lives.{AreDesksAt}
use Rattle.workers.proofs.CrewLemmas.{all_met_further, all_met_with, seen_to_end, taken_fewer, taken_front, taken_last}
use Rattle.workers.proofs.HandLemmas.{begins_further}
use Rattle.workers.proofs.crews.+fn-work_beside-join+arg3+work_beside.Goals as goal

pub join-hand-requires-after_bounds : goal.join-hand-requires-after_bounds
join-hand-requires-after_bounds g t c κs within =
    let P = λ (desk : Desk). IsHandAt c.args.board.now c.args.word.now desk.hand in
    let at : IsHandAt c.args.board.now c.args.word.now c.in-Some.field-0.hand =
    taken_last P c.args.desks c.pop.new.self c.in-Some.field-0 c.in-Some.ensures c.requires.desks in
    let front : AreDesksAt c.args.board.now c.args.word.now c.pop.new.self =
    taken_front P c.args.desks c.pop.new.self c.in-Some.field-0 c.in-Some.ensures c.requires.desks in
    let fewer : length c.pop.new.self + 1 ≡ length c.args.desks =
    taken_fewer P c.args.desks c.pop.new.self c.in-Some.field-0 c.in-Some.ensures c.requires.desks in
    search (rules, at, front, fewer)

pub returns-in-None-clause-met : goal.returns-in-None-clause-met
returns-in-None-clause-met g t c =
    subst (λ (pass : PassView). Begins c.args.first.pass.seen pass.seen) (sym c.met_by.ensures.0)
    (seen_to_end c.work-hand.result.1 c.args.first c.work-hand.result.0 c.work-hand.ensures.ended c.work-hand.ensures.refused)

pub returns-in-Some-clause-all_met : goal.returns-in-Some-clause-all_met
returns-in-Some-clause-all_met g t c =
    all_met_with c.pop.new.self c.in-Some.field-0 c.args.desks c.meet.new.met.pass c.in-Some.ensures
    (all_met_further c.pop.new.self c.join-hand.result.1.pass c.meet.new.met.pass c.meet.ensures.first c.join-hand.ensures.second.1.1)
    (begins_further c.in-Some.field-0.hand.pass.seen c.join-hand.result.0.0.pass.seen c.meet.new.met.pass.seen
    c.join-hand.ensures.first.1.1 c.meet.ensures.second)
