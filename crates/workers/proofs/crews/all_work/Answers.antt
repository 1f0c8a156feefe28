use Rattle.workers.specs.declared.desks.Desk.{Desk}
use Rattle.workers.specs.Hands.{IsHandAt}
use Rattle.workers.proofs.CrewLemmas.{all_met_with, taken_front}
use Rattle.workers.proofs.crews.all_work.Goals as goal

pub work_beside-requires-clause-desks : goal.work_beside-requires-clause-desks
work_beside-requires-clause-desks g c κs within =
    taken_front (λ (desk : Desk). IsHandAt c.args.board.now c.args.word.now desk.hand) c.args.desks c.pop.new.self c.in-Some.field-0
    c.in-Some.ensures c.requires.desks

pub returns-clause-met : goal.returns-clause-met
returns-clause-met g c =
    all_met_with c.pop.new.self c.in-Some.field-0 c.args.desks c.work_beside.result.pass c.in-Some.ensures
    c.work_beside.ensures.all_met c.work_beside.ensures.met
