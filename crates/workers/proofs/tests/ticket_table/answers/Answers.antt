use Rattle.std.proofs.Common.{rules, ◌∙◌, subst, sym}
use Rattle.compact_types.specs.declared.plan.Shape.{Shape}
use Rattle.compact_types.specs.Bests.{IsAttained}
use Rattle.workers.proofs.tests.ticket_table.answers.Goals as goal

pub settle_first-requires-clause-stop : goal.settle_first-requires-clause-stop
settle_first-requires-clause-stop g c κs within =
    let attained : IsAttained g.M.Proof.Backing.objective c.in_ok-bars.bars c.stop_of-stop.result =
    subst (λ (shape : Shape). IsAttained g.M.Proof.Backing.objective shape c.stop_of-stop.result)
    (sym (c.in_ok-bars.ensures ∙ c.shape.ensures.shape)) c.stop_of-stop.ensures.attained in
    search (rules, attained)
