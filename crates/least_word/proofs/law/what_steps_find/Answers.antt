use Rattle.std.proofs.Common.{ap, ◌∙◌, ⊎_elim}
use Rattle.atomic_table.proofs.Lists.{at_set, set_here}
use Rattle.least_word.specs.declared.view.Member.{Member}
use Rattle.least_word.proofs.RuleLemmas.{seat_below}
use Rattle.least_word.proofs.law.what_steps_find.Goals as goal

pub returns-clause-floor_after : goal.returns-clause-floor_after
returns-clause-floor_after c objective shape before after old new step =
    step.kept_after.floors step.number (record step.seat { view = new }) (set_here step.seats step.number _ (seat_below step.seats step.number step.seat step.is_seat))

pub returns-clause-sets : goal.returns-clause-sets
returns-clause-sets c objective shape before after old new step was_not is_now =
    let it = step.kept_after.halting.0 is_now in
    ⊎_elim (λ t. ap (λ (p : Member). p.view.halting) t.1 ∙ it.halting)
    (λ t. absurd (was_not (step.kept_before.halting.1 (record { number = it.number; seat = it.seat; is_seat = t.1; halting = it.halting }))))
    (at_set step.seats step.number it.number (record step.seat { view = new }) it.seat it.is_seat)
