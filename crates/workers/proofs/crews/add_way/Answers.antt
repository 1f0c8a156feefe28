use Rattle.std.proofs.Common.{ap, refl, sym, ◌∙◌}
use Rattle.std.specs.Option.{option_copied_mut}
use Rattle.workers.proofs.CrewLemmas.{same_by_set, same_desks_further}
use Rattle.workers.proofs.crews.add_way.Goals as goal

pub returns : goal.returns
returns c =
    same_desks_further c.args.desks.now c.way_to.new.desks _ c.way_to.ensures
    (same_by_set c.way_to.new.desks c.args.from c.in-Some.desk.now _
    (sym c.get_mut.ensures.value ∙ ap option_copied_mut c.in-Some.is) refl refl)
