use Rattle.workers.proofs.CrewLemmas.{same_desks_further}
use Rattle.workers.proofs.crews.join_lanes.Goals as goal

pub returns-in_err-add_way : goal.returns-in_err-add_way
returns-in_err-add_way c =
    same_desks_further c.args.desks.now c.loop-place.desks c.add_way.new.desks c.loop-place.invariant.0
    (same_desks_further c.loop-place.desks c.loop-step.desks c.add_way.new.desks c.loop-step.invariant.0 c.add_way.ensures)

pub loop-step-preserved : goal.loop-step-preserved
loop-step-preserved c = (
  same_desks_further c.loop-place.desks c.loop-step.desks c.add_way.new.desks c.loop-step.invariant.0 c.add_way.ensures,
  c.loop-step.invariant.1,
)

pub loop-place-preserved : goal.loop-place-preserved
loop-place-preserved c = (
  same_desks_further c.args.desks.now c.loop-place.desks c.loop-step.desks c.loop-place.invariant.0 c.loop-step.invariant.0,
  c.loop-place.invariant.1,
)
