use Rattle.workers.proofs.HandLemmas.{going_further, going_itself}
use Rattle.workers.proofs.steps.steal.Goals as goal

pub loop-place-init : goal.loop-place-init
loop-place-init c = going_itself c.args.hand.now

pub returns-in-Some : goal.returns-in-Some
returns-in-Some c = going_further c.args.hand.now c.loop-place.hand c.try_lane.new.hand c.loop-place.invariant c.try_lane.ensures

pub loop-place-preserved : goal.loop-place-preserved
loop-place-preserved c = going_further c.args.hand.now c.loop-place.hand c.try_lane.new.hand c.loop-place.invariant c.try_lane.ensures
