use Rattle.std.proofs.Common.{ap}
use Rattle.steal_lanes.specs.declared.views.LaneView.{LaneView}
use Rattle.workers.proofs.HandLemmas.{going_by_take}
use Rattle.workers.proofs.steps.from_lanes.Goals as goal

pub returns-in-Some : goal.returns-in-Some
returns-in-Some c =
    going_by_take c.args.hand.now c.take.new.self c.take.ensures.home c.take.ensures.room
    (ap (λ (v : LaneView). v.put) c.in-Some.ensures.taken.got)
