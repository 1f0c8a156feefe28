use Rattle.std.proofs.Common.{◌≡◌}
use Rattle.steal_lanes.proofs.tests.of_no_room.Given as goal

abbrev pub invariant-loop-id : goal.invariant-loop-id
invariant-loop-id l = l.lane.home ≡ l.initial.lane.home
