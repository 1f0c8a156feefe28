use Rattle.std.proofs.Common.{◌≡◌}
use Rattle.steal_lanes.proofs.tests.band.Given as goal

abbrev pub invariant-loop : goal.invariant-loop
invariant-loop l = l.pass.home ≡ l.lane.home
