use Rattle.std.proofs.Common.{◌≡◌}
use Rattle.steal_lanes.proofs.tests.steal_all.Given as goal

abbrev pub invariant-loop : goal.invariant-loop
invariant-loop l = l.pass.home.deque ≡ l.thief
