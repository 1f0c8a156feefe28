use Rattle.std.proofs.Common.{◌≡◌, length}
use Rattle.workers.specs.inner.Lives.{AreSameDesks}
use Rattle.workers.proofs.crews.join_lanes.Given as goal

abbrev pub invariant-loop-step : goal.invariant-loop-step
invariant-loop-step l = AreSameDesks l.initial.desks l.desks × (l.count ≡ length l.initial.desks)

abbrev pub invariant-loop-place : goal.invariant-loop-place
invariant-loop-place l = AreSameDesks l.initial.desks l.desks × (l.count ≡ length l.initial.desks)
