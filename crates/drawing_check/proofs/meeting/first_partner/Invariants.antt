use Rattle.std.proofs.Common.{ℕ, ◌<◌}
use Rattle.drawing_check.specs.inner.Partners.{IsApart}
use Rattle.drawing_check.proofs.meeting.first_partner.Given as goal

abbrev pub invariant-loop-second : goal.invariant-loop-second
invariant-loop-second l = (q : ℕ) → l.fn.first < q → q < l.second → IsApart l.plan l.places l.fn.first q
