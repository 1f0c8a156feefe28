use Rattle.workers.specs.inner.Lives.{IsGoing}
use Rattle.workers.proofs.steps.steal.Given as goal

abbrev pub invariant-loop-place : goal.invariant-loop-place
invariant-loop-place l = IsGoing l.fn.hand l.hand
