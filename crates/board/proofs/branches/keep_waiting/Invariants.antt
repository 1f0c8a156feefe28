use Rattle.std.proofs.Common.{length}
use Rattle.board.specs.inner.Stacks.{HoldWaiting}
use Rattle.board.proofs.branches.keep_waiting.Given as goal

abbrev pub invariant-loop-id : goal.invariant-loop-id
invariant-loop-id l = HoldWaiting l.standings l.waiting.items

abbrev pub decreases-loop-id : goal.decreases-loop-id
decreases-loop-id l = length l.waiting.items
