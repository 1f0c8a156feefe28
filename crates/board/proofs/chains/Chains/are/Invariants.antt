use Rattle.board.specs.inner.Chains.{IsChainWalk}
use Rattle.board.proofs.chains.Chains.are.Given as goal

abbrev pub invariant-loop-step : goal.invariant-loop-step
invariant-loop-step l = IsChainWalk l.self l.id l.choices l.at l.left

abbrev pub decreases-loop-step : goal.decreases-loop-step
decreases-loop-step l = l.at
