use Rattle.board.specs.inner.Chains.{IsGathered}
use Rattle.board.proofs.chains.Chains.copy_of.Given as goal

abbrev pub invariant-loop-step : goal.invariant-loop-step
invariant-loop-step l = IsGathered l.self l.id l.at l.choices.items

abbrev pub decreases-loop-step : goal.decreases-loop-step
decreases-loop-step l = l.at
