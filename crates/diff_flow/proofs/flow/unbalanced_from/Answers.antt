use Rattle.diff_flow.proofs.SurplusLemmas.{zeros_are_nothing}
use Rattle.diff_flow.proofs.flow.unbalanced_from.Goals as goal

pub unbalanced_in-requires-clause-none : goal.unbalanced_in-requires-clause-none
unbalanced_in-requires-clause-none c = λ k within. zeros_are_nothing 1024 k within
