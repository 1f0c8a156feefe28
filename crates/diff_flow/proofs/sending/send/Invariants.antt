use Rattle.diff_flow.proofs.RouteLemmas.{IsSending}
use Rattle.diff_flow.proofs.sending.send.Given as goal

abbrev pub invariant-loop-at : goal.invariant-loop-at
invariant-loop-at l =
    IsSending l.steps.nodes l.steps.arcs l.steps.list.items l.amount l.numbers l.tree.entries.items l.initial.amounts l.amounts l.at

abbrev pub decreases-loop-at : goal.decreases-loop-at
decreases-loop-at l = l.at
