use Rattle.std.proofs.Common.{length, arith, refl, ap}
use Rattle.diff_flow.proofs.StepLemmas.{steps_within}
use Rattle.diff_flow.proofs.steps.steps_of.Goals as goal

pub rows_of-requires-clause-inside : goal.rows_of-requires-clause-inside
rows_of-requires-clause-inside c = λ k inside.
    (steps_within c.args.graph.now.nodes c.greatest_least-reach.result _ c.as_slice-arcs.result.now c.deref.result.now
    (rw c.deref.ensures.value c.in_ok-list.ensures) (rw c.as_slice-arcs.ensures c.args.graph.now.ends) refl
    c.greatest_least-reach.ensures.greatest k inside).from

pub invariant_of-result-clause-few : goal.invariant_of-result-clause-few
invariant_of-result-clause-few c =
    omega (arith, c.in_ok-list.ensures.two_for_each, ap length c.as_slice-arcs.ensures, c.args.graph.now.few)

pub invariant_of-result-clause-within : goal.invariant_of-result-clause-within
invariant_of-result-clause-within c =
    steps_within c.args.graph.now.nodes c.greatest_least-reach.result _ c.as_slice-arcs.result.now c.in_ok-list.list.items
    c.in_ok-list.ensures (rw c.as_slice-arcs.ensures c.args.graph.now.ends) refl c.greatest_least-reach.ensures.greatest
