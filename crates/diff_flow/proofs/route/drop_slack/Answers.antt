use Rattle.std.proofs.Common.{arith, ap}
use Rattle.diff_flow.specs.declared.steps.ResidualArc.{ResidualArc}
use Rattle.diff_flow.proofs.RouteLemmas.{kept_dropped}
use Rattle.diff_flow.proofs.route.drop_slack.Goals as goal

pub returns-then-numbers-step-clause-kept : goal.returns-then-numbers-step-clause-kept
returns-then-numbers-step-clause-kept c = λ given spread.
    let steps = c.args.steps.now in
    let even = c.requires.dropped.even in
    kept_dropped steps.nodes steps.arcs steps.list.items given c.args.amounts.now c.args.over.now c.args.want.now c.args.i
    c.along-step.result.from c.along-step.result.to c.requires.inside even.amounts_for_each
    (ap (λ (s : ResidualArc). s.from) c.along-step.ensures.is) (ap (λ (s : ResidualArc). s.to) c.along-step.ensures.is)
    (omega (arith, c.along-step.ensures.within.from, even.over_for_each)) (omega (arith, c.along-step.ensures.within.to, even.want_for_each)) spread
