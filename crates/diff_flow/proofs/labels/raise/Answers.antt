use Rattle.diff_flow.proofs.LabelLemmas.{too_high_at, rises_raised_at}
use Rattle.diff_flow.proofs.labels.raise.Goals as goal

pub returns-in-TooHigh-clause-rises : goal.returns-in-TooHigh-clause-rises
returns-in-TooHigh-clause-rises c =
    let steps = c.args.steps.now in
    too_high_at steps.nodes steps.arcs steps.reach steps.list.items c.args.amounts.now c.args.limit c.args.numbers.now steps.within
    c.requires.rises.low c.args.k c.at-step.result c.requires.inside c.requires.limit c.at-step.ensures.is
    c.in-TooHigh.ensures.0 c.in-TooHigh.ensures.1

pub returns-in-TooHigh-clause-shorter : goal.returns-in-TooHigh-clause-shorter
returns-in-TooHigh-clause-shorter c =
    let steps = c.args.steps.now in
    too_high_at steps.nodes steps.arcs steps.reach steps.list.items c.args.amounts.now c.args.limit c.args.numbers.now steps.within
    c.requires.rises.low c.args.k c.at-step.result c.requires.inside c.requires.limit c.at-step.ensures.is
    c.in-TooHigh.ensures.0 c.in-TooHigh.ensures.1

pub returns-in_ok-wait-in-Raised-clause-rises : goal.returns-in_ok-wait-in-Raised-clause-rises
returns-in_ok-wait-in-Raised-clause-rises c =
    let steps = c.args.steps.now in
    rises_raised_at steps.nodes steps.arcs steps.reach steps.list.items c.args.amounts.now c.args.limit c.args.numbers.now c.args.waits.now
    c.args.queue.now.items steps.within c.args.k c.requires.inside c.requires.rises c.at-step.result _ _ _ c.in-Raised.ensures.1.0
    c.at-step.ensures.is c.in-Raised.ensures.0 c.in-Raised.ensures.1.1 c.in-Raised.ensures.1.2
    (rw c.requires.rises.lists.flags at c.in_ok-wait-in-Raised.ensures.waits)
