use Rattle.std.proofs.Common.{[], arith, subst, sym}
use Rattle.diff_flow.specs.inner.Steps.{IsResidual, MeetsStep}
use Rattle.diff_flow.specs.inner.Numbers.{height}
use Rattle.diff_flow.proofs.LabelLemmas.{too_high_at}
use Rattle.diff_flow.proofs.WalkLemmas.{walk_open, walked_kept, walked_raised}
use Rattle.diff_flow.proofs.walks.walk.Goals as goal

pub unreachable-requires : goal.unreachable-requires
unreachable-requires c =
    let steps = c.args.steps.now in
    let within = c.requires.order.inside c.args.at c.requires.at in
    c.requires.some
    (too_high_at steps.nodes steps.arcs steps.reach steps.list.items _ c.args.limit c.args.numbers.now steps.within
    c.requires.walked.low _ c.along.result (omega (arith, within, steps.paired.two_for_each)) c.requires.limit c.along.ensures.is
    c.in-TooHigh.ensures.0 c.in-TooHigh.ensures.1)

pub returns-in-Kept : goal.returns-in-Kept
returns-in-Kept c =
    let steps = c.args.steps.now in
    let opens = walk_open steps.nodes steps.arcs steps.reach c.args.limit steps.list.items c.args.order.now c.args.at c.args.numbers.now
    steps.within steps.paired c.requires.order c.requires.at c.requires.walked in
    walked_kept steps.nodes steps.arcs steps.reach c.args.limit steps.list.items c.args.order.now c.args.at c.args.numbers.now
    steps.within steps.paired c.requires.order c.requires.at c.requires.walked c.lift.new.numbers c.in-Kept.ensures.0
    (subst (MeetsStep (height c.args.numbers.now)) c.along.ensures.is (c.in-Kept.ensures.1 (subst (IsResidual []) (sym c.along.ensures.is) opens)))

pub returns-in-Raised : goal.returns-in-Raised
returns-in-Raised c =
    let steps = c.args.steps.now in
    let lifted = c.in-Raised.ensures.1 in
    walked_raised steps.nodes steps.arcs steps.reach c.args.limit steps.list.items c.args.order.now c.args.at c.args.numbers.now
    steps.within steps.paired c.requires.order c.requires.at c.requires.walked c.along.result c.lift.new.numbers lifted.0 c.along.ensures.is
    lifted.1 lifted.2
