use Rattle.std.proofs.Common.{arith, length, ap}
use Rattle.diff_flow.proofs.SetLemmas.{sum_most, by_true}
use Rattle.diff_flow.proofs.LabelLemmas.{rises_taken, rises_done}
use Rattle.diff_flow.proofs.labels.settle.Goals as goal

pub raise_from-requires-clause-rises : goal.raise_from-requires-clause-rises
raise_from-requires-clause-rises c =
    let steps = c.args.steps.now in
    rises_taken steps.nodes steps.list.items c.args.amounts.now c.args.limit _ _ _ _ c.in-Some.node c.in-Some.ensures.items c.loop-node.invariant

pub loop-node-preserved : goal.loop-node-preserved
loop-node-preserved c = by_true _ _ _ c.if-not-branch.false c.in_ok-raise_from.ensures.rises

pub loop-node-smaller : goal.loop-node-smaller
loop-node-smaller c =
    let steps = c.args.steps.now in
    let rises = by_true _ _ _ c.if-not-branch.false c.in_ok-raise_from.ensures.rises in
    let less = by_true _ _ _ c.if-not-branch.false c.in_ok-raise_from.ensures.shorter in
    let new = sum_most _ steps.nodes c.args.limit rises.low.one_for_each rises.low.inside in
    let old = sum_most _ steps.nodes c.args.limit c.loop-node.invariant.low.one_for_each c.loop-node.invariant.low.inside in
    omega (arith, less, new, old, ap length c.in-Some.ensures.items)

pub returns : goal.returns
returns c =
    let steps = c.args.steps.now in
    rises_done steps.nodes steps.arcs steps.reach steps.list.items c.args.amounts.now c.args.limit _ _ _ steps.within
    (omega (arith, c.in_default.ensures.cases.0, c.loop-node.queue.ok.0)) c.loop-node.invariant
