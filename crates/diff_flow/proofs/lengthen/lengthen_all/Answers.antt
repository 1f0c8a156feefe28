use Rattle.std.proofs.Common.{arith, length, ap, subst}
use Rattle.diff_flow.specs.inner.Routing.{AreFirst}
use Rattle.diff_flow.specs.inner.Lengthening.{NoneAbove}
use Rattle.diff_flow.proofs.SetLemmas.{sum_most, by_true}
use Rattle.diff_flow.proofs.TreeLemmas.{by_false}
use Rattle.diff_flow.proofs.LabelLemmas.{in_first}
use Rattle.diff_flow.proofs.LengthenLemmas.{lengthens_taken, lengthens_done, below_then, none_then}
use Rattle.diff_flow.proofs.lengthen.lengthen_all.Goals as goal

pub lengthen_from-requires-clause-node : goal.lengthen_from-requires-clause-node
lengthen_from-requires-clause-node c =
    let first = in_first _ _ _ c.in-Some.ensures.items in
    let low = c.loop-node.invariant.state.lists.nodes_only first.0 first.1 in
    omega (arith, low, first.2)

pub lengthen_from-requires-clause-lengthens : goal.lengthen_from-requires-clause-lengthens
lengthen_from-requires-clause-lengthens c =
    let steps = c.args.steps.now in
    lengthens_taken steps.nodes steps.list.items c.args.limit c.args.start _ _ _ _ c.in-Some.node c.in-Some.ensures.items c.loop-node.invariant.state

pub lengthen_from-requires-clause-climb : goal.lengthen_from-requires-clause-climb
lengthen_from-requires-clause-climb c = c.loop-node.invariant.state.climb c.in-Some.node (in_first _ _ _ c.in-Some.ensures.items)

pub loop-node-preserved : goal.loop-node-preserved
loop-node-preserved c =
    let steps = c.args.steps.now in
    let more = by_true _ _ _ c.if-not-branch.false c.in_ok-lengthen_from.ensures.lengthened in
    record {
      state = more.state;
      below = below_then steps.nodes steps.list.items _ _ _ c.loop-node.invariant.below more.below;
    }

pub loop-node-smaller : goal.loop-node-smaller
loop-node-smaller c =
    let steps = c.args.steps.now in
    let more = by_true _ _ _ c.if-not-branch.false c.in_ok-lengthen_from.ensures.lengthened in
    let was = c.loop-node.invariant.state in
    let new = sum_most _ steps.nodes c.args.limit more.state.one_for_each more.state.inside in
    let old = sum_most _ steps.nodes c.args.limit was.one_for_each was.inside in
    omega (arith, more.shorter, new, old, ap length c.in-Some.ensures.items)

pub returns-then-not-branch-clause-first : goal.returns-then-not-branch-clause-first
returns-then-not-branch-clause-first c =
    let steps = c.args.steps.now in
    let none = by_false _ _ _ c.if-not-branch.true c.in_ok-lengthen_from.ensures.lengthened in
    subst (λ n. NoneAbove steps.nodes steps.list.items n c.args.numbers.now) c.requires.limit
    (none_then steps.nodes steps.list.items c.args.limit _ _ c.loop-node.invariant.below none)

pub returns-clause-first : goal.returns-clause-first
returns-clause-first c =
    let steps = c.args.steps.now in
    subst (λ n. AreFirst steps.nodes steps.arcs n steps.list.items c.loop-node.numbers) c.requires.limit
    (lengthens_done steps.nodes steps.arcs steps.reach steps.list.items c.args.limit c.args.start _ _ _ steps.within steps.paired
    (omega (arith, c.in_default.ensures.cases.0, c.loop-node.queue.ok.0)) c.loop-node.invariant.state)
