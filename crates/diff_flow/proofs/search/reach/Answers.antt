use Rattle.std.proofs.Common.{rules, arith, subst}
use Rattle.diff_flow.specs.inner.Search.{IsPassable}
use Rattle.diff_flow.proofs.TreeLemmas.{tree_few, tree_more, searches_entered, fresh_end}
use Rattle.diff_flow.proofs.search.reach.Goals as goal

pub enter-requires-clause-few : goal.enter-requires-clause-few
enter-requires-clause-few c =
    let steps = c.args.steps.now in
    let within = steps.within c.args.k c.requires.inside in
    let fresh = fresh_end steps.list.items c.args.k c.at-step.result c.args.tree.now.places.items c.index.result.now c.at-step.ensures.is
    (omega (arith, c.at-step.ensures.within.to, c.requires.tree.one_for_each)) c.index.ensures c.if-index-gt0.false in
    tree_few steps.nodes steps.list.items c.args.amounts.now c.args.numbers.now c.args.tree.now.entries.items c.args.tree.now.places.items
    _ c.requires.tree within.to fresh

pub returns-clause-tree : goal.returns-clause-tree
returns-clause-tree c =
    let steps = c.args.steps.now in
    let enters = c.in_ok-enter.ensures in
    let fresh = fresh_end steps.list.items c.args.k c.at-step.result c.args.tree.now.places.items c.index.result.now c.at-step.ensures.is
    (omega (arith, c.at-step.ensures.within.to, c.requires.tree.one_for_each)) c.index.ensures c.if-index-gt0.false in
    tree_more steps.nodes steps.arcs steps.reach steps.list.items c.args.amounts.now c.args.numbers.now c.args.k _ _ _ _ enters.0 steps.within
    c.requires.inside (subst (IsPassable c.args.amounts.now c.args.numbers.now) c.at-step.ensures.is (c.if-not-is_passable.ensures.0 (search rules)))
    c.requires.from fresh c.requires.tree enters.1

pub returns-clause-found : goal.returns-clause-found
returns-clause-found c =
    let steps = c.args.steps.now in
    let enters = c.in_ok-enter.ensures in
    searches_entered steps.list.items c.args.amounts.now c.args.want.now c.args.k c.at-step.result _ _ _ _ enters.0 c.at-step.ensures.is
    (omega (arith, c.at-step.ensures.within.to, c.requires.tree.one_for_each)) enters.1 c.requires.none
