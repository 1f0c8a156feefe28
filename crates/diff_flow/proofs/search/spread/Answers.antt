use Rattle.std.proofs.Common.{arith}
use Rattle.diff_flow.proofs.TreeLemmas.{by_false, grows_trans, passed_more, tree_most}
use Rattle.diff_flow.proofs.search.spread.Goals as goal

pub loop-at-preserved : goal.loop-at-preserved
loop-at-preserved c =
    let steps = c.args.steps.now in
    let grows = c.in_ok-reach_from.ensures.grows in
    record {
      tree = c.in_ok-reach_from.ensures.tree;
      grows = grows_trans _ _ _ _ _ _ c.loop-at.invariant.grows grows;
      none = by_false _ _ _ c.if-branch.false c.in_ok-reach_from.ensures.found;
      within = omega (arith, grows.longer);
      passed = passed_more steps.list.items c.args.amounts.now c.args.numbers.now _ _ _ _ c.loop-at.at grows (omega arith)
          c.loop-at.invariant.passed (by_false _ _ _ c.if-branch.false c.in_ok-reach_from.ensures.passed);
    }

pub loop-at-smaller : goal.loop-at-smaller
loop-at-smaller c =
    let most = tree_most _ _ _ _ _ _ c.loop-at.invariant.tree in
    omega (arith, most)

pub returns-then-branch-clause-grows : goal.returns-then-branch-clause-grows
returns-then-branch-clause-grows c = grows_trans _ _ _ _ _ _ c.loop-at.invariant.grows c.in_ok-reach_from.ensures.grows
