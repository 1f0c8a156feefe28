use Rattle.std.proofs.Common.{◌≡◌, ◌+◌, ◌-◌, ◌<◌, length, arith, ◌∙◌, subst, sym}
use Rattle.std.proofs.lemmas.List.{get_or_read}
use Rattle.diff_flow.specs.inner.Steps.{step_at}
use Rattle.diff_flow.specs.inner.Search.{AreFollowedFrom}
use Rattle.diff_flow.proofs.TreeLemmas.{by_false, grows_trans, passed_from_grows, passed_next}
use Rattle.diff_flow.proofs.search.reach_from.Goals as goal

pub loop-entry-preserved : goal.loop-entry-preserved
loop-entry-preserved c =
    let steps = c.args.steps.now in
    let rows = steps.by_node in
    let k = c.loop-entry.entry - 1 in
    let k_in : c.loop-entry.entry - 1 < length steps.list.items = omega (arith, c.loop-entry.invariant.most) in
    let before_in : c.loop-entry.entry - 1 < length steps.rows.before.items = omega (arith, k_in, rows.before_for_each) in
    let read = get_or_read steps.rows.before.items (c.loop-entry.entry - 1) c.index-entry-in-loop-entry.result.now before_in
    c.index-entry-in-loop-entry.ensures 0 in
    let node = c.loop-entry.invariant.from (omega arith) in
    let next : c.loop-entry.entry ≡ c.loop-entry.entry - 1 + 1 = omega arith in
    let grows = c.in_ok-reach.ensures.grows in
    let passed = passed_from_grows steps.list.items c.args.amounts.now c.args.numbers.now _ _ _ _ c.index.result.now.node c.loop-entry.entry grows
    c.loop-entry.invariant.passed in
    let after = passed_next steps.nodes steps.list.items c.args.amounts.now c.args.numbers.now c.reach.new.tree.places.items
    steps.rows.last.items steps.rows.before.items c.index.result.now.node (c.loop-entry.entry - 1) rows k_in node c.in_ok-reach.ensures.passed
    (subst (AreFollowedFrom steps.list.items c.args.amounts.now c.args.numbers.now c.reach.new.tree.places.items c.index.result.now.node) next passed) in
    record {
      most = omega (arith, read, k_in, rows.before_most (c.loop-entry.entry - 1) k_in);
      from = subst (λ e. 0 < e → (step_at steps.list.items (e - 1)).from ≡ c.index.result.now.node) (sym read)
          (λ some. rows.before_from (c.loop-entry.entry - 1) k_in some ∙ node);
      place = grows.placed _ c.loop-entry.invariant.place;
      tree = c.in_ok-reach.ensures.tree;
      grows = grows_trans _ _ _ _ _ _ c.loop-entry.invariant.grows grows;
      none = by_false _ _ _ c.if-branch.false c.in_ok-reach.ensures.found;
      passed = subst (AreFollowedFrom steps.list.items c.args.amounts.now c.args.numbers.now c.reach.new.tree.places.items c.index.result.now.node)
          (sym read) after;
    }

pub returns-then-branch-clause-grows : goal.returns-then-branch-clause-grows
returns-then-branch-clause-grows c = grows_trans _ _ _ _ _ _ c.loop-entry.invariant.grows c.in_ok-reach.ensures.grows
