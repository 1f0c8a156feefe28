use Rattle.std.proofs.Common.{◌≡◌, ◌-◌, ◌<◌, length, arith, ◌∙◌, subst, sym}
use Rattle.std.proofs.lemmas.List.{get_or_read}
use Rattle.diff_flow.specs.inner.Steps.{step_at}
use Rattle.diff_flow.specs.inner.Numbers.{Rises, AreLate}
use Rattle.diff_flow.proofs.SetLemmas.{by_true}
use Rattle.diff_flow.proofs.LabelLemmas.{rises_next}
use Rattle.diff_flow.proofs.labels.raise_from.Goals as goal

pub loop-entry-preserved : goal.loop-entry-preserved
loop-entry-preserved c =
    let steps = c.args.steps.now in
    let rows = steps.by_node in
    let k = c.loop-entry.entry - 1 in
    let k_in : c.loop-entry.entry - 1 < length steps.list.items = omega (arith, c.loop-entry.invariant.most) in
    let before_in : c.loop-entry.entry - 1 < length steps.rows.before.items = omega (arith, k_in, rows.before_for_each) in
    let read = get_or_read steps.rows.before.items (c.loop-entry.entry - 1) c.index-entry-in-loop-entry.result.now before_in
    c.index-entry-in-loop-entry.ensures 0 in
    let node = c.loop-entry.invariant.from (omega arith) in
    let risen = rises_next steps.nodes steps.list.items c.args.amounts.now c.args.limit _ _ _ steps.rows.last.items steps.rows.before.items
    c.args.node (c.loop-entry.entry - 1) rows k_in node (by_true _ _ _ c.if-not-branch.false c.in_ok-raise.ensures.rises) in
    record {
      most = omega (arith, read, k_in, rows.before_most (c.loop-entry.entry - 1) k_in);
      from = subst (λ e. 0 < e → (step_at steps.list.items (e - 1)).from ≡ c.args.node) (sym read)
          (λ some. rows.before_from (c.loop-entry.entry - 1) k_in some ∙ node);
      rises = subst (λ e. Rises steps.nodes steps.list.items c.args.amounts.now c.args.limit c.raise.new.numbers c.raise.new.waits
          c.raise.new.queue.items (AreLate steps.list.items c.args.node e)) (sym read) risen;
      shorter = let less = by_true _ _ _ c.if-not-branch.false c.in_ok-raise.ensures.shorter in
          omega (arith, less, c.loop-entry.invariant.shorter);
    }
