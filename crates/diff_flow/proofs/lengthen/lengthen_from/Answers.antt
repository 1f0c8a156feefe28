use Rattle.std.proofs.Common.{◌≡◌, ◌+◌, ◌-◌, ◌<◌, length, arith, ◌∙◌, subst, sym}
use Rattle.std.proofs.lemmas.List.{get_or_read}
use Rattle.diff_flow.specs.inner.Steps.{step_at}
use Rattle.diff_flow.specs.inner.Numbers.{AreLate}
use Rattle.diff_flow.specs.inner.Lengthening.{AreLengthened, ClimbTo, Lengthens}
use Rattle.diff_flow.proofs.SetLemmas.{by_true}
use Rattle.diff_flow.proofs.TreeLemmas.{by_false}
use Rattle.diff_flow.proofs.LengthenLemmas.{lengthened_first, lengthened_next, lengthened_all, lengthens_last, none_then}
use Rattle.diff_flow.proofs.lengthen.lengthen_from.Goals as goal

pub loop-entry-init : goal.loop-entry-init
loop-entry-init c =
    let steps = c.args.steps.now in
    let rows = steps.by_node in
    let read = get_or_read steps.rows.last.items c.args.node c.index-entry.result.now (omega (arith, c.requires.node, rows.last_for_each))
    c.index-entry.ensures 0 in
    record {
      most = omega (arith, read, rows.last_most c.args.node c.requires.node);
      from = subst (λ e. 0 < e → (step_at steps.list.items (e - 1)).from ≡ c.args.node) (sym read) (rows.last_from c.args.node c.requires.node);
      lengthened = lengthened_first steps.nodes steps.list.items c.args.limit c.args.start c.args.node c.args.numbers.now c.args.waits.now
          c.args.queue.now.items _
          (subst (λ e. Lengthens steps.nodes steps.list.items c.args.limit c.args.start c.args.numbers.now c.args.waits.now c.args.queue.now.items
          (AreLate steps.list.items c.args.node e)) (sym read)
          (lengthens_last steps.nodes steps.list.items c.args.limit c.args.start c.args.numbers.now c.args.waits.now c.args.queue.now.items
          steps.rows.last.items steps.rows.before.items c.args.node rows c.requires.lengthens))
          c.requires.climb;
    }

pub lengthen_over-requires-clause-lengthens : goal.lengthen_over-requires-clause-lengthens
lengthen_over-requires-clause-lengthens c =
    let steps = c.args.steps.now in
    let node = c.loop-entry.invariant.from (omega arith) in
    let next : c.loop-entry.entry ≡ c.loop-entry.entry - 1 + 1 = omega arith in
    subst (λ v. Lengthens steps.nodes steps.list.items c.args.limit c.args.start c.loop-entry.numbers c.loop-entry.waits c.loop-entry.queue.items
    (AreLate steps.list.items v (c.loop-entry.entry - 1 + 1))) (sym node)
    (subst (λ e. Lengthens steps.nodes steps.list.items c.args.limit c.args.start c.loop-entry.numbers c.loop-entry.waits c.loop-entry.queue.items
    (AreLate steps.list.items c.args.node e)) next c.loop-entry.invariant.lengthened.state)

pub lengthen_over-requires-clause-climb : goal.lengthen_over-requires-clause-climb
lengthen_over-requires-clause-climb c =
    let steps = c.args.steps.now in
    let node = c.loop-entry.invariant.from (omega arith) in
    subst (ClimbTo steps.list.items c.args.start c.loop-entry.numbers) (sym node) c.loop-entry.invariant.lengthened.climb

pub loop-entry-preserved : goal.loop-entry-preserved
loop-entry-preserved c =
    let steps = c.args.steps.now in
    let rows = steps.by_node in
    let k_in : c.loop-entry.entry - 1 < length steps.list.items = omega (arith, c.loop-entry.invariant.most) in
    let before_in : c.loop-entry.entry - 1 < length steps.rows.before.items = omega (arith, k_in, rows.before_for_each) in
    let read = get_or_read steps.rows.before.items (c.loop-entry.entry - 1) c.index-entry-in-loop-entry.result.now before_in
    c.index-entry-in-loop-entry.ensures 0 in
    let node = c.loop-entry.invariant.from (omega arith) in
    let more = by_true _ _ _ c.if-not-branch.false c.in_ok-lengthen_over.ensures.lengthened in
    let next = lengthened_next steps.nodes steps.list.items c.args.limit c.args.start steps.rows.last.items steps.rows.before.items c.args.node
    (c.loop-entry.entry - 1) c.args.numbers.now c.args.queue.now.items c.loop-entry.numbers c.loop-entry.waits c.loop-entry.queue.items _ _ _ _
    rows k_in node c.loop-entry.invariant.lengthened more in
    record {
      most = omega (arith, read, k_in, rows.before_most (c.loop-entry.entry - 1) k_in);
      from = subst (λ e. 0 < e → (step_at steps.list.items (e - 1)).from ≡ c.args.node) (sym read)
          (λ some. rows.before_from (c.loop-entry.entry - 1) k_in some ∙ node);
      lengthened = subst (λ e. AreLengthened steps.nodes steps.list.items c.args.limit c.args.start c.args.node c.args.numbers.now c.args.queue.now.items
          c.lengthen_over.new.numbers c.lengthen_over.new.waits c.lengthen_over.new.queue.items (AreLate steps.list.items c.args.node e)) (sym read) next;
    }

pub returns-then-not-branch-clause-lengthened : goal.returns-then-not-branch-clause-lengthened
returns-then-not-branch-clause-lengthened c =
    let steps = c.args.steps.now in
    let none = by_false _ _ _ c.if-not-branch.true c.in_ok-lengthen_over.ensures.lengthened in
    none_then steps.nodes steps.list.items c.args.limit c.args.numbers.now c.loop-entry.numbers c.loop-entry.invariant.lengthened.below none

pub returns-clause-lengthened : goal.returns-clause-lengthened
returns-clause-lengthened c =
    let steps = c.args.steps.now in
    let none : c.loop-entry.entry ≡ 0 = omega arith in
    lengthened_all steps.nodes steps.list.items c.args.limit c.args.start c.args.node c.loop-entry.entry c.args.numbers.now c.args.queue.now.items
    c.loop-entry.numbers c.loop-entry.waits c.loop-entry.queue.items none c.loop-entry.invariant.lengthened
