use Rattle.std.proofs.Common.{◌<◌, ℕ, List, slice_index, arith, subst, sym, ◌∙◌, length}
use Rattle.std.proofs.lemmas.List.{get_or_default}
use Rattle.bars.specs.Lines.{is_least}
use Rattle.bars.specs.inner.Leads.{AreLeads}
use Rattle.bars.proofs.LineTables.{numbered_begins, numbered_follows, lead_below}
use Rattle.bars.proofs.LineNumbers.{count_below_bound}
use Rattle.bars.proofs.lines.lines_along.Goals as goal
use Rattle.bars.proofs.lines.lines_along.Goals.{then-lead-v+in_ok-push, else-lead-v+in_ok-push-2}

pub overflow_add-count : goal.overflow_add-count
overflow_add-count c =
    let bound = count_below_bound (is_least c.args.axis c.args.shape.now) c.loop-v.v in
    let counted = c.loop-v.invariant.counted in
    omega (arith, bound, counted)

pub loop-v-preserved : goal.loop-v-preserved
loop-v-preserved c =
    let leads = c.as_slice-leads.result.now in
    let v = c.loop-v.v in
    let are : AreLeads c.args.axis c.args.shape.now (length c.args.shape.now.plan.pieces) leads =
    subst (λ (l : List ℕ). AreLeads c.args.axis c.args.shape.now (length c.args.shape.now.plan.pieces) l) (sym c.as_slice-leads.ensures.value) c.in_ok-groups.ensures in
    let within : v < c.args.shape.now.plan.vertices = omega arith in
    elim c.if-lead-v.branch [
      | then-lead-v+in_ok-push w ↦ rw (w.of-is, w.count-is)
          (numbered_begins c.args.axis c.args.shape.now leads are v within c.loop-v.of.items w.push.new.self.items c.loop-v.count
          (omega (arith, w.if-lead-v.true)) w.in_ok-push.ensures.items c.loop-v.invariant)
      | else-lead-v+in_ok-push-2 w ↦ rw (w.of-is, w.count-is)
          (numbered_follows c.args.axis c.args.shape.now leads are v within c.loop-v.of.items w.push-else-lead-v.new.self.items c.loop-v.count w.index-line.result.now
          w.if-lead-v.false
          (w.index-line.ensures ∙ get_or_default c.loop-v.of.items (slice_index leads v) _ 0
          (let below = lead_below c.args.axis c.args.shape.now leads are v within in omega (arith, below, w.if-lead-v.false, c.loop-v.invariant.one_for_each)))
          w.in_ok-push-2.ensures.items c.loop-v.invariant)
    ]
