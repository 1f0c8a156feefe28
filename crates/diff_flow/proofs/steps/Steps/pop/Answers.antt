use Rattle.std.proofs.Common.{◌≡◌, ◌+◌, ◌-◌, ◌*◌, ◌∙◌, length, get_or, set, take, ap, sym, subst, arith}
use Rattle.diff_flow.specs.declared.steps.ResidualArc.{ResidualArc}
use Rattle.diff_flow.specs.inner.Steps.{step_at, AreStepsWithin, ArePaired, AreRows}
use Rattle.diff_flow.proofs.GrownSteps.{two_less, within_shrunk, paired_shrunk, rows_shrunk}
use Rattle.diff_flow.proofs.steps.Steps.pop.Goals as goal

pub invariant_of-self : goal.invariant_of-self
invariant_of-self c =
    let self = c.args.self.now in
    let list = self.list.items in
    let last = self.rows.last.items in
    let before = self.rows.before.items in
    let from = c.along-step.result.from in
    let to = c.along-step.result.to in
    let one : self.arcs - 1 + 1 ≡ self.arcs = omega (arith, c.requires) in
    let paired : ArePaired (self.arcs - 1 + 1) self.list.items = subst (λ n. ArePaired n self.list.items) (sym one) self.paired in
    let within : AreStepsWithin self.nodes (self.arcs - 1 + 1) self.reach self.list.items =
    subst (λ n. AreStepsWithin self.nodes n self.reach self.list.items) (sym one) self.within in
    let items = c.truncate.ensures.items in
    let all : length self.list.items ≡ 2 * (self.arcs - 1) + 2 = omega (arith, self.paired.two_for_each, c.requires) in
    let begins : (step_at self.list.items (2 * (self.arcs - 1))).from ≡ c.along-step.result.from =
    ap (λ (s : ResidualArc). s.from) (sym c.along-step.ensures.is) in
    let ends : (step_at self.list.items (2 * (self.arcs - 1) + 1)).from ≡ c.along-step.result.to =
    (paired.back (self.arcs - 1) (omega arith)).from ∙ ap (λ (s : ResidualArc). s.to) (sym c.along-step.ensures.is) in
    let rows = rows_shrunk self.nodes (2 * (self.arcs - 1)) from to list last before all begins ends c.along-step.ensures.within.from
    c.along-step.ensures.within.to self.by_node in
    let less = two_less self.nodes (self.arcs - 1) self.reach list paired in
    let whole : length c.truncate.new.self.items ≡ 2 * (self.arcs - 1) = ap length items ∙ less in
    let p : length self.rows.before.items - 1 ≡ 2 * (self.arcs - 1) + 1 = omega (arith, self.by_node.before_for_each, all) in
    let q : length self.rows.before.items - 2 ≡ 2 * (self.arcs - 1) = omega (arith, self.by_node.before_for_each, all) in
    let last_is = c.pop.ensures.last
    ∙ ap (λ n. set (set last to (get_or before n 0)) from (get_or before (length before - 2) 0)) p
    ∙ ap (λ n. set (set last to (get_or before (2 * (self.arcs - 1) + 1) 0)) from (get_or before n 0)) q in
    let before_is = c.pop.ensures.before ∙ ap (λ n. take n before) q in
    record {
      few = omega (arith, whole, all, self.few);
      low = self.low;
      short = self.short;
      within = subst (AreStepsWithin self.nodes (self.arcs - 1) self.reach) (sym items)
          (within_shrunk self.nodes (self.arcs - 1) self.reach list paired within);
      paired = subst (ArePaired (self.arcs - 1)) (sym items) (paired_shrunk self.nodes (self.arcs - 1) self.reach list paired);
      by_node = subst (λ n. AreRows self.nodes n c.truncate.new.self.items c.pop.new.self.last.items c.pop.new.self.before.items) (sym whole)
          (subst (λ ss. AreRows self.nodes (2 * (self.arcs - 1)) ss c.pop.new.self.last.items c.pop.new.self.before.items) (sym items)
          (subst (λ xs. AreRows self.nodes (2 * (self.arcs - 1)) (take (2 * (self.arcs - 1)) list) xs c.pop.new.self.before.items) (sym last_is)
          (subst (AreRows self.nodes (2 * (self.arcs - 1)) (take (2 * (self.arcs - 1)) list) _) (sym before_is) rows)));
    }
