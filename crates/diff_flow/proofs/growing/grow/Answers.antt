use Rattle.std.proofs.Common.{◌≡◌, ◌∙◌, ◌-◌, ◌*◌, List, length, ap, sym, subst, arith}
use Rattle.shape_graphs.specs.declared.graph.Arc.{Arc}
use Rattle.shape_graphs.specs.Arcs.{arc_at}
use Rattle.diff_flow.specs.inner.Networks.{AreMadeFor}
use Rattle.diff_flow.specs.inner.Steps.{step_at, AreOneMore}
use Rattle.diff_flow.specs.inner.Lengthening.{MeetsAlong, StayBelow, NoneAbove}
use Rattle.diff_flow.proofs.SetLemmas.{by_true, written_whole}
use Rattle.diff_flow.proofs.TreeLemmas.{by_false}
use Rattle.diff_flow.proofs.GrowLemmas.{at_any, last_is, made_kept, made_again, made_longer, start_met, cycle_found}
use Rattle.diff_flow.proofs.growing.grow.Goals as goal

pub returns-in_err-push-clause-refused : goal.returns-in_err-push-clause-refused
returns-in_err-push-clause-refused c =
    let is = c.in_err-push.ensures in
    at_any _
    (made_kept c.args.before.now.value c.args.steps.now c.push.new.self c.args.walks.now is.nodes is.kept_arcs is.kept_list is.reach c.requires.made)

pub lengthen-requires-clause-met : goal.lengthen-requires-clause-met
lengthen-requires-clause-met c = λ k k_in apart.
    let one = c.requires.more in
    let old = c.args.steps.now in
    let is = c.in_ok-push.ensures in
    let arc_is : arc_at c.as_slice.result.now c.args.steps.now.arcs ≡ c.requires.more.last =
    ap (λ (ys : List Arc). arc_at ys c.args.steps.now.arcs) c.as_slice.ensures ∙ last_is c.args.before.now.value c.args.graph.now one old.arcs c.requires.made.arcs in
    let more = subst (λ (a : Arc). AreOneMore a c.args.steps.now.arcs c.args.steps.now.list.items c.push.new.self.list.items) arc_is is.list in
    let whole = c.as_mut_slice.ensures.value ∙ c.in_ok-longer.ensures.items in
    subst (λ xs. MeetsAlong xs (step_at c.push.new.self.list.items k)) (sym whole)
    (start_met c.args.before.now.value c.args.graph.now one old c.push.new.self c.args.walks.now c.requires.made is.nodes is.reach is.arcs more
    _ (ap (λ (a : Arc). a.from) arc_is) k k_in apart)

pub returns-then-fits-clause-grown : goal.returns-then-fits-clause-grown
returns-then-fits-clause-grown c =
    let one = c.requires.more in
    let old = c.args.steps.now in
    let is = c.in_ok-push.ensures in
    let arc_is : arc_at c.as_slice.result.now c.args.steps.now.arcs ≡ c.requires.more.last =
    ap (λ (ys : List Arc). arc_at ys c.args.steps.now.arcs) c.as_slice.ensures ∙ last_is c.args.before.now.value c.args.graph.now one old.arcs c.requires.made.arcs in
    let more = subst (λ (a : Arc). AreOneMore a c.args.steps.now.arcs c.args.steps.now.list.items c.push.new.self.list.items) arc_is is.list in
    let walks = c.as_mut_slice.ensures.value ∙ c.in_ok-longer.ensures.items in
    let first = by_true _ _ _ c.if-fits.true c.in-Ok.ensures.first in
    let below = by_true _ _ _ c.if-fits.true c.in-Ok.ensures.below in
    let whole = written_whole c.lengthen.new.numbers c.in_ok-longer.longer.items c.in_ok-longer.longer.len
    (omega (arith, first.one_for_each, is.nodes, c.requires.made.least_met.low.one_for_each, ap length c.in_ok-longer.ensures.items)) in
    subst (AreMadeFor c.args.graph.now c.push.new.self) (sym (c.from_vec.ensures ∙ whole))
    (made_longer c.args.before.now.value c.args.graph.now one old c.push.new.self c.args.walks.now c.requires.made is.nodes is.reach is.arcs more
    c.lengthen.new.numbers first
    (subst (λ xs. StayBelow c.push.new.self.nodes c.push.new.self.list.items xs c.lengthen.new.numbers) walks below))

pub returns-in-Ok-clause-grown : goal.returns-in-Ok-clause-grown
returns-in-Ok-clause-grown c =
    let one = c.requires.more in
    let old = c.args.steps.now in
    let is = c.in_ok-push.ensures in
    let arc_is : arc_at c.as_slice.result.now c.args.steps.now.arcs ≡ c.requires.more.last =
    ap (λ (ys : List Arc). arc_at ys c.args.steps.now.arcs) c.as_slice.ensures ∙ last_is c.args.before.now.value c.args.graph.now one old.arcs c.requires.made.arcs in
    let more = subst (λ (a : Arc). AreOneMore a c.args.steps.now.arcs c.args.steps.now.list.items c.push.new.self.list.items) arc_is is.list in
    let walks = c.as_mut_slice.ensures.value ∙ c.in_ok-longer.ensures.items in
    let none = subst (NoneAbove c.push.new.self.nodes c.push.new.self.list.items ((c.push.new.self.nodes - 1) * c.push.new.self.reach)) walks
    (by_false _ _ _ c.if-fits.false c.in-Ok.ensures.first) in (
      cycle_found c.args.before.now.value c.args.graph.now one old c.push.new.self c.args.walks.now c.requires.made is.nodes is.reach is.arcs more none,
      made_again c.args.before.now.value c.args.graph.now one old c.push.new.self c.args.walks.now c.requires.made is.nodes is.reach is.arcs more
          c.pop.new.self c.pop.ensures.nodes c.pop.ensures.reach c.pop.ensures.arcs c.pop.ensures.list,
    )

pub returns-clause-refused : goal.returns-clause-refused
returns-clause-refused c =
    let one = c.requires.more in
    let old = c.args.steps.now in
    let is = c.in_ok-push.ensures in
    let arc_is : arc_at c.as_slice.result.now c.args.steps.now.arcs ≡ c.requires.more.last =
    ap (λ (ys : List Arc). arc_at ys c.args.steps.now.arcs) c.as_slice.ensures ∙ last_is c.args.before.now.value c.args.graph.now one old.arcs c.requires.made.arcs in
    let more = subst (λ (a : Arc). AreOneMore a c.args.steps.now.arcs c.args.steps.now.list.items c.push.new.self.list.items) arc_is is.list in
    made_again c.args.before.now.value c.args.graph.now one old c.push.new.self c.args.walks.now c.requires.made is.nodes is.reach is.arcs more
    c.pop-in-Err.new.self c.pop-in-Err.ensures.nodes c.pop-in-Err.ensures.reach c.pop-in-Err.ensures.arcs c.pop-in-Err.ensures.list
