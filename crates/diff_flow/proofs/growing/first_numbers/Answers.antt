use Rattle.std.proofs.Common.{◌∙◌, ap, sym, subst, arith}
use Rattle.diff_flow.specs.declared.steps.ResidualArc.{ResidualArc}
use Rattle.diff_flow.specs.inner.Steps.{step_at}
use Rattle.diff_flow.specs.inner.Lengthening.{MeetsAlong}
use Rattle.diff_flow.specs.inner.Routing.{AreFirst}
use Rattle.diff_flow.proofs.BestLemmas.{walks_meet}
use Rattle.diff_flow.proofs.GrowLemmas.{first_low, first_met}
use Rattle.diff_flow.proofs.growing.first_numbers.Goals as goal

pub lengthen-requires-clause-inside : goal.lengthen-requires-clause-inside
lengthen-requires-clause-inside c =
    rw c.as_mut_slice.ensures.value
    (first_low c.args.graph.now.value c.args.steps.now c.args.walks.now c.requires.made c.args.numbers.now c.in_ok-first.first.items c.requires.least
    (c.in_ok-first.ensures.len ∙ c.requires.one_for_each)
    (λ v v_in. c.in_ok-first.ensures.each v (omega (arith, v_in, c.requires.one_for_each))))

pub lengthen-requires-clause-met : goal.lengthen-requires-clause-met
lengthen-requires-clause-met c = λ k k_in apart.
    subst (λ xs. MeetsAlong xs (step_at c.args.steps.now.list.items k)) (sym c.as_mut_slice.ensures.value)
    (first_met c.args.graph.now.value c.args.steps.now c.args.walks.now c.requires.made c.args.numbers.now c.in_ok-first.first.items c.requires.least
    (c.in_ok-first.ensures.len ∙ c.requires.one_for_each)
    (λ v v_in. c.in_ok-first.ensures.each v (omega (arith, v_in, c.requires.one_for_each)))
    c.along-start.result.from (ap (λ (s : ResidualArc). s.from) c.along-start.ensures.is) k k_in apart)

pub returns : goal.returns
returns c =
    let steps = c.args.steps.now in
    subst (AreFirst steps.nodes steps.arcs _ steps.list.items) (sym c.in_ok-from_slice.ensures.items)
    (walks_meet steps.nodes steps.arcs _ steps.list.items _ c.args.walks.now steps.paired c.requires.made.least_met)
