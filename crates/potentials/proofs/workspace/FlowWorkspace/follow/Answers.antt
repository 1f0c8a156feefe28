use Rattle.std.proofs.Common.{◌≡◌, ◌+◌, suc, [], ◌∷◌, ◌++◌, take, ap, sym, subst, ◌∙◌, List, ℕ, arith}
use Rattle.std.proofs.Math.Seq.{take-suc}
use Rattle.std.proofs.lemmas.List.{take_all}
use Rattle.compact_types.specs.declared.search.Choice.{Choice}
use Rattle.compact_types.specs.declared.places.Axis.{Axis}
use Rattle.bars.specs.Sides.{side_axis}
use Rattle.bars.specs.Solutions.{choice_at, Fit}
use Rattle.shape_graphs.specs.Measures.{IsFirstCyclic}
use Rattle.potentials.proofs.WorkspaceLemmas.{front_fits, no_choice}
use Rattle.potentials.proofs.workspace.FlowWorkspace.follow.Goals as goal

pub loop-i-init : goal.loop-i-init
loop-i-init c = (
  c.go_back.ensures.workspace,
  c.go_back.ensures.choices ∙ sym (ap (take c.common_front-kept.result) c.as_slice.ensures) ∙ c.common_front-kept.ensures.same,
)

pub push-requires-clause-workspace : goal.push-requires-clause-workspace
push-requires-clause-workspace c = c.loop-i.invariant.0

pub push-requires-clause-fit : goal.push-requires-clause-fit
push-requires-clause-fit c =
    let all = c.as_slice-choices.result.now in
    let longer : c.loop-i.self.graphs.choices ++ choice_at all c.loop-i.i ∷ [] ≡ take (suc c.loop-i.i) all =
    ap (λ (l : List Choice). l ++ choice_at all c.loop-i.i ∷ []) c.loop-i.invariant.1 ∙ sym (take-suc all c.loop-i.i no_choice c.loop-i-test.true) in
    subst (Fit c.args.bars.now) (sym longer)
    (front_fits c.args.bars.now all (suc c.loop-i.i) (omega (arith, c.loop-i-test.true)) (subst (Fit c.args.bars.now) (sym c.as_slice-choices.ensures) c.requires.fit))

pub returns-in-Some-clause-followed : goal.returns-in-Some-clause-followed
returns-in-Some-clause-followed c =
    let all = c.as_slice-choices.result.now in
    let pushed = rw c.in-Some.is at c.in_ok-cycle.ensures in
    let longer : c.loop-i.self.graphs.choices ++ choice_at all c.loop-i.i ∷ [] ≡ c.args.extension.now.choices =
    ap (λ (l : List Choice). l ++ choice_at all c.loop-i.i ∷ []) c.loop-i.invariant.1 ∙ sym (take-suc all c.loop-i.i no_choice c.loop-i-test.true)
    ∙ take_all (suc c.loop-i.i) all (omega (arith, c.if-i-choices.false)) ∙ c.as_slice-choices.ensures in
    subst (λ (a : Axis). IsFirstCyclic c.args.bars.now c.args.extension.now.choices a c.in-Some.cycle.arcs) (sym c.axis_of_side.ensures)
    (subst (λ (l : List Choice). IsFirstCyclic c.args.bars.now l (side_axis (choice_at all c.loop-i.i).side) c.in-Some.cycle.arcs) longer pushed.1.1)

pub loop-i-preserved : goal.loop-i-preserved
loop-i-preserved c =
    let all = c.as_slice-choices.result.now in
    let pushed = rw c.in_default.is at c.in_ok-cycle.ensures in
    let next : suc c.loop-i.i ≡ c.loop-i.i + 1 = omega (arith) in (
      pushed.0,
      pushed.1 ∙ ap (λ (l : List Choice). l ++ choice_at all c.loop-i.i ∷ []) c.loop-i.invariant.1
          ∙ sym (take-suc all c.loop-i.i no_choice c.loop-i-test.true) ∙ ap (λ (n : ℕ). take n all) next,
    )

pub returns-clause-workspace : goal.returns-clause-workspace
returns-clause-workspace c = c.loop-i.invariant.0

pub returns-clause-followed : goal.returns-clause-followed
returns-clause-followed c =
    let all = c.as_slice-choices.result.now in
    c.loop-i.invariant.1 ∙ take_all c.loop-i.i all (omega (arith, c.loop-i-test.false)) ∙ c.as_slice-choices.ensures
