use Rattle.std.proofs.Common.{[], ◌∷◌, ◌++◌, sym, ap, subst, ◌∙◌}
use Rattle.compact_types.specs.declared.search.Choice.{Choice}
use Rattle.bars.specs.Solutions.{Fit}
use Rattle.cert_check.specs.inner.Branches.{IsAt, later}
use Rattle.cert_check.proofs.BranchLemmas.{at_popped, at_pushed, last_side, next_first, next_fits}
use Rattle.cert_check.proofs.sides.next_branch.Goals as goal

pub push-requires-clause-grown : goal.push-requires-clause-grown
push-requires-clause-grown c = c.pop.ensures.grown c.args.bars.now c.loop-choice.invariant.at.grown

pub push-requires-clause-fit : goal.push-requires-clause-fit
push-requires-clause-fit c =
    subst (λ (other : Choice). Fit c.args.bars.now (c.pop.new.self.choices ++ other ∷ [])) (sym c.with_next_side.ensures)
    (next_fits c.args.bars.now c.pop.new.self.choices c.in-Some.choice
    (subst (Fit c.args.bars.now) c.in-Some.ensures.choice c.loop-choice.invariant.at.grown.fit) c.if-choice-lt3.true)

pub returns-then-choice-lt3 : goal.returns-then-choice-lt3
returns-then-choice-lt3 c =
    let popped : IsAt c.args.bars.now c.pop.new.self =
    at_popped c.args.bars.now c.loop-choice.branch c.pop.new.self c.in-Some.choice c.loop-choice.invariant.at
    (c.pop.ensures.grown c.args.bars.now c.loop-choice.invariant.at.grown) c.in-Some.ensures.amounts in
    record {
      at = at_pushed c.args.bars.now c.pop.new.self c.push.new.self c.with_next_side.result popped c.in_ok-push.ensures.grown c.in_ok-push.ensures.amounts;
      first = c.loop-choice.invariant.same
          ∙ next_first c.pop.new.self.choices c.loop-choice.branch.choices c.push.new.self.choices c.in-Some.choice c.with_next_side.result
          c.in-Some.ensures.choice c.if-choice-lt3.true c.with_next_side.ensures c.in_ok-push.ensures.choices;
    }

pub loop-choice-preserved : goal.loop-choice-preserved
loop-choice-preserved c = record {
  at = at_popped c.args.bars.now c.loop-choice.branch c.pop.new.self c.in-Some.choice c.loop-choice.invariant.at
      (c.pop.ensures.grown c.args.bars.now c.loop-choice.invariant.at.grown) c.in-Some.ensures.amounts;
  same = c.loop-choice.invariant.same ∙ ap later c.in-Some.ensures.choice
      ∙ last_side c.pop.new.self.choices c.in-Some.choice c.if-choice-lt3.false;
}
