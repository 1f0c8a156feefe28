use Rattle.std.proofs.Common.{◌+◌, Bool, List, ◌∷◌, ◌++◌, refl, sym, subst}
use Rattle.compact_types.specs.declared.search.Choice.{Choice}
use Rattle.cert_text.specs.Accepting.{opened_by}
use Rattle.cert_check.specs.inner.Branches.{later}
use Rattle.cert_check.proofs.BoundLemmas.{other_refusal}
use Rattle.cert_check.proofs.BranchLemmas.{at_root}
use Rattle.cert_check.proofs.WalkLemmas.{IsAtEntry, at_start, way_more, fault_here, at_end, next_is, none_is_next}
use Rattle.cert_check.proofs.walk.walk.Goals as goal

pub loop-entry-init : goal.loop-entry-init
loop-entry-init c = record {
  at = at_root c.args.bars.now c.in_ok-branch.branch c.in_ok-branch.ensures.grown c.in_ok-branch.ensures.amounts;
  way = subst (λ (choices : List Choice). IsAtEntry c.args.bars.now c.args.answer.now.places.now c.args.nodes.now 0 (choices ∷ later choices))
      (sym c.in_ok-branch.ensures.choices)
      (at_start c.args.bars.now c.args.answer.now.places.now c.args.nodes.now c.requires.whole c.requires.shallow);
}

pub returns-in-Err-clause-fault : goal.returns-in-Err-clause-fault
returns-in-Err-clause-fault c =
    other_refusal Bool (Unit {0}) _ _ c.in-Err.refusal
    (fault_here c.args.bars.now c.args.answer.now.places.now c.args.nodes.now c.loop-entry.entry c.loop-entry.branch.choices (later c.loop-entry.branch.choices)
    c.index-nodes-entry.result c.loop-entry-test.true c.index-nodes-entry.is c.loop-entry.invariant.way)
    c.in-Err.ensures.fault

pub returns-then-not-more-clause-good : goal.returns-then-not-more-clause-good
returns-then-not-more-clause-good c =
    at_end c.args.bars.now c.args.answer.now.places.now c.args.nodes.now (c.loop-entry.entry + 1)
    (opened_by c.index-nodes-entry.result c.loop-entry.branch.choices ++ later c.loop-entry.branch.choices) _
    (none_is_next c.args.bars.now _ c.step.new.branch c.in-Ok.more c.if-not-more.true c.in-Ok.ensures.next)
    (way_more c.args.bars.now c.args.answer.now.places.now c.args.nodes.now c.loop-entry.entry (c.loop-entry.entry + 1) c.loop-entry.branch.choices
    (later c.loop-entry.branch.choices) c.index-nodes-entry.result refl c.loop-entry-test.true c.index-nodes-entry.is c.loop-entry.invariant.way
    c.in-Ok.ensures.good)

pub loop-entry-preserved : goal.loop-entry-preserved
loop-entry-preserved c =
    let next = next_is c.args.bars.now _ c.step.new.branch c.in-Ok.more c.if-not-more.false c.in-Ok.ensures.next in
    record {
      at = next.at;
      way = subst (λ (branches : List (List Choice)). IsAtEntry c.args.bars.now c.args.answer.now.places.now c.args.nodes.now (c.loop-entry.entry + 1) branches)
          next.first
          (way_more c.args.bars.now c.args.answer.now.places.now c.args.nodes.now c.loop-entry.entry (c.loop-entry.entry + 1) c.loop-entry.branch.choices
          (later c.loop-entry.branch.choices) c.index-nodes-entry.result refl c.loop-entry-test.true c.index-nodes-entry.is c.loop-entry.invariant.way
          c.in-Ok.ensures.good);
    }
