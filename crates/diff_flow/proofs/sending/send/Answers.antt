use Rattle.std.proofs.Common.{◌≡◌, ◌∙◌, sym, ap, subst, arith}
use Rattle.std.proofs.lemmas.List.{get_or_read}
use Rattle.diff_flow.specs.declared.tree.Reached.{Reached}
use Rattle.diff_flow.specs.declared.steps.ResidualArc.{ResidualArc}
use Rattle.diff_flow.specs.inner.Steps.{step_at}
use Rattle.diff_flow.specs.inner.Search.{no_entry, step_of_entry}
use Rattle.diff_flow.specs.inner.Routing.{IsSent}
use Rattle.diff_flow.proofs.RouteLemmas.{IsSending, sending_next}
use Rattle.diff_flow.proofs.sending.send.Goals as goal

pub pass-requires-clause-along : goal.pass-requires-clause-along
pass-requires-clause-along c = λ up.
    let steps = c.args.steps.now in
    let tree = c.args.tree.now.entries.items in
    let read = get_or_read tree c.loop-at.at c.index-entry.result.now c.loop-at.invariant.here c.index-entry.ensures no_entry in
    let is : c.at.result ≡ step_of_entry steps.list.items tree c.loop-at.at = c.at.ensures.is ∙ ap (λ (e : Reached). step_at steps.list.items e.step) read in
    let fresh = rw (← is) at (c.loop-at.invariant.fresh c.loop-at.at c.loop-at-test.true (omega arith)) in
    omega (arith, fresh up, c.requires.low c.at.result.arc c.at.ensures.within.arc)

pub loop-at-preserved : goal.loop-at-preserved
loop-at-preserved c =
    let steps = c.args.steps.now in
    let tree = c.args.tree.now.entries.items in
    let read = get_or_read tree c.loop-at.at c.index-entry.result.now c.loop-at.invariant.here c.index-entry.ensures no_entry in
    let is : c.at.result ≡ step_of_entry steps.list.items tree c.loop-at.at = c.at.ensures.is ∙ ap (λ (e : Reached). step_at steps.list.items e.step) read in
    let sent = subst (λ (s : ResidualArc). IsSent s c.args.amount c.loop-at.amounts c.pass.new.amounts) is c.pass.ensures in
    subst (λ (e : Reached). IsSending steps.nodes steps.arcs steps.list.items c.args.amount c.args.numbers.now tree c.args.amounts.now c.pass.new.amounts e.parent)
    (sym read)
    (sending_next steps.nodes steps.arcs steps.list.items c.args.amount c.args.numbers.now tree c.args.tree.now.places.items c.args.amounts.now
    steps.paired c.requires.tree c.loop-at.at c.loop-at.amounts c.pass.new.amounts c.loop-at-test.true c.loop-at.invariant sent)
