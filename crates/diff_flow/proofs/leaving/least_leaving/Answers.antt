use Rattle.std.proofs.Common.{◌≡◌, ◌<◌, length, arith, ap, subst}
use Rattle.std.proofs.lemmas.List.{get_or_read}
use Rattle.diff_flow.specs.declared.tree.Reached.{Reached}
use Rattle.diff_flow.specs.inner.Search.{entry_at, no_entry, IsLeastLeaving, IsScanned}
use Rattle.diff_flow.proofs.TurnLemmas.{least_entry, least_of_all}
use Rattle.diff_flow.proofs.leaving.least_leaving.Goals as goal

pub loop-at-preserved : goal.loop-at-preserved
loop-at-preserved c =
    let steps = c.args.steps.now in
    let tree = c.args.tree.now.entries.items in
    let places = c.args.tree.now.places.items in
    let at_in : c.loop-at.at < length tree = omega arith in
    let read = get_or_read tree c.loop-at.at c.index.result.now at_in c.index.ensures no_entry in
    let node : c.index.result.now.node ≡ (entry_at tree c.loop-at.at).node = ap (λ (e : Reached). e.node) read in
    let seen = c.lesser_from-least.ensures c.loop-at.at (rw c.as_slice.ensures.value c.loop-at.invariant) in
    least_entry steps.nodes steps.arcs steps.reach steps.list.items c.args.numbers.now places tree c.loop-at.at c.lesser_from-least.result
    steps.within c.requires.placed at_in
    (subst (λ v. IsLeastLeaving (IsScanned steps.list.items places c.loop-at.at v 0) steps.list.items c.args.numbers.now places
    c.lesser_from-least.result) node (rw c.as_slice.ensures.value at seen))

pub returns : goal.returns
returns c =
    let steps = c.args.steps.now in
    let tree = c.args.tree.now.entries.items in
    let all : c.loop-at.at ≡ length tree = omega arith in
    least_of_all steps.nodes steps.arcs steps.reach steps.list.items c.args.numbers.now c.args.tree.now.places.items tree c.loop-at.at
    c.loop-at.least steps.within c.requires.placed all c.loop-at.invariant
