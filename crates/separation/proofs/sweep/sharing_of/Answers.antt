use Rattle.std.proofs.Common.{sym, ◌∙◌}
use Rattle.std.proofs.lemmas.Bool.{both_ways}
use Rattle.separation.proofs.CandidateLemmas.{share_along, shared_by_these}
use Rattle.separation.proofs.sweep.sharing_of.Goals as goal

pub returns-then-not-overlap-clause-share : goal.returns-then-not-overlap-clause-share
returns-then-not-overlap-clause-share c = λ axis places drawing ways first second s t these pair share.
    both_ways _ (sym c.overlap.ensures ∙ c.if-not-overlap.true)
    ((share_along c.args.bars.now drawing places ways axis c.args.first c.args.second s t first second these).1 share)

pub returns-then-are_joined-clause-share : goal.returns-then-are_joined-clause-share
returns-then-are_joined-clause-share c = λ axis places drawing ways first second s t these pair share.
    pair.apart (shared_by_these c.args.bars.now c.args.first.segment c.args.second.segment s t these (c.are_joined.ensures.0 c.if-are_joined.true))

pub returns-clause-share : goal.returns-clause-share
returns-clause-share c = λ axis places drawing ways first second.
    (share_along c.args.bars.now drawing places ways axis c.args.first c.args.second c.in_order.result.0 c.in_order.result.1 first second
    c.in_order.ensures.1).0 (sym c.overlap.ensures ∙ c.if-not-overlap.false)
