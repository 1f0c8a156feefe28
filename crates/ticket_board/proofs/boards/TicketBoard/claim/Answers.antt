use Rattle.std.proofs.Common.{ap, subst, ◌∙◌}
use Rattle.board.specs.Boards.{IsClaimAnswer}
use Rattle.ticket_board.proofs.AddedEntries.{goes_back}
use Rattle.ticket_board.proofs.AnsweredTurns.{claims, ends, knows, more}
use Rattle.ticket_board.proofs.boards.TicketBoard.claim.Goals as goal

pub end_turn-requires-clause-adds : goal.end_turn-requires-clause-adds
end_turn-requires-clause-adds g c κs within =
    goes_back _ _ _ _ _ c.begin_turn-seat.ensures.taken c.begin_turn-seat.ensures.its c.pass.invariant.same c.claim_on-claim.ensures.adds

pub returns-clause-more : goal.returns-clause-more
returns-clause-more g c =
    let begun = c.begin_turn-seat.ensures in
    let old = c.args.pass.now in
    more g.P.Backing.objective g.P.Backing.backs _ old _ _ c.claim_on-claim.new.board
    (ends _ _ _ _ _ _ _ old c.pass.view_is begun.taken (c.end_turn.ensures.table ∙ begun.table) c.end_turn.ensures.views)
    (knows g.P.Backing.objective g.P.Backing.backs _ _ _ old c.pass.view_is begun.its begun.facts) c.claim_on-claim.ensures.adds c.end_turn.ensures.legal

pub returns-clause-answer : goal.returns-clause-answer
returns-clause-answer g c =
    let begun = c.begin_turn-seat.ensures in
    let claimed = c.claim_on-claim in
    let old = c.args.pass.now in
    let number = c.pass.invariant.same ∙ ap (λ pass. pass.number) c.pass.view_is in
    claims g.P.Backing.objective g.P.Backing.backs old _ _ claimed.new.board c.args.branch.now claimed.result
    (ends _ _ _ _ _ _ _ old c.pass.view_is begun.taken (c.end_turn.ensures.table ∙ begun.table) c.end_turn.ensures.views)
    (knows g.P.Backing.objective g.P.Backing.backs _ _ _ old c.pass.view_is begun.its begun.facts)
    (subst (λ number. IsClaimAnswer c.begin_turn-seat.result.1 number c.args.branch.now claimed.result claimed.new.board) number claimed.ensures.answer)
    c.end_turn.ensures.legal
