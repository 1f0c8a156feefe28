use Rattle.std.proofs.Common.{ap, subst, ◌∙◌}
use Rattle.board.specs.Boards.{IsClaimAnswer}
use Rattle.ticket_board.proofs.AddedEntries.{goes_back}
use Rattle.ticket_board.proofs.StartingProofs.{starts}
use Rattle.ticket_board.proofs.AnsweredTurns.{claims, ends, knows, more}
use Rattle.ticket_board.proofs.claiming.claim_with_proof.Goals as goal

pub end_turn-requires-clause-adds : goal.end_turn-requires-clause-adds
end_turn-requires-clause-adds g c κs within =
    goes_back _ _ _ _ _ c.begin_turn-seat.ensures.taken c.begin_turn-seat.ensures.its c.pass.invariant.same c.claim_on-claim.ensures.adds

pub returns-clause-more : goal.returns-clause-more
returns-clause-more g c =
    let begun = c.begin_turn-seat.ensures in
    let old = c.args.pass.now in
    more g.M.Proof.Backing.objective g.M.Proof.Backing.backs _ old _ _ c.claim_on-claim.new.board
    (ends _ _ _ _ _ _ _ old c.pass.view_is begun.taken (c.end_turn.ensures.table ∙ begun.table) c.end_turn.ensures.views)
    (knows g.M.Proof.Backing.objective g.M.Proof.Backing.backs _ _ _ old c.pass.view_is begun.its begun.facts) c.claim_on-claim.ensures.adds c.end_turn.ensures.legal

pub returns-clause-answer : goal.returns-clause-answer
returns-clause-answer g c =
    let begun = c.begin_turn-seat.ensures in
    let claimed = c.claim_on-claim in
    let old = c.args.pass.now in
    let number = c.pass.invariant.same ∙ ap (λ pass. pass.number) c.pass.view_is in
    claims g.M.Proof.Backing.objective g.M.Proof.Backing.backs old _ _ claimed.new.board c.args.branch.now claimed.result
    (ends _ _ _ _ _ _ _ old c.pass.view_is begun.taken (c.end_turn.ensures.table ∙ begun.table) c.end_turn.ensures.views)
    (knows g.M.Proof.Backing.objective g.M.Proof.Backing.backs _ _ _ old c.pass.view_is begun.its begun.facts)
    (subst (λ number. IsClaimAnswer c.begin_turn-seat.result.1 number c.args.branch.now claimed.result claimed.new.board) number claimed.ensures.answer)
    c.end_turn.ensures.legal

pub returns-clause-proof : goal.returns-clause-proof
returns-clause-proof g c =
    let begun = c.begin_turn-seat.ensures in
    let claimed = c.claim_on-claim in
    let shape = ap (λ pass. pass.home.shape) c.pass.view_is ∙ ap (λ home. home.shape) c.requires in
    starts g.M.Proof.Backing.backs c.args.board.now.shape c.begin_turn-seat.result.1 claimed.new.board c.pass.inside.number c.args.branch.now claimed.result c.copied_proof-proof.result
    (begun.its.shape ∙ shape) claimed.ensures.answer c.copied_proof-proof.ensures
