use Rattle.ticket_board.proofs.AddedEntries.{adds_claim}
use Rattle.ticket_board.proofs.claiming.claim_on.Goals as goal

pub returns-clause-adds : goal.returns-clause-adds
returns-clause-adds g c = adds_claim _ _ _ _ c.claim-claim.result c.claim-claim.ensures
