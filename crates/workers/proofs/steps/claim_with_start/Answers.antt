use Rattle.workers.proofs.StartLemmas.{taken_up_by_claim}
use Rattle.workers.proofs.steps.claim_with_start.Goals as goal

pub returns-in-Some-clause-taken : goal.returns-in-Some-clause-taken
returns-in-Some-clause-taken g c =
    taken_up_by_claim c.args.pass.now c.claim.new.pass c.args.branch.now c.claim.result c.claim.ensures.answer c.claim.ensures.more

pub returns-in-None-clause-taken : goal.returns-in-None-clause-taken
returns-in-None-clause-taken g c =
    taken_up_by_claim c.args.pass.now c.claim_with_proof.new.pass c.args.branch.now c.claim_with_proof.result.0
    c.claim_with_proof.ensures.answer c.claim_with_proof.ensures.more
