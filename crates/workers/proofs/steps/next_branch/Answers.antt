use Rattle.workers.proofs.HandLemmas.{going_itself}
use Rattle.workers.proofs.steps.next_branch.Goals as goal

pub returns-in-Some-clause-going : goal.returns-in-Some-clause-going
returns-in-Some-clause-going g c = going_itself c.args.hand.now
