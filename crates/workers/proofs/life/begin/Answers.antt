use Rattle.workers.proofs.HandLemmas.{going_itself}
use Rattle.workers.proofs.life.begin.Goals as goal

pub returns-in-None-clause-going : goal.returns-in-None-clause-going
returns-in-None-clause-going g c = going_itself c.args.hand.now
