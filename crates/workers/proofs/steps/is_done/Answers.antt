use Rattle.workers.proofs.HandLemmas.{going_by_look}
use Rattle.workers.proofs.steps.is_done.Goals as goal

pub returns-clause-going : goal.returns-clause-going
returns-clause-going g c = going_by_look c.args.hand.now c.look.new.pass c.look.ensures.more c.look.ensures.mine
