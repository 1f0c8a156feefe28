use Rattle.workers.proofs.HandLemmas.{halted_on_err}
use Rattle.workers.proofs.life.work.Goals as goal

pub returns-clause-refused : goal.returns-clause-refused
returns-clause-refused g c =
    halted_on_err c.live-ended.result c.args.hand c.live-ended.new.hand c.halt_if_refused.new.hand c.live-ended.ensures.stopped
    c.halt_if_refused.ensures.refused
