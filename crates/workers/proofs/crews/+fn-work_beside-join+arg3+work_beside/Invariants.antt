use Rattle.std.proofs.Common.{length}
use Rattle.workers.proofs.crews.+fn-work_beside-join+arg3+work_beside.Given as goal

abbrev pub decreases-join+arg3 : goal.decreases-join+arg3
decreases-join+arg3 g l = length l.desks

abbrev pub decreases-work_beside : goal.decreases-work_beside
decreases-work_beside g l = length l.desks
