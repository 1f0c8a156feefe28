use Rattle.steal_lanes.proofs.LawLemmas.{handed_in_order}
use Rattle.steal_lanes.proofs.law.lanes_are_queues.Goals as goal

pub returns-clause-handed : goal.returns-clause-handed
returns-clause-handed c = handed_in_order
