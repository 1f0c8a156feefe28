use Rattle.compact_main.proofs.LineLengths.{then}
use Rattle.compact_main.proofs.notify.push_draw_fault.Goals as goal

pub returns-in-BadPoint-clause-added : goal.returns-in-BadPoint-clause-added
returns-in-BadPoint-clause-added c = rw c.in-BadPoint.is (then c.push_around-in-BadPoint.ensures.added c.push_number.ensures.added)
