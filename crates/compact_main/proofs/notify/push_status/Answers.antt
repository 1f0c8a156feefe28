use Rattle.compact_main.proofs.LineLengths.{then}
use Rattle.compact_main.proofs.notify.push_status.Goals as goal

pub returns-in-Refused-clause-added : goal.returns-in-Refused-clause-added
returns-in-Refused-clause-added c = rw c.in-Refused.is (then c.push-in-Refused.ensures c.push_why.ensures.added)

pub returns-in-BadWords-clause-added : goal.returns-in-BadWords-clause-added
returns-in-BadWords-clause-added c = rw c.in-BadWords.is c.push-in-BadWords.ensures

pub returns-in-NotProved-clause-added : goal.returns-in-NotProved-clause-added
returns-in-NotProved-clause-added c = rw c.in-NotProved.is (then c.push-in-NotProved.ensures c.push_unproved.ensures.added)
