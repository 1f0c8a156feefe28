use Rattle.compact_main.proofs.LineLengths.{then}
use Rattle.compact_main.proofs.notify.push_entry.Goals as goal

pub returns-clause-added : goal.returns-clause-added
returns-clause-added c = then (then c.push.ensures c.push_number.ensures.added) c.push-2.ensures
