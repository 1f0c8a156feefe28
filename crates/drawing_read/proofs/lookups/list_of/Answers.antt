use Rattle.drawing_read.proofs.LegibleLemmas.{legible_list}
use Rattle.drawing_read.proofs.lookups.list_of.Goals as goal

pub returns-in-Inner-clause-legible : goal.returns-in-Inner-clause-legible
returns-in-Inner-clause-legible c = legible_list c.args.pair.now c.in-Inner.tree c.in-Inner.is
