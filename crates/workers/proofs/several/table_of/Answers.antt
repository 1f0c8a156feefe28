use Rattle.workers.proofs.CrewLemmas.{newcomers_made}
use Rattle.workers.proofs.several.table_of.Goals as goal

pub returns-clause-passes : goal.returns-clause-passes
returns-clause-passes g c = newcomers_made _ _ _ c.new.result c.new.ensures.passes
