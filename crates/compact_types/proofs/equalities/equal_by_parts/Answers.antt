use Rattle.compact_types.proofs.PlanLemmas.{same_plan, same_shape}
use Rattle.compact_types.proofs.equalities.equal_by_parts.Goals as goal

pub returns-clause-plans : goal.returns-clause-plans
returns-clause-plans c = same_plan

pub returns-clause-shapes : goal.returns-clause-shapes
returns-clause-shapes c = same_shape
