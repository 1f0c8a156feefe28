use Rattle.diff_flow.proofs.LesserSolutions.{shortest_meet, tight_meet}
use Rattle.diff_flow.proofs.law.least_solutions_meet.Goals as goal

pub returns-clause-shortest : goal.returns-clause-shortest
returns-clause-shortest c = shortest_meet

pub returns-clause-tight : goal.returns-clause-tight
returns-clause-tight c = tight_meet
