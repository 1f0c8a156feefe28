use Rattle.shape_graphs.proofs.SolutionLemmas.{path_rises_by_one, no_cycle_in_solution, some_solution}
use Rattle.shape_graphs.proofs.law.solutions_and_cycles.Goals as goal

pub returns-clause-rises : goal.returns-clause-rises
returns-clause-rises c = λ arcs numbers a b within. path_rises_by_one arcs numbers a b (λ i h. (within i h).some_least)

pub returns-clause-none : goal.returns-clause-none
returns-clause-none c = no_cycle_in_solution

pub returns-clause-some : goal.returns-clause-some
returns-clause-some c = some_solution
