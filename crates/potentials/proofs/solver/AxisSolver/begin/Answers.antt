use Rattle.potentials.proofs.SolverLemmas.{numbers_before}
use Rattle.potentials.proofs.solver.AxisSolver.begin.Goals as goal

pub from_before-requires-clause-before : goal.from_before-requires-clause-before
from_before-requires-clause-before c =
    numbers_before c.args.self.now c.args.graph.now c.requires.solver c.requires.graph c.in-Some.level.now
    (rw (c.as_slice.ensures, c.in-Some.is) at c.last.ensures.value) c.in-Some-best.best c.in-Some-numbers.numbers c.in-Some-best.is c.in-Some-numbers.is
