use Rattle.potentials.proofs.SolverLemmas.{fresh_solver}
use Rattle.potentials.proofs.solver.AxisSolver.of.Goals as goal

pub returns : goal.returns
returns c =
    let made = rw c.in-Some.is at c.in_ok-network.ensures in (
      fresh_solver c.args.graph.now c.in-Some.network c.nothing.result c.new.result c.requires made.0 made.1 c.nothing.ensures.best c.nothing.ensures.numbers c.new.ensures,
      made.0,
      c.new.ensures,
    )
