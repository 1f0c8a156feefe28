use Rattle.potentials.proofs.SolverLemmas.{solver_less, walks_less}
use Rattle.potentials.proofs.solver.AxisSolver.take_away.Goals as goal

pub take_away-requires-clause-walks : goal.take_away-requires-clause-walks
take_away-requires-clause-walks c = walks_less c.args.self.now c.args.graph.now c.requires.solver c.requires.fewer c.pop.new.self c.in-Some.level c.in-Some.ensures

pub returns-clause-solver : goal.returns-clause-solver
returns-clause-solver c =
    solver_less c.args.self.now c.args.graph.now c.requires.solver c.requires.fewer c.pop.new.self c.in-Some.level c.in-Some.ensures
    c.take_away.new.self c.take_away.ensures
