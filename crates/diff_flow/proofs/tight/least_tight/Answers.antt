use Rattle.shape_graphs.proofs.Laws.{no_cycle_in_solution}
use Rattle.diff_flow.proofs.tight.least_tight.Goals as goal

pub returns-in-None-clause-numbers : goal.returns-in-None-clause-numbers
returns-in-None-clause-numbers c = λ numbers tight.
    no_cycle_in_solution c.args.graph.now.arcs numbers c.args.graph.now.within tight.solution (rw c.in-None.is at c.in_ok-of.ensures)

pub returns-in-Some-clause-numbers : goal.returns-in-Some-clause-numbers
returns-in-Some-clause-numbers c =
    let is = rw c.in-Some.is at c.in_ok-of.ensures in
    rw is.0 at c.least_tight.ensures.numbers
