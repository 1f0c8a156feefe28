use Rattle.diff_flow.proofs.BetterLemmas.{best_by, better_not_best}
use Rattle.diff_flow.proofs.network.Network.make_best.Goals as goal

pub returns-in-Some-clause-best : goal.returns-in-Some-clause-best
returns-in-Some-clause-best c =
    let better = rw c.in-Some.is at c.in_ok-better.ensures in
    rw (← c.self.view_is) (best_by c.self.inside.graph.value _ better.best)

pub returns-in-Some-clause-kept : goal.returns-in-Some-clause-kept
returns-in-Some-clause-kept c = λ best.
    let better = rw c.in-Some.is at c.in_ok-better.ensures in
    let is = c.self.invariant in
    let best_there = rw (← c.self.view_is) at best in
    absurd (better_not_best c.self.inside.graph.value c.self.inside.steps c.args.flow.now.amounts _ is.steps_of is.arcs best_there.balanced better best_there)

pub returns-in_default-clause-best : goal.returns-in_default-clause-best
returns-in_default-clause-best c =
    rw (← c.self.view_is) (best_by c.self.inside.graph.value _ (rw c.in_default.is at c.in_ok-better.ensures))
