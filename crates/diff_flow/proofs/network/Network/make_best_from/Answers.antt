use Rattle.std.proofs.Common.{ap}
use Rattle.compact_types.specs.declared.search.Flow.{Flow}
use Rattle.diff_flow.proofs.BetterLemmas.{best_by, better_not_best}
use Rattle.diff_flow.proofs.network.Network.make_best_from.Goals as goal
use Rattle.diff_flow.proofs.network.Network.make_best_from.Goals.{in-Some, in_default}

pub returns-clause-best : goal.returns-clause-best
returns-clause-best c = elim c.match-branch-3.branch [
  | in-Some w ↦
      let better = rw w.in-Some.is at c.in_ok-better.ensures in
      rw (← c.self.view_is, w.flow-is) (best_by c.self.inside.graph.value _ better.best)
  | in_default w ↦
      rw (← c.self.view_is, w.flow-is) (best_by c.self.inside.graph.value _ (rw w.in_default.is at c.in_ok-better.ensures))
]

pub returns-clause-kept : goal.returns-clause-kept
returns-clause-kept c = λ best. elim c.match-branch-3.branch [
  | in-Some w ↦
      let better = rw w.in-Some.is at c.in_ok-better.ensures in
      let is = c.self.invariant in
      let best_there = rw (← c.self.view_is) at best in
      absurd (better_not_best c.self.inside.graph.value c.self.inside.steps c.args.flow.now.amounts _ is.steps_of is.arcs best_there.balanced better
      best_there)
  | in_default w ↦ ap (λ (flow : Flow). flow.amounts) w.flow-is
]
