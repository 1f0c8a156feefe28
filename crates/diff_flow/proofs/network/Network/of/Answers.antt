use Rattle.std.proofs.Common.{[]}
use Rattle.shape_graphs.proofs.Laws.{some_solution, no_cycle_in_order}
use Rattle.diff_flow.proofs.TightLemmas.{least_where_met}
use Rattle.diff_flow.proofs.WalkLemmas.{in_order, some_walks, are_longest}
use Rattle.diff_flow.proofs.network.Network.of.Goals as goal

pub longest_walks-requires-clause-order : goal.longest_walks-requires-clause-order
longest_walks-requires-clause-order c =
    let graph = c.args.graph.now in
    in_order graph.arcs c.in_ok-steps.steps.list.items _ c.in_ok-steps.steps.arcs c.in_ok-steps.ensures.steps c.in_ok-steps.ensures.arcs
    (rw (c.in-Some.is, ← c.as_slice.ensures) at c.in_ok-order.ensures)

pub longest_walks-requires-clause-some : goal.longest_walks-requires-clause-some
longest_walks-requires-clause-some c =
    let graph = c.args.graph.now in
    let solved = some_solution graph.arcs (no_cycle_in_order graph.arcs _ (rw c.in-Some.is at c.in_ok-order.ensures)) in
    some_walks graph.nodes graph.arcs c.in_ok-steps.steps.list.items solved.0 graph.ends c.in_ok-steps.ensures.steps solved.1 solved.2

pub invariant_of-result : goal.invariant_of-result
invariant_of-result c =
    let graph = c.args.graph.now in
    let steps = c.in_ok-steps.steps in
    rw (c.of.ensures, c.from_vec.ensures) (record {
      no_cycle = no_cycle_in_order graph.arcs _ (rw c.in-Some.is at c.in_ok-order.ensures);
      nodes = c.in_ok-steps.ensures.nodes;
      arcs = c.in_ok-steps.ensures.arcs;
      steps_of = c.in_ok-steps.ensures.steps;
      longest = are_longest graph.nodes graph.arcs _
          (least_where_met graph.nodes graph.arcs steps.list.items [] graph.ends c.in_ok-steps.ensures.steps graph.within _ c.in_ok-walks.walks.items
          (rw c.in_ok-steps.ensures.nodes at c.in_ok-walks.ensures));
      least_met = c.in_ok-walks.ensures;
    })

pub returns : goal.returns
returns c = (c.of.ensures, no_cycle_in_order c.args.graph.now.arcs _ (rw c.in-Some.is at c.in_ok-order.ensures))
