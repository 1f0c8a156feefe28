use Rattle.std.proofs.Common.{List, map, pos, ap, ◌∙◌}
use Rattle.shape_graphs.specs.Flows.{number_at}
use Rattle.diff_flow.specs.inner.Numbers.{height}
use Rattle.diff_flow.proofs.TightLemmas.{none_tight, least_where_met, least_same, number_signed}
use Rattle.diff_flow.proofs.network.Network.least_tight.Goals as goal

pub returns-in-None-clause-numbers : goal.returns-in-None-clause-numbers
returns-in-None-clause-numbers c =
    let graph = c.self.inside.graph.value in
    rw (← c.self.view_is)
    (none_tight graph.nodes graph.arcs c.self.inside.steps.list.items c.args.flow.now.amounts graph.ends c.self.invariant.steps_of
    (rw (c.in-None.is, c.as_slice-amounts.ensures) at c.in_ok-least_met.ensures))

pub returns-in_ok-signed-in-Some-clause-numbers : goal.returns-in_ok-signed-in-Some-clause-numbers
returns-in_ok-signed-in-Some-clause-numbers c =
    let graph = c.self.inside.graph.value in
    let is = c.self.invariant in
    let numbers = c.in-Some.numbers.items in
    let met = rw (c.in-Some.is, is.nodes, c.as_slice-amounts.ensures) at c.in_ok-least_met.ensures in
    let same = c.in_ok-signed-in-Some.ensures ∙ ap (map pos) c.as_slice-in-Some.ensures.value in
    rw (← c.self.view_is)
    (least_same graph.nodes graph.arcs c.args.flow.now.amounts (λ v. pos (height numbers v)) _
    (λ v. ap (λ (l : List _). number_at l v) same ∙ number_signed numbers v)
    (least_where_met graph.nodes graph.arcs c.self.inside.steps.list.items c.args.flow.now.amounts graph.ends is.steps_of graph.within _ numbers met))
