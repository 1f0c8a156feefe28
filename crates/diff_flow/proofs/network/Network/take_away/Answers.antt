use Rattle.diff_flow.proofs.GrowLemmas.{made_fewer}
use Rattle.diff_flow.proofs.network.Network.take_away.Goals as goal

pub invariant_of-self : goal.invariant_of-self
invariant_of-self c =
    let fewer = rw (← c.self.view_is) at c.requires.fewer in
    rw c.of.ensures
    (made_fewer c.args.graph.now c.self.inside.graph.value c.self.inside.steps c.pop.new.self _ c.args.walks fewer c.self.invariant
    c.pop.ensures.nodes c.pop.ensures.arcs c.pop.ensures.list c.requires.walks)
