use Rattle.shape_graphs.specs.Arcs.{AreGraph}
use Rattle.shape_graphs.proofs.GraphFacts.{are_graph_at}
use Rattle.shape_graphs.proofs.graphs.graph_along.Goals as goal

pub invariant_of-result : goal.invariant_of-result
invariant_of-result c =
    let is : AreGraph c.node_count-nodes.result c.args.arcs =
    are_graph_at c.args.axis c.args.bars.now c.args.choices.now c.node_count-nodes.result c.args.arcs c.requires.sound c.requires.fit
    c.node_count-nodes.ensures c.requires.arcs in
    record { ends = is.ends; few = is.few; within = is.within }
