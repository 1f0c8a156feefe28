use Rattle.compact_types.specs.declared.places.Axis.TheVariants.{X, Y}
use Rattle.potentials.proofs.SolvingLemmas.{few_nodes_at}
use Rattle.potentials.proofs.WorkspaceLemmas.{no_cycle_without_choices}
use Rattle.potentials.proofs.workspace.FlowWorkspace.new.Goals as goal

pub solver_of-requires-clause-few : goal.solver_of-requires-clause-few
solver_of-requires-clause-few c =
    let grown = c.in_ok-graphs.ensures.grown in
    few_nodes_at c.args.bars.now c.in_ok-graphs.graphs.choices c.shape-what_is_known.ensures.sound grown.fit X c.in_ok-graphs.graphs.columns.graph (grown.each X).graph

pub solver_of-requires-clause-no_cycle : goal.solver_of-requires-clause-no_cycle
solver_of-requires-clause-no_cycle c =
    no_cycle_without_choices c.args.bars.now c.in_ok-graphs.graphs.choices c.shape-what_is_known.ensures.sound c.in_ok-graphs.ensures.choices
    X c.in_ok-graphs.graphs.columns.graph (c.in_ok-graphs.ensures.grown.each X).graph

pub solver_of-requires-2-clause-few : goal.solver_of-requires-2-clause-few
solver_of-requires-2-clause-few c =
    let grown = c.in_ok-graphs.ensures.grown in
    few_nodes_at c.args.bars.now c.in_ok-graphs.graphs.choices c.shape-what_is_known.ensures.sound grown.fit Y c.in_ok-graphs.graphs.rows.graph (grown.each Y).graph

pub solver_of-requires-2-clause-no_cycle : goal.solver_of-requires-2-clause-no_cycle
solver_of-requires-2-clause-no_cycle c =
    no_cycle_without_choices c.args.bars.now c.in_ok-graphs.graphs.choices c.shape-what_is_known.ensures.sound c.in_ok-graphs.ensures.choices
    Y c.in_ok-graphs.graphs.rows.graph (c.in_ok-graphs.ensures.grown.each Y).graph
