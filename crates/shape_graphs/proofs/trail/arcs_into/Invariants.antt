use Rattle.shape_graphs.specs.inner.Trails.{AreLast, AreLinked}
use Rattle.shape_graphs.proofs.trail.arcs_into.Given as goal

abbrev pub invariant-loop-i : goal.invariant-loop-i
invariant-loop-i l = record {
  last : AreLast l.graph.nodes l.graph.arcs l.i l.last;
  before : AreLinked l.graph.arcs l.i l.before;
}
