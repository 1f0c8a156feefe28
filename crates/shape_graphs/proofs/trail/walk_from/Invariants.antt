use Rattle.std.proofs.Common.{◌≡◌}
use Rattle.shape_graphs.specs.declared.trail.Mark.TheVariants.{Fresh}
use Rattle.shape_graphs.specs.inner.Trails.{IsTrail, StayLeft, mark_at, rest_of}
use Rattle.shape_graphs.proofs.trail.walk_from.Given as goal

abbrev pub invariant-loop-trail : goal.invariant-loop-trail
invariant-loop-trail l = record {
  trail : IsTrail l.graph.nodes l.graph.arcs l.trail;
  stay : StayLeft l.graph.nodes l.fn.trail l.trail;
  met : mark_at l.trail.marks l.start ≡ Fresh → ⊥;
}

abbrev pub decreases-loop-trail : goal.decreases-loop-trail
decreases-loop-trail l = rest_of l.trail
