use Rattle.std.proofs.Common.{◌≡◌, ℕ, ◌<◌, []}
use Rattle.shape_graphs.specs.declared.trail.Mark.TheVariants.{Left}
use Rattle.shape_graphs.specs.inner.Trails.{IsTrail, mark_at}
use Rattle.shape_graphs.proofs.trail.search.Given as goal

abbrev pub invariant-loop-start : goal.invariant-loop-start
invariant-loop-start l = record {
  trail : IsTrail l.graph.nodes l.graph.arcs l.trail;
  none : l.trail.walk ≡ [];
  left : (v : ℕ) → v < l.start → mark_at l.trail.marks v ≡ Left;
}
