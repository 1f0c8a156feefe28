use Rattle.std.proofs.Common.{drop, map}
use Rattle.std.specs.Ordering.{int_eq}
use Rattle.indexmap.specs.IndexMap.{get}
use Rattle.drawing_read.specs.Routes.{node_points, route_of}
use Rattle.drawing_read.specs.inner.Layouts.{IsLaidButFor}
use Rattle.drawing_read.proofs.layout.layout_of.Given as goal

abbrev pub invariant-loop-edge : goal.invariant-loop-edge
invariant-loop-edge l =
    IsLaidButFor (node_points l.nodes) (map (route_of (get int_eq l.first)) (drop l.edge-index l.edges))
    (map (route_of (get int_eq l.first)) l.edges) l.layout
