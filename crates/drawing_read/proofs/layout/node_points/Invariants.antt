use Rattle.std.proofs.Common.{◌≡◌, take, map}
use Rattle.drawing_read.specs.Routes.{point_of}
use Rattle.drawing_read.proofs.layout.node_points.Given as goal

abbrev pub invariant-loop-node : goal.invariant-loop-node
invariant-loop-node l = l.list ≡ map (λ node. point_of node.place) (take l.node-index l.nodes)
