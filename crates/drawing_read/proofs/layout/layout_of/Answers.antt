use Rattle.std.proofs.Common.{◌≡◌, ◌<◌, ◌^◌, List, length, map, sym, ap, ◌∙◌, subst, arith}
use Rattle.std.specs.Ordering.{int_eq}
use Rattle.indexmap.specs.IndexMap.{get}
use Rattle.drawing_read.specs.declared.written.Node.{Node}
use Rattle.drawing_read.specs.declared.written.Edge.{Edge}
use Rattle.drawing_read.specs.Routes.{node_points, route_of}
use Rattle.drawing_read.specs.Spans.{points_by, points_in, vertex_points}
use Rattle.drawing_read.proofs.LayoutLemmas.{room_for_bends}
use Rattle.drawing_read.proofs.RouteLemmas.{few_points}
use Rattle.drawing_read.proofs.layout.layout_of.Goals as goal

pub add_edge-requires : goal.add_edge-requires
add_edge-requires c =
    let graph = c.args.graph.now in
    let look = get int_eq c.args.first.now in
    let nodes = c.as_slice-nodes.result.now in
    let edges = c.as_slice-edges.result.now in
    let all : vertex_points (node_points nodes) (map (route_of look) edges) ≡ points_in graph =
    ap (λ (nodes : List Node). vertex_points (node_points nodes) (map (route_of look) edges)) c.as_slice-nodes.ensures
    ∙ ap (λ (edges : List Edge). vertex_points (node_points graph.nodes) (map (route_of look) edges)) c.as_slice-edges.ensures
    ∙ ap (λ look. points_by look graph) c.requires.first in
    room_for_bends look edges c.loop-edge.edge-index c.edge-item.result c.loop-edge-test.true c.edge-item.is (node_points nodes) c.loop-edge.layout (2 ^ 32) c.loop-edge.invariant
    (subst (λ n. n < 2 ^ 32) (sym (ap length all)) (omega (arith, few_points graph c.requires.small)))
