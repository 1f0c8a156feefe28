use Rattle.std.proofs.Common.{◌≡◌, ℕ, List, [], ◌∷◌, sym, subst, Contains}
use Rattle.gml_text.specs.declared.tree.Tree.{Tree}
use Rattle.gml_text.specs.declared.tree.Pair.{Pair}
use Rattle.drawing_read.specs.declared.reading.Reading.{Reading}
use Rattle.drawing_read.specs.declared.reading.Spot.{Spot}
use Rattle.drawing_read.specs.Faults.{graphs_of}
use Rattle.drawing_read.specs.Written.{graph_of}
use Rattle.drawing_read.specs.Spans.{spans_in}
use Rattle.drawing_read.specs.Readings.{graph_place, IsGraphReading, IfOne, IsReading}
use Rattle.drawing_read.specs.Coordinates.{AreInDocumentOrder}
use Rattle.drawing_read.proofs.CoordinateCases.{spot_is_coordinate, coordinate_is_spot}
use Rattle.drawing_read.proofs.SpotOrder.{graph_in_order}
use Rattle.drawing_read.proofs.SpotVertices.{spot_vertex_below}
use Rattle.drawing_read.proofs.law.spots_are_the_coordinates.Goals as goal

-- the reading is that of the one graph
reading_of_graph : (tree : Tree) (reading : Reading) (graph : List Pair) → IsReading tree reading → graphs_of tree ≡ graph ∷ [] → IsGraphReading (graph_place tree) graph reading
reading_of_graph tree reading graph read one = subst (λ (graphs : List (List Pair)). IfOne graphs (λ pairs. IsGraphReading (graph_place tree) pairs reading)) one read

spots_in_order : (at : ℕ) (reading : Reading) (graphs : List (List Pair)) → IfOne graphs (λ pairs. IsGraphReading at pairs reading) → AreInDocumentOrder reading.spots
spots_in_order at reading [] read = absurd read
spots_in_order at reading (graph ∷ []) read = subst AreInDocumentOrder (sym read.spots) (graph_in_order (at ∷ []) (spans_in (graph_of graph)) 0 0 0 graph)
spots_in_order at reading (graph ∷ other ∷ more) read = absurd read

pub returns-clause-all : goal.returns-clause-all
returns-clause-all c = λ tree reading graph spot read one.
    let spans = spans_in (graph_of graph) in
    let is = (reading_of_graph tree reading graph read one).spots in
    let P : List Spot → Type 0 = λ spots. Contains spots spot in (
      λ there. spot_is_coordinate (graph_place tree ∷ []) spans graph spot (subst P is there),
      λ coordinate. subst P (sym is) (coordinate_is_spot (graph_place tree ∷ []) spans graph coordinate),
    )

pub returns-clause-in_order : goal.returns-clause-in_order
returns-clause-in_order c = λ tree reading read. spots_in_order (graph_place tree) reading (graphs_of tree) read

pub returns-clause-of_vertices : goal.returns-clause-of_vertices
returns-clause-of_vertices c = λ tree reading s read there. spot_vertex_below tree reading s read there
