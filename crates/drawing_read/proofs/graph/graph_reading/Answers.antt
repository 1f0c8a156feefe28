use Rattle.std.proofs.Common.{◌≡◌, ◌<◌, ◌+◌, ◌^◌, ◌∷◌, [], ℕ, List, None, length, All, sym, ◌∙◌, ap, subst, arith}
use Rattle.compact_types.specs.Lookups.{EndsAreVertices}
use Rattle.compact_types.specs.declared.plan.Piece.{Piece}
use Rattle.drawing_read.specs.declared.spans.EdgeSpan.{EdgeSpan}
use Rattle.drawing_read.specs.Written.{graph_of}
use Rattle.drawing_read.specs.Spans.{points_in, spans_in, pieces_in}
use Rattle.drawing_read.specs.Faults.{graph_fault}
use Rattle.drawing_read.specs.Spots.{graph_spots}
use Rattle.drawing_read.proofs.RouteLemmas.{few_points, few_pieces, spans_fit}
use Rattle.drawing_read.proofs.EndLemmas.{pieces_join_vertices}
use Rattle.drawing_read.proofs.FaultlessGraphs.{has_no_fault}
use Rattle.drawing_read.proofs.graph.graph_reading.Goals as goal

pub first_fault-requires-clause-few_vertices : goal.first_fault-requires-clause-few_vertices
first_fault-requires-clause-few_vertices c =
    let e = c.len.ensures ∙ ap length c.in_ok-layout.ensures.points in
    subst (λ n. n < 2 ^ 32) (sym e) (omega (arith, few_points c.in_ok-graph.graph c.in_ok-graph.ensures.small))

pub first_fault-requires-clause-few_pieces : goal.first_fault-requires-clause-few_pieces
first_fault-requires-clause-few_pieces c =
    let e = c.len-2.ensures ∙ ap length c.in_ok-layout.ensures.pieces in
    subst (λ n. n < 2 ^ 32) (sym e) (omega (arith, few_pieces c.in_ok-graph.graph c.in_ok-graph.ensures.small))

pub returns-in-Some-clause-fault : goal.returns-in-Some-clause-fault
returns-in-Some-clause-fault c = ap graph_fault (sym c.in_ok-graph.ensures.graph) ∙ sym c.first_fault.ensures ∙ c.in-Some.is

pub graph_spots-requires-clause-spans : goal.graph_spots-requires-clause-spans
graph_spots-requires-clause-spans c =
    let graph = c.in_ok-graph.graph in
    subst (λ (spans : List EdgeSpan). All (λ (span : EdgeSpan). span.first + span.bends < 2 ^ 32) spans)
    (sym (c.as_slice-2.ensures ∙ c.in_ok-layout.ensures.spans)) (spans_fit graph c.in_ok-graph.ensures.small)

pub reading_of-requires-clause-few : goal.reading_of-requires-clause-few
reading_of-requires-clause-few c =
    subst (λ n. n < 2 ^ 32) (sym (ap length c.in_ok-layout.ensures.points))
    (omega (arith, few_points c.in_ok-graph.graph c.in_ok-graph.ensures.small))

pub reading_of-requires-clause-ends : goal.reading_of-requires-clause-ends
reading_of-requires-clause-ends c =
    let graph = c.in_ok-graph.graph in
    let layout = c.in_ok-layout.ensures in
    let none : graph_fault graph ≡ None = sym c.first_fault.ensures ∙ c.in_default.is in
    subst (λ (pieces : List Piece). EndsAreVertices (length c.in_ok-layout.layout.points) pieces) (sym layout.pieces)
    (subst (λ (n : ℕ). EndsAreVertices n (pieces_in graph)) (ap length (sym layout.points))
    (pieces_join_vertices graph (has_no_fault graph none).some_node))

pub returns-clause-reading : goal.returns-clause-reading
returns-clause-reading c =
    let graph : c.in_ok-graph.graph ≡ graph_of c.args.pairs.now = c.in_ok-graph.ensures.graph in
    let layout = c.in_ok-layout.ensures in
    let none : graph_fault c.in_ok-graph.graph ≡ None = sym c.first_fault.ensures ∙ c.in_default.is in
    let points : c.in_ok-layout.layout.points ≡ points_in (graph_of c.args.pairs.now) = layout.points ∙ ap points_in graph in
    let spans : c.as_slice-2.result.now ≡ spans_in (graph_of c.args.pairs.now) = c.as_slice-2.ensures ∙ layout.spans ∙ ap spans_in graph in
    record {
      faultless = ap graph_fault (sym graph) ∙ none;
      vertices = c.reading_of.ensures.vertices ∙ ap length points;
      pieces = c.reading_of.ensures.pieces ∙ layout.pieces ∙ ap pieces_in graph;
      places = c.reading_of.ensures.places ∙ points;
      spots = c.reading_of.ensures.spots ∙ c.in_ok-spots.ensures ∙ ap (λ (spans : List EdgeSpan). graph_spots (c.args.at ∷ []) spans 0 0 0 c.args.pairs.now) spans;
    }
