-- A graph without a fault has none after its vertices were moved.
use Rattle.std.proofs.Common.{◌≡◌, ℕ, suc, ◌+◌, ℤ, Bool, List, [], ◌∷◌, ◌++◌, length, map, Option, None, Some, refl, sym, ap, ◌∙◌, ◌||◌}
use Rattle.std.specs.Prelude.{is_none}
use Rattle.std.specs.List.{position, filter_map, flat_map}
use Rattle.std.specs.Option.{option_map}
use Rattle.std.proofs.lemmas.List.Elements.{filter_map-append}
use Rattle.compact_types.specs.declared.places.Point.{Point}
use Rattle.drawing_read.specs.declared.numerals.Number.{Number}
use Rattle.drawing_read.specs.declared.numerals.Numbers.{Numbers}
use Rattle.drawing_read.specs.declared.numerals.WholeNumber.{WholeNumber}
use Rattle.drawing_read.specs.declared.written.Node.{Node}
use Rattle.drawing_read.specs.declared.written.Edge.{Edge}
use Rattle.drawing_read.specs.declared.fault.DrawFault.TheVariants.{BadPoint}
use Rattle.drawing_read.specs.declared.spans.EdgeSpan.{EdgeSpan}
use Rattle.drawing_read.specs.Ids.{ids_of, node_with}
use Rattle.drawing_read.specs.Spans.{point_vertex}
use Rattle.drawing_read.specs.Faults.{is_no_numeral, lacks_end, has_unknown_end, bad_point_from, both_numbers, refused_in}
use Rattle.drawing_read.proofs.Laws.{none_mapped, position-map}
use Rattle.gml_print.proofs.ListFacts.{position_none_tail, position_none_cons, neither, both_none}
use Rattle.gml_print.proofs.MovedGraphs.{HavePlaces, HavePoints, EdgesHavePoints, moved_numbers, moved_node, moved_nodes, moved_points, moved_edges}

pub have_places : (nodes : List Node) → position (λ node. is_none node.place) nodes ≡ None → HavePlaces nodes
have_places [] is = tt
have_places (node ∷ nodes) is =
    let parts = position_none_tail (λ (node : Node). is_none node.place) node nodes is in
    (parts.0, have_places nodes parts.1)

have_points : (points : List (Option Numbers)) → position is_none points ≡ None → HavePoints points
have_points [] is = tt
have_points (point ∷ points) is =
    let parts = position_none_tail (λ (point : Option Numbers). is_none point) point points is in
    (parts.0, have_points points parts.1)

pub edges_have_points : (e : ℕ) (edges : List Edge) → bad_point_from e edges ≡ None → EdgesHavePoints edges
edges_have_points e [] is = tt
edges_have_points e (edge ∷ edges) is =
    let parts = neither (option_map (λ p. BadPoint e p) (position is_none edge.points)) (bad_point_from (e + 1) edges) is in
    (have_points edge.points (none_mapped (λ p. BadPoint e p) (position is_none edge.points) parts.0), edges_have_points (e + 1) edges parts.1)

mapped_is_there : {X Y : Type 0} (f : X → Y) (o : Option X) → is_none (option_map f o) ≡ is_none o
mapped_is_there f None = refl
mapped_is_there f (Some x) = refl

module _ (where_is : ℕ → Point) where
  pub ids_moved : (n : ℕ) (nodes : List Node) → ids_of (moved_nodes where_is n nodes) ≡ ids_of nodes
  ids_moved n [] = refl
  ids_moved n (node ∷ nodes) = rw (ids_moved (n + 1) nodes) refl

  written_ids : (n : ℕ) (nodes : List Node) → map (λ (node : Node). node.id) (moved_nodes where_is n nodes) ≡ map (λ (node : Node). node.id) nodes
  written_ids n [] = refl
  written_ids n (node ∷ nodes) = rw (written_ids (n + 1) nodes) refl

  pub length_moved : (n : ℕ) (nodes : List Node) → length (moved_nodes where_is n nodes) ≡ length nodes
  length_moved n [] = refl
  length_moved n (node ∷ nodes) = ap suc (length_moved (n + 1) nodes)

  pub ids_position : (p : WholeNumber → Bool) (n : ℕ) (nodes : List Node) →
      position (λ (node : Node). p node.id) (moved_nodes where_is n nodes) ≡ position (λ (node : Node). p node.id) nodes
  ids_position p n nodes =
      sym (position-map p (λ (node : Node). node.id) (moved_nodes where_is n nodes))
      ∙ ap (position p) (written_ids n nodes) ∙ position-map p (λ (node : Node). node.id) nodes

  pub places_moved : (n : ℕ) (nodes : List Node) → HavePlaces nodes → position (λ node. is_none node.place) (moved_nodes where_is n nodes) ≡ None
  places_moved n [] have = refl
  places_moved n (node ∷ nodes) have =
      position_none_cons (λ (node : Node). is_none node.place) (moved_node where_is n node) (moved_nodes where_is (n + 1) nodes)
      (mapped_is_there (moved_numbers where_is n) node.place ∙ have.0) (places_moved (n + 1) nodes have.1)

  none_refused : (v : ℕ) (o : Option Numbers) → filter_map refused_in (both_numbers (option_map (moved_numbers where_is v) o)) ≡ []
  none_refused v None = refl
  none_refused v (Some numbers) = refl

  none_more : (xs ys : List Number) → filter_map refused_in xs ≡ [] → filter_map refused_in ys ≡ [] → filter_map refused_in (xs ++ ys) ≡ []
  none_more xs ys first second = filter_map-append refused_in xs ys ∙ rw (first, second) refl

  nodes_refuse_none : (n : ℕ) (nodes : List Node) → filter_map refused_in (flat_map (λ node. both_numbers node.place) (moved_nodes where_is n nodes)) ≡ []
  nodes_refuse_none n [] = refl
  nodes_refuse_none n (node ∷ nodes) =
      none_more (both_numbers (option_map (moved_numbers where_is n) node.place)) (flat_map (λ node. both_numbers node.place) (moved_nodes where_is (n + 1) nodes))
      (none_refused n node.place) (nodes_refuse_none (n + 1) nodes)

  points_refuse_none : (span : EdgeSpan) (p : ℕ) (points : List (Option Numbers)) → filter_map refused_in (flat_map both_numbers (moved_points where_is span p points)) ≡ []
  points_refuse_none span p [] = refl
  points_refuse_none span p (point ∷ points) =
      none_more (both_numbers (option_map (moved_numbers where_is (point_vertex span p)) point)) (flat_map both_numbers (moved_points where_is span (p + 1) points))
      (none_refused (point_vertex span p) point) (points_refuse_none span (p + 1) points)

  module _ (span_at : ℕ → EdgeSpan) where
    edges_refuse_none : (e : ℕ) (edges : List Edge) →
        filter_map refused_in (flat_map (λ edge. flat_map both_numbers edge.points) (moved_edges where_is span_at e edges)) ≡ []
    edges_refuse_none e [] = refl
    edges_refuse_none e (edge ∷ edges) =
        none_more (flat_map both_numbers (moved_points where_is (span_at e) 0 edge.points)) (flat_map (λ edge. flat_map both_numbers edge.points) (moved_edges where_is span_at (e + 1) edges))
        (points_refuse_none (span_at e) 0 edge.points) (edges_refuse_none (e + 1) edges)

    -- no number of the moved graph is refused
    pub numbers_fit : (n e : ℕ) (nodes : List Node) (edges : List Edge) →
        filter_map refused_in (flat_map (λ node. both_numbers node.place) (moved_nodes where_is n nodes)
        ++ flat_map (λ edge. flat_map both_numbers edge.points) (moved_edges where_is span_at e edges)) ≡ []
    numbers_fit n e nodes edges =
        none_more (flat_map (λ node. both_numbers node.place) (moved_nodes where_is n nodes)) (flat_map (λ edge. flat_map both_numbers edge.points) (moved_edges where_is span_at e edges))
        (nodes_refuse_none n nodes) (edges_refuse_none e edges)

    ends_of : Edge → WholeNumber × WholeNumber
    ends_of edge = (edge.source, edge.target)

    written_ends : (e : ℕ) (edges : List Edge) → map ends_of (moved_edges where_is span_at e edges) ≡ map ends_of edges
    unfolding ends_of
    written_ends e [] = refl
    written_ends e (edge ∷ edges) = rw (written_ends (e + 1) edges) refl

    ends_position : (p : WholeNumber × WholeNumber → Bool) (e : ℕ) (edges : List Edge) →
        position (λ (edge : Edge). p (edge.source, edge.target)) (moved_edges where_is span_at e edges) ≡ position (λ (edge : Edge). p (edge.source, edge.target)) edges
    unfolding ends_of
    ends_position p e edges =
        sym (position-map p ends_of (moved_edges where_is span_at e edges)) ∙ ap (position p) (written_ends e edges) ∙ position-map p ends_of edges

    points_there : (span : EdgeSpan) (p : ℕ) (points : List (Option Numbers)) → HavePoints points → position is_none (moved_points where_is span p points) ≡ None
    points_there span p [] have = refl
    points_there span p (point ∷ points) have =
        position_none_cons (λ (point : Option Numbers). is_none point) (option_map (moved_numbers where_is (point_vertex span p)) point) (moved_points where_is span (p + 1) points)
        (mapped_is_there (moved_numbers where_is (point_vertex span p)) point ∙ have.0) (points_there span (p + 1) points have.1)

    pub no_bad_point : (f e : ℕ) (edges : List Edge) → EdgesHavePoints edges → bad_point_from f (moved_edges where_is span_at e edges) ≡ None
    no_bad_point f e [] have = refl
    no_bad_point f e (edge ∷ edges) have =
        both_none (option_map (λ p. BadPoint f p) (position is_none (moved_points where_is (span_at e) 0 edge.points))) (bad_point_from (f + 1) (moved_edges where_is span_at (e + 1) edges))
        (ap (option_map (λ p. BadPoint f p)) (points_there (span_at e) 0 edge.points have.0)) (no_bad_point (f + 1) (e + 1) edges have.1)

    -- the ends of the edges are as they were
    pub lacking_moved : (edges : List Edge) → position lacks_end (moved_edges where_is span_at 0 edges) ≡ position lacks_end edges
    lacking_moved edges = ends_position (λ (ends : WholeNumber × WholeNumber). is_no_numeral ends.0 || is_no_numeral ends.1) 0 edges

    pub unknown_moved : (look : ℤ → Option ℕ) (edges : List Edge) → position (has_unknown_end look) (moved_edges where_is span_at 0 edges) ≡ position (has_unknown_end look) edges
    unknown_moved look edges = ends_position (λ (ends : WholeNumber × WholeNumber). is_none (node_with look ends.0) || is_none (node_with look ends.1)) 0 edges
