-- The edges of a graph whose vertices stand at other places: by their vertices they are as they were.
use Rattle.std.proofs.Common.{◌≡◌, ℕ, suc, ◌+◌, ◌<◌, arith, ℤ, Bool, true, false, cond, List, [], ◌∷◌, ◌++◌, length, map, Option, refl, sym, ap, ◌∙◌, add-zero, slice_index_or}
use Rattle.std.specs.Prelude.{unwrap_or}
use Rattle.std.specs.List.{range_with_len, flat_map}
use Rattle.std.proofs.lemmas.List.{length-map, map-append, length-append}
use Rattle.compact_types.specs.declared.places.Point.{Point}
use Rattle.compact_types.specs.Lookups.{place}
use Rattle.drawing_read.specs.declared.numerals.WholeNumber.{WholeNumber}
use Rattle.drawing_read.specs.declared.written.Edge.{Edge}
use Rattle.drawing_read.specs.declared.spans.EdgeSpan.{EdgeSpan}
use Rattle.drawing_read.specs.Routes.{point_of, route_of}
use Rattle.drawing_read.specs.Spans.{begins_at, ends_at, after_first_at, bends_of, points_at_source, edge_span, spans_from, span_pieces, pieces_of}
use Rattle.drawing_read.specs.Ids.{node_with}
use Rattle.drawing_read.specs.Spans.{no_span}
use Rattle.gml_print.proofs.ListFacts.{range_append, length_range}
use Rattle.gml_print.proofs.MovedGraphs.{HavePoints, EdgesHavePoints, count, only_if, all_vertices, Apart, apart_parts, new_start, new_bends, moved_edge, moved_edges, moved_route_points, after_length, before_length}

one_if : (b : Bool) → cond b 1 0 ≡ count b
one_if true = refl
one_if false = refl

span_with : ℕ → ℕ → ℕ → ℕ → ℕ → EdgeSpan
span_with source target first at_source bends = record { source = source; target = target; at_source = at_source; first = first; bends = bends }

module _ (where_is : ℕ → Point) (look : ℤ → Option ℕ) (nodes new_nodes : List Point) (bound : ℕ)
    (at : (v : ℕ) → v < bound → place new_nodes v ≡ where_is v)
    (known : (end : WholeNumber) → unwrap_or (node_with look end) 0 < bound) where
  starts : Edge → Bool
  starts edge = begins_at (place nodes (route_of look edge).source) (route_of look edge).points

  ends : Edge → Bool
  ends edge = ends_at (place nodes (route_of look edge).target) (after_first_at (place nodes (route_of look edge).source) (route_of look edge).points)

  moved_of : ℕ → Edge → Edge
  moved_of first edge = moved_edge where_is (edge_span nodes first (route_of look edge)) edge

  new_points : (first : ℕ) (edge : Edge) → HavePoints edge.points →
      (route_of look (moved_of first edge)).points ≡
      map where_is (only_if (starts edge) (route_of look edge).source ++
      (range_with_len first (length (bends_of nodes (route_of look edge))) ++ only_if (ends edge) (route_of look edge).target))
  unfolding starts ends moved_of
  new_points first edge have =
      let route = route_of look edge in
      let long : length route.points ≡ length edge.points = length-map edge.points point_of in
      let front : count (starts edge) + length (after_first_at (place nodes route.source) route.points) ≡ length route.points =
      after_length (place nodes route.source) route.points in
      let back : length (bends_of nodes route) + count (ends edge) ≡ length (after_first_at (place nodes route.source) route.points) =
      before_length (place nodes route.target) (after_first_at (place nodes route.source) route.points) in
      moved_route_points where_is (edge_span nodes first route) 0 edge.points have
      ∙ ap (map where_is) (all_vertices (edge_span nodes first route) (starts edge) (ends edge) edge.points (one_if (starts edge)) (omega arith))

  module _ (first : ℕ) (edge : Edge) (have : HavePoints edge.points) (apart : Apart where_is (span_pieces (edge_span nodes first (route_of look edge)))) where
    same_start : begins_at (place new_nodes (route_of look edge).source) (route_of look (moved_of first edge)).points ≡ starts edge
    unfolding moved_of
    same_start = new_start where_is new_nodes (route_of look (moved_of first edge)) (at (route_of look edge).source (known edge.source)) (at (route_of look edge).target (known edge.target))
        (starts edge) (ends edge) first (length (bends_of nodes (route_of look edge))) apart (new_points first edge have)

    same_bends : bends_of new_nodes (route_of look (moved_of first edge)) ≡ map where_is (range_with_len first (length (bends_of nodes (route_of look edge))))
    unfolding moved_of
    same_bends = new_bends where_is new_nodes (route_of look (moved_of first edge)) (at (route_of look edge).source (known edge.source)) (at (route_of look edge).target (known edge.target))
        (starts edge) (ends edge) first (length (bends_of nodes (route_of look edge))) apart (new_points first edge have)

    same_count : length (bends_of new_nodes (route_of look (moved_of first edge))) ≡ length (bends_of nodes (route_of look edge))
    same_count = ap length same_bends ∙ length-map (range_with_len first (length (bends_of nodes (route_of look edge)))) where_is
        ∙ length_range first (length (bends_of nodes (route_of look edge)))

    same_span : edge_span new_nodes first (route_of look (moved_of first edge)) ≡ edge_span nodes first (route_of look edge)
    unfolding span_with moved_of starts
    same_span =
        ap (λ (b : Bool). span_with (route_of look edge).source (route_of look edge).target first (cond b 1 0) (length (bends_of new_nodes (route_of look (moved_of first edge))))) same_start
        ∙ ap (span_with (route_of look edge).source (route_of look edge).target first (points_at_source nodes (route_of look edge))) same_count

  abbrev pub KeepTheirVertices : List Edge → List Edge → ℕ → Type 0
  KeepTheirVertices olds news first =
      (spans_from new_nodes first (map (route_of look) news) ≡ spans_from nodes first (map (route_of look) olds))
      × (flat_map (bends_of new_nodes) (map (route_of look) news) ≡
      map where_is (range_with_len first (length (flat_map (bends_of nodes) (map (route_of look) olds)))))

  together : (first : ℕ) (edge : Edge) (olds news : List Edge) → HavePoints edge.points →
      Apart where_is (span_pieces (edge_span nodes first (route_of look edge))) →
      KeepTheirVertices olds news (first + length (bends_of nodes (route_of look edge))) → KeepTheirVertices (edge ∷ olds) (moved_of first edge ∷ news) first
  together first edge olds news have apart rest =
      let long = length (bends_of nodes (route_of look edge)) in
      let more = length (flat_map (bends_of nodes) (map (route_of look) olds)) in
      let all : length (bends_of nodes (route_of look edge) ++ flat_map (bends_of nodes) (map (route_of look) olds)) ≡ long + more =
      length-append (bends_of nodes (route_of look edge)) (flat_map (bends_of nodes) (map (route_of look) olds)) in (
        rw (same_span first edge have apart, same_count first edge have apart, rest.0) refl,
        rw (same_bends first edge have apart, rest.1, all, range_append first long more, map-append where_is (range_with_len first long) (range_with_len (first + long) more)) refl,
      )

  pub edges_moved : (span_at : ℕ → EdgeSpan) (first e : ℕ) (edges : List Edge) → EdgesHavePoints edges →
      ((k : ℕ) → span_at (e + k) ≡ slice_index_or (spans_from nodes first (map (route_of look) edges)) k no_span) →
      Apart where_is (pieces_of (spans_from nodes first (map (route_of look) edges))) →
      KeepTheirVertices edges (moved_edges where_is span_at e edges) first
  unfolding moved_of
  edges_moved span_at first e [] have spans apart = (refl, refl)
  edges_moved span_at first e (edge ∷ edges) have spans apart =
      let span = edge_span nodes first (route_of look edge) in
      let after = first + length (bends_of nodes (route_of look edge)) in
      let here : span_at e ≡ span = ap span_at (sym (add-zero e)) ∙ spans 0 in
      let parts = apart_parts where_is (span_pieces span) (pieces_of (spans_from nodes after (map (route_of look) edges))) apart in
      let rest = edges_moved span_at after (e + 1) edges have.1 (λ k. let f : (e + 1) + k ≡ e + suc k = omega arith in ap span_at f ∙ spans (suc k)) parts.1 in
      rw here (together first edge edges (moved_edges where_is span_at (e + 1) edges) have.0 parts.0 rest)
