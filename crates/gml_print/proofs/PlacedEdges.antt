-- Edges after the numerals of their spots were put.
use Rattle.std.proofs.Common.{◌≡◌, ℕ, ◌+◌, arith, pos, Bool, true, false, cond, List, [], ◌∷◌, ◌++◌, length, map, Option, None, Some, Ok, refl, sym, ap, ◌∙◌, append_assoc, length-append}
use Rattle.std.specs.Option.{option_map, option_map_or}
use Rattle.std.specs.List.{filter_map, cons_option}
use Rattle.std.specs.Prelude.{codes, option_and_then, is_none, unwrap_or, ◌*ℤ◌}
use Rattle.compact_types.specs.declared.places.Axis.{Axis}
use Rattle.compact_types.specs.declared.places.Point.{Point}
use Rattle.compact_types.specs.declared.places.Places.{Places}
use Rattle.compact_types.specs.Lookups.{place, along}
use Rattle.gml_text.specs.declared.tree.Pair.{Pair}
use Rattle.gml_text.specs.declared.tree.Value.{Value}
use Rattle.drawing_read.specs.declared.reading.Spot.{Spot}
use Rattle.drawing_read.specs.declared.spans.EdgeSpan.{EdgeSpan}
use Rattle.drawing_read.specs.declared.numerals.Numbers.{Numbers}
use Rattle.drawing_read.specs.declared.written.Edge.{Edge}
use Rattle.drawing_read.specs.declared.numerals.WholeNumber.{WholeNumber}
use Rattle.drawing_read.specs.declared.numerals.WholeNumber.TheVariants.{Absent}
use Rattle.drawing_read.specs.Lookups.{has_key, list_in, first_list}
use Rattle.gml_text.specs.Thousandths.{thousandths_of}
use Rattle.drawing_read.specs.Numerals.{numbers_in, whole_in, whole_under}
use Rattle.drawing_read.specs.Written.{point_in, line_pairs, edge_of}
use Rattle.drawing_read.specs.Spans.{point_vertex}
use Rattle.drawing_read.specs.Spots.{point_spots, edge_spots}
use Rattle.gml_print.specs.Numbers.{number_text}
use Rattle.gml_print.specs.Placing.{with_changed_value}
use Rattle.gml_print.proofs.ChangedLists.{changed_behind, apart_words}
use Rattle.gml_print.proofs.PutValues.{behind, puts, replaced_by, puts_append, puts_behind}
use Rattle.gml_print.proofs.MovedGraphs.{HavePoints, moved_numbers, moved_points, moved_edge}
use Rattle.gml_print.proofs.SpotPaths.{value_spots, value_relative, points_relative, points_lead, line_spots, line_relative, line_leads}
use Rattle.gml_print.proofs.PlacedLists.{IsPutInside, put_inside}
use Rattle.gml_print.proofs.PlacedNodes.{inside_same, place_placed, placed_value, value_list, same_value_spots}

module _ (places : Places) (pitch : ℕ) where
  -- spots below a pair that stands behind others change its value alone
  pub one_put : (front : List Pair) (a : ℕ) (spots : List Spot) (pair : Pair) (pairs : List Pair) → length front ≡ a →
      puts places pitch (map (behind (a ∷ [])) spots) (front ++ pair ∷ pairs) ≡ front ++ with_changed_value (replaced_by places pitch spots) pair ∷ pairs
  one_put front a spots pair pairs long =
      puts_behind places pitch a spots (front ++ pair ∷ pairs) ∙ changed_behind front a (replaced_by places pitch spots) pair pairs long

  -- the rest is put behind what was put before
  pub then_put : (front : List Pair) (a : ℕ) (spots more : List Spot) (pair : Pair) (pairs : List Pair) (tail : List Pair → List Pair) → length front ≡ a →
      ((front : List Pair) → length front ≡ a + 1 → puts places pitch more (front ++ pairs) ≡ front ++ tail pairs) →
      puts places pitch (map (behind (a ∷ [])) spots ++ more) (front ++ pair ∷ pairs) ≡ front ++ with_changed_value (replaced_by places pitch spots) pair ∷ tail pairs
  then_put front a spots more pair pairs tail long rest =
      let new = with_changed_value (replaced_by places pitch spots) pair in
      puts_append places pitch (map (behind (a ∷ [])) spots) more (front ++ pair ∷ pairs)
      ∙ ap (puts places pitch more) (one_put front a spots pair pairs long ∙ sym (append_assoc front (new ∷ []) pairs))
      ∙ rest (front ++ new ∷ []) (omega (arith, length-append front (new ∷ [])))
      ∙ append_assoc front (new ∷ []) (tail pairs)

  abbrev pub placed_point : ℕ → Pair → Pair
  placed_point v pair = with_changed_value (replaced_by places pitch (value_spots [] v pair.value)) pair

  -- the pairs of a line, from point p on, with their numerals
  abbrev pub placed_points : EdgeSpan → ℕ → List Pair → List Pair
  placed_points span p [] = []
  placed_points span p (pair ∷ pairs) =
      cond (has_key (codes "point") pair) (placed_point (point_vertex span p) pair ∷ placed_points span (p + 1) pairs) (pair ∷ placed_points span p pairs)

  points_put_from : (span : EdgeSpan) (at p : ℕ) (pairs front : List Pair) → length front ≡ at →
      puts places pitch (point_spots [] span at p pairs) (front ++ pairs) ≡ front ++ placed_points span p pairs
  points_put_from span at p [] front long = refl
  points_put_from span at p (pair ∷ pairs) front long =
      by_test (has_key (codes "point") pair)
      (λ front long. points_put_from span (at + 1) (p + 1) pairs front long) (λ front long. points_put_from span (at + 1) p pairs front long)
    where
      by_test : (b : Bool) →
          ((front : List Pair) → length front ≡ at + 1 → puts places pitch (point_spots [] span (at + 1) (p + 1) pairs) (front ++ pairs) ≡ front ++ placed_points span (p + 1) pairs) →
          ((front : List Pair) → length front ≡ at + 1 → puts places pitch (point_spots [] span (at + 1) p pairs) (front ++ pairs) ≡ front ++ placed_points span p pairs) →
          puts places pitch (cond b (value_spots (at ∷ []) (point_vertex span p) pair.value ++ point_spots [] span (at + 1) (p + 1) pairs) (point_spots [] span (at + 1) p pairs)) (front ++ pair ∷ pairs) ≡
          front ++ cond b (placed_point (point_vertex span p) pair ∷ placed_points span (p + 1) pairs) (pair ∷ placed_points span p pairs)
      by_test true one more =
          ap (λ spots. puts places pitch (spots ++ point_spots [] span (at + 1) (p + 1) pairs) (front ++ pair ∷ pairs)) (value_relative (point_vertex span p) pair.value (at ∷ []))
          ∙ then_put front at (value_spots [] (point_vertex span p) pair.value) (point_spots [] span (at + 1) (p + 1) pairs) pair pairs (placed_points span (p + 1)) long one
      by_test false one more = then_put front at [] (point_spots [] span (at + 1) p pairs) pair pairs (placed_points span p) long more

  pub points_put : (span : EdgeSpan) (pairs : List Pair) → puts places pitch (point_spots [] span 0 0 pairs) pairs ≡ placed_points span 0 pairs
  points_put span pairs = points_put_from span 0 0 pairs [] refl

  -- the spots of the points stay where they are
  same_point_spots : (span : EdgeSpan) (at p : ℕ) (pairs : List Pair) (path : List ℕ) →
      point_spots path span at p (placed_points span p pairs) ≡ point_spots path span at p pairs
  same_point_spots span at p [] path = refl
  same_point_spots span at p (pair ∷ pairs) path =
      by_test (has_key (codes "point") pair) refl (same_point_spots span (at + 1) (p + 1) pairs path) (same_point_spots span (at + 1) p pairs path)
    where
      by_test : (b : Bool) → has_key (codes "point") pair ≡ b →
          point_spots path span (at + 1) (p + 1) (placed_points span (p + 1) pairs) ≡ point_spots path span (at + 1) (p + 1) pairs →
          point_spots path span (at + 1) p (placed_points span p pairs) ≡ point_spots path span (at + 1) p pairs →
          point_spots path span at p (cond b (placed_point (point_vertex span p) pair ∷ placed_points span (p + 1) pairs) (pair ∷ placed_points span p pairs)) ≡
          cond b (value_spots (path ++ at ∷ []) (point_vertex span p) pair.value ++ point_spots path span (at + 1) (p + 1) pairs) (point_spots path span (at + 1) p pairs)
      by_test true is one more = rw is (rw (one, same_value_spots places pitch (point_vertex span p) pair.value (path ++ at ∷ [])) refl)
      by_test false is one more = rw is more

  abbrev pub put_points : EdgeSpan → List Pair → List Pair
  put_points span points = puts places pitch (point_spots [] span 0 0 points) points

  abbrev pub put_line : EdgeSpan → List Pair → List Pair
  put_line span list = puts places pitch (line_spots [] span list) list

  abbrev pub placed_edge : EdgeSpan → List Pair → List Pair
  placed_edge span pairs = puts places pitch (edge_spots [] span pairs) pairs

  pub line_put : (span : EdgeSpan) (list : List Pair) → IsPutInside places pitch (codes "Line") (put_points span) list (put_line span list)
  line_put span list = put_inside places pitch (λ path points. point_spots path span 0 0 points) (points_relative span 0 0) (points_lead span) (codes "Line") list

  pub edge_put : (span : EdgeSpan) (pairs : List Pair) → IsPutInside places pitch (codes "graphics") (put_line span) pairs (placed_edge span pairs)
  edge_put span pairs = put_inside places pitch (λ path list. line_spots path span list) (line_relative span) (line_leads span) (codes "graphics") pairs

  same_line_spots : (span : EdgeSpan) (path : List ℕ) (list : List Pair) → line_spots path span (put_line span list) ≡ line_spots path span list
  same_line_spots span path list =
      inside_same places pitch (λ path points. point_spots path span 0 0 points) (put_points span) (codes "Line") list (put_line span list) (line_put span list)
      (λ path points. ap (point_spots path span 0 0) (points_put span points) ∙ same_point_spots span 0 0 points path) path

  pub same_edge_spots : (span : EdgeSpan) (pairs : List Pair) (path : List ℕ) → edge_spots path span (placed_edge span pairs) ≡ edge_spots path span pairs
  same_edge_spots span pairs path =
      inside_same places pitch (λ path list. line_spots path span list) (put_line span) (codes "graphics") pairs (placed_edge span pairs) (edge_put span pairs)
      (same_line_spots span) path

  -- the line of an edge with its numerals put
  line_of_placed : (span : EdgeSpan) (pairs : List Pair) → line_pairs (placed_edge span pairs) ≡ placed_points span 0 (line_pairs pairs)
  line_of_placed span pairs =
      ap (λ (o : Option (List Pair)). unwrap_or (option_and_then (first_list (codes "Line")) o) []) (edge_put span pairs).list ∙ by_graphics (first_list (codes "graphics") pairs)
    where
      by_line : (o : Option (List Pair)) → unwrap_or (option_map (put_points span) o) [] ≡ placed_points span 0 (unwrap_or o [])
      by_line None = refl
      by_line (Some points) = points_put span points

      by_graphics : (o : Option (List Pair)) → unwrap_or (option_and_then (first_list (codes "Line")) (option_map (put_line span) o)) [] ≡
          placed_points span 0 (unwrap_or (option_and_then (first_list (codes "Line")) o) [])
      by_graphics None = refl
      by_graphics (Some list) = ap (λ (o : Option (List Pair)). unwrap_or o []) (line_put span list).list ∙ by_line (first_list (codes "Line") list)

made_edge : WholeNumber → WholeNumber → List (Option Numbers) → Edge
made_edge source target points = record { source = source; target = target; points = points }

same_edges : (a b c d : WholeNumber) (p q : List (Option Numbers)) → a ≡ b → c ≡ d → p ≡ q → made_edge a c p ≡ made_edge b d q
same_edges a b c d p q first second third = cc

module _ (places : Places) (pitch : ℕ) (where_is : ℕ → Point)
    (tells : (axis : Axis) (v : ℕ) → thousandths_of (number_text (pos pitch *ℤ along axis (place places.xy v))) ≡ Ok (along axis (where_is v))) where
  -- a point with its numerals put stands at its vertex's new place
  point_placed : (v : ℕ) (value : Value) → is_none (option_and_then numbers_in (list_in value)) ≡ false →
      option_and_then numbers_in (list_in (placed_value places pitch v value)) ≡ option_map (moved_numbers where_is v) (option_and_then numbers_in (list_in value))
  point_placed v value have =
      ap (option_and_then numbers_in) (value_list places pitch v value) ∙ place_placed places pitch where_is tells v (list_in value) have

  -- the points of a line with its numerals put are the moved points
  points_placed : (span : EdgeSpan) (p : ℕ) (pairs : List Pair) → HavePoints (filter_map point_in pairs) →
      filter_map point_in (placed_points places pitch span p pairs) ≡ moved_points where_is span p (filter_map point_in pairs)
  points_placed span p [] have = refl
  points_placed span p (pair ∷ pairs) have = by_test (has_key (codes "point") pair) refl have (λ have. points_placed span (p + 1) pairs have) (λ have. points_placed span p pairs have)
    where
      by_test : (b : Bool) → has_key (codes "point") pair ≡ b →
          HavePoints (cons_option (cond b (Some (option_and_then numbers_in (list_in pair.value))) None) (filter_map point_in pairs)) →
          (HavePoints (filter_map point_in pairs) → filter_map point_in (placed_points places pitch span (p + 1) pairs) ≡ moved_points where_is span (p + 1) (filter_map point_in pairs)) →
          (HavePoints (filter_map point_in pairs) → filter_map point_in (placed_points places pitch span p pairs) ≡ moved_points where_is span p (filter_map point_in pairs)) →
          filter_map point_in (cond b (placed_point places pitch (point_vertex span p) pair ∷ placed_points places pitch span (p + 1) pairs) (pair ∷ placed_points places pitch span p pairs)) ≡
          moved_points where_is span p (cons_option (cond b (Some (option_and_then numbers_in (list_in pair.value))) None) (filter_map point_in pairs))
      by_test true is have one more =
          rw is (rw (one (have.1))
          (ap (λ point. point ∷ moved_points where_is span (p + 1) (filter_map point_in pairs)) (point_placed (point_vertex span p) pair.value (have.0))))
      by_test false is have one more = rw is (more have)

  -- an edge with its numerals put is the moved edge
  pub edge_placed : (span : EdgeSpan) (pairs : List Pair) → HavePoints (edge_of pairs).points → edge_of (placed_edge places pitch span pairs) ≡ moved_edge where_is span (edge_of pairs)
  unfolding made_edge
  edge_placed span pairs have =
      let put = edge_put places pitch span pairs in
      let new = placed_edge places pitch span pairs in
      let source : whole_under (codes "source") new ≡ whole_under (codes "source") pairs =
      ap (λ (o : Option Pair). option_map_or (λ (pair : Pair). whole_in pair.value) o Absent) (put.others (codes "source") (apart_words (codes "graphics") (codes "source") refl)) in
      let target : whole_under (codes "target") new ≡ whole_under (codes "target") pairs =
      ap (λ (o : Option Pair). option_map_or (λ (pair : Pair). whole_in pair.value) o Absent) (put.others (codes "target") (apart_words (codes "graphics") (codes "target") refl)) in
      let points : filter_map point_in (line_pairs new) ≡ moved_points where_is span 0 (filter_map point_in (line_pairs pairs)) =
      ap (filter_map point_in) (line_of_placed places pitch span pairs) ∙ points_placed span 0 (line_pairs pairs) have in
      same_edges (whole_under (codes "source") new) (whole_under (codes "source") pairs) (whole_under (codes "target") new) (whole_under (codes "target") pairs)
      (filter_map point_in (line_pairs new)) (moved_points where_is span 0 (filter_map point_in (line_pairs pairs))) source target points
