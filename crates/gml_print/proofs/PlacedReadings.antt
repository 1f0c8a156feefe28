-- The tree with new places has the reading with these places.
use Rattle.std.proofs.Common.{◌≡◌, ℕ, suc, ◌*◌, ◌<◌, ◌≤◌, arith, Bool, true, false, cond, List, [], ◌∷◌, length, map, Option, None, refl, sym, ap, ◌∙◌, subst}
use Rattle.std.specs.Option.{option_map}
use Rattle.std.specs.List.{filter_map, position, range_with_len}
use Rattle.std.specs.Prelude.{codes, is_some, unwrap_or}
use Rattle.std.proofs.lemmas.Int.{ints}
use Rattle.std.proofs.lemmas.List.{length-map, get_or-map}
use Rattle.std.proofs.lemmas.List.FromFn.{fill_by_all}
use Rattle.compact_types.specs.declared.places.Axis.TheVariants.{X, Y}
use Rattle.compact_types.specs.declared.places.Point.{Point}
use Rattle.compact_types.specs.declared.places.Places.{Places}
use Rattle.compact_types.specs.declared.plan.Piece.{Piece}
use Rattle.compact_types.specs.declared.plan.Plan.{Plan}
use Rattle.compact_types.specs.declared.plan.Shape.{Shape}
use Rattle.compact_types.specs.declared.plan.Way.{Way}
use Rattle.compact_types.specs.declared.plan.Way.TheVariants.{East, West, High, Low}
use Rattle.compact_types.specs.Lookups.{place, piece_at, way_at, origin}
use Rattle.compact_types.specs.Ways.{HasWay}
use Rattle.compact_types.specs.Drawings.{IsCrossingFree, begin_of, end_of}
use Rattle.gml_text.specs.declared.tree.Tree.{Tree, out-Tree}
use Rattle.gml_text.specs.declared.tree.Pair.{Pair}
use Rattle.gml_text.specs.declared.tree.Value.{Value}
use Rattle.drawing_read.specs.declared.reading.Reading.{Reading}
use Rattle.drawing_read.specs.declared.spans.EdgeSpan.{EdgeSpan}
use Rattle.drawing_read.specs.declared.written.Node.{Node}
use Rattle.drawing_read.specs.declared.written.Edge.{Edge}
use Rattle.drawing_read.specs.declared.written.Graph.{Graph}
use Rattle.drawing_read.specs.Lookups.{has_key, list_in, list_under, lists_under}
use Rattle.drawing_read.specs.Spans.{points_in, spans_in, pieces_of, pieces_in}
use Rattle.drawing_read.specs.Written.{edge_in, graph_of}
use Rattle.drawing_read.specs.Faults.{graphs_of, graph_fault}
use Rattle.drawing_read.specs.Spots.{graph_spots}
use Rattle.drawing_read.specs.Readings.{graph_place, IsGraphReading, IfOne, IsReading}
use Rattle.gml_print.specs.Placing.{with_changed_value}
use Rattle.compact_types.specs.declared.limits.TheConstants.{MOST_PITCH}
use Rattle.gml_print.specs.Places.{placed, CanPut, in_thousandths, moved_reading}
use Rattle.gml_print.proofs.ListFacts.{length_range}
use Rattle.gml_print.proofs.PlaceNumbers.{AreWritable, are_writable, numerals_tell, same_multiple, place_writable}
use Rattle.gml_print.proofs.ChangedLists.{changed_at}
use Rattle.gml_print.proofs.PutValues.{puts, replaced_by, replaced_by_list, placed_pairs, puts_behind}
use Rattle.gml_print.proofs.SpotPaths.{graph_relative, graph_leads}
use Rattle.gml_print.proofs.MovedGraphs.{Apart}
use Rattle.gml_print.proofs.MovedReadings.{moved_graph, spans_moved, points_moved, faultless_moved, written_parts}
use Rattle.gml_print.proofs.PlacedGraphs.{placed_graph, graph_put, same_graph_spots, nodes_placed, edges_placed, only_list}

-- the one list of a reading
pub only_graph : (lists : List (List Pair)) (P : List Pair → Type 0) → IfOne lists P → (pairs : List Pair) × (lists ≡ pairs ∷ []) × P pairs
only_graph [] P one = absurd one
only_graph (pairs ∷ []) P one = (pairs, refl, one)
only_graph (pairs ∷ other ∷ more) P one = absurd one

is_one : (lists : List (List Pair)) (pairs : List Pair) (P : List Pair → Type 0) → lists ≡ pairs ∷ [] → P pairs → IfOne lists P
is_one lists pairs P is holds = rw is holds

-- a vertex's place in thousandths
abbrev pub new_place : ℕ → Places → ℕ → Point
new_place pitch places v = in_thousandths pitch (place places.xy v)

-- all places in thousandths
all_new_places : (pitch : ℕ) (places : Places) (n : ℕ) → length places.xy ≡ n → map (in_thousandths pitch) places.xy ≡ map (new_place pitch places) (range_with_len 0 n)
all_new_places pitch places n long =
    fill_by_all (new_place pitch places) (map (in_thousandths pitch) places.xy) n (in_thousandths pitch origin) (length-map places.xy (in_thousandths pitch) ∙ long)
    (λ k within. get_or-map (in_thousandths pitch) places.xy k origin (in_thousandths pitch origin) (omega arith))

-- the ends of a piece with a way have different places in thousandths
ends_differ : (pitch : ℕ) (places : Places) → AreWritable places → 1 ≤ pitch → (u v : ℕ) (way : Way) → HasWay way (place places.xy u) (place places.xy v) →
    new_place pitch places u ≡ new_place pitch places v → ⊥
ends_differ pitch places within some u v East has is =
    let same = same_multiple (1000 * pitch) (place places.xy u).x (place places.xy v).x (omega arith) (place_writable places within u X) (place_writable places within v X) (ap (λ (p : Point). p.x) is) in
    omega (arith, ints, has.0)
ends_differ pitch places within some u v West has is =
    let same = same_multiple (1000 * pitch) (place places.xy u).x (place places.xy v).x (omega arith) (place_writable places within u X) (place_writable places within v X) (ap (λ (p : Point). p.x) is) in
    omega (arith, ints, has.0)
ends_differ pitch places within some u v High has is =
    let same = same_multiple (1000 * pitch) (place places.xy u).y (place places.xy v).y (omega arith) (place_writable places within u Y) (place_writable places within v Y) (ap (λ (p : Point). p.y) is) in
    omega (arith, ints, has.0)
ends_differ pitch places within some u v Low has is =
    let same = same_multiple (1000 * pitch) (place places.xy u).y (place places.xy v).y (omega arith) (place_writable places within u Y) (place_writable places within v Y) (ap (λ (p : Point). p.y) is) in
    omega (arith, ints, has.0)

all_apart : (where_is : ℕ → Point) (pieces : List Piece) →
    ((i : ℕ) → i < length pieces → where_is (piece_at pieces i).from ≡ where_is (piece_at pieces i).to → ⊥) → Apart where_is pieces
all_apart where_is [] differ = tt
all_apart where_is (piece ∷ pieces) differ = (differ 0 (omega arith), all_apart where_is pieces (λ i within. differ (suc i) (omega arith)))

drawing_apart : (pitch : ℕ) (places : Places) (shape : Shape) (plan : Plan) → AreWritable places → 1 ≤ pitch → shape.plan ≡ plan → IsCrossingFree shape places →
    Apart (new_place pitch places) plan.pieces
drawing_apart pitch places shape plan within some same crossing_free =
    let HasAll : Plan → Type 0 = λ plan. (i : ℕ) → i < length plan.pieces → HasWay (way_at shape.ways i) (begin_of plan places i) (end_of plan places i) in
    let ways : HasAll plan = subst HasAll same crossing_free.ways in
    all_apart (new_place pitch places) plan.pieces
    (λ i here. ends_differ pitch places within some (piece_at plan.pieces i).from (piece_at plan.pieces i).to (way_at shape.ways i) (ways i here))

made_graph : List Node → List Edge → Graph
made_graph nodes edges = record { nodes = nodes; edges = edges }

-- the graph at the top of a tree with its numerals put
module _ (reading : Reading) (places : Places) (pitch at : ℕ) (pairs : List Pair) (read : IsGraphReading at pairs reading)
    (one_for_each : length places.xy ≡ reading.plan.vertices) (within : AreWritable places) (most : pitch ≤ MOST_PITCH)
    (apart : Apart (new_place pitch places) reading.plan.pieces) where
  abbrev pub new_pairs : List Pair
  new_pairs = placed_graph places pitch (spans_in (graph_of pairs)) 0 0 pairs

  same_graph : graph_of new_pairs ≡ moved_graph (new_place pitch places) (graph_of pairs)
  unfolding made_graph
  same_graph =
      let have = written_parts (graph_of pairs) read.faultless in
      let tells = numerals_tell places pitch within most in
      let spans = spans_in (graph_of pairs) in
      ap (λ nodes. made_graph nodes (filter_map edge_in new_pairs)) (nodes_placed places pitch (new_place pitch places) tells spans 0 0 pairs have.0)
      ∙ ap (made_graph (moved_graph (new_place pitch places) (graph_of pairs)).nodes) (edges_placed places pitch (new_place pitch places) tells spans 0 0 pairs have.1)

  pieces_apart : Apart (new_place pitch places) (pieces_in (graph_of pairs))
  pieces_apart = let P : List Piece → Type 0 = Apart (new_place pitch places) in subst P read.pieces apart

  new_spans : spans_in (graph_of new_pairs) ≡ spans_in (graph_of pairs)
  new_spans = ap spans_in same_graph ∙ spans_moved (new_place pitch places) (graph_of pairs) read.faultless pieces_apart

  new_points : points_in (graph_of new_pairs) ≡ map (new_place pitch places) (range_with_len 0 (length (points_in (graph_of pairs))))
  new_points = ap points_in same_graph ∙ points_moved (new_place pitch places) (graph_of pairs) read.faultless pieces_apart

  pub graph_read : IsGraphReading at new_pairs (moved_reading reading places pitch)
  graph_read =
      let count = length (points_in (graph_of pairs)) in
      record {
        faultless = ap graph_fault same_graph ∙ faultless_moved (new_place pitch places) (graph_of pairs) read.faultless pieces_apart;
        vertices = read.vertices ∙ sym (ap length new_points ∙ length-map (range_with_len 0 count) (new_place pitch places) ∙ length_range 0 count);
        pieces = read.pieces ∙ ap pieces_of (sym new_spans);
        places = all_new_places pitch places count (one_for_each ∙ read.vertices) ∙ sym new_points;
        spots = read.spots
            ∙ sym (same_graph_spots places pitch (spans_in (graph_of pairs)) (at ∷ []) 0 0 0 pairs)
            ∙ ap (λ (spans : List EdgeSpan). graph_spots (at ∷ []) spans 0 0 0 new_pairs) (sym new_spans);
      }

-- the tree with new places has the reading with these places
pub placed_reading : (tree : Tree) (reading : Reading) (places : Places) (pitch : ℕ) (shape : Shape) →
    CanPut tree reading places pitch → shape.plan ≡ reading.plan → IsCrossingFree shape places →
    IsReading (placed tree reading.spots places pitch) (moved_reading reading places pitch)
placed_reading tree reading places pitch shape can same crossing_free =
    let one = only_graph (graphs_of tree) (λ pairs. IsGraphReading (graph_place tree) pairs reading) can.read in
    let pairs = one.0 in
    let read = one.2 in
    let spans = spans_in (graph_of pairs) in
    let spots = graph_spots [] spans 0 0 0 pairs in
    let change : List Pair → List Pair = puts places pitch spots in
    let f : Value → Value = replaced_by places pitch spots in
    let at = graph_place tree in
    let top = (out-Tree tree).pairs in
    let new = placed tree reading.spots places pitch in
    let new_top : (out-Tree new).pairs ≡ changed_at at f top =
    placed_pairs places pitch tree reading.spots
    ∙ ap (λ spots. puts places pitch spots top) (read.spots ∙ graph_relative spans 0 0 0 pairs (at ∷ []))
    ∙ puts_behind places pitch at spots top in
    let fits : (pair : Pair) → list_under (codes "graph") (with_changed_value f pair) ≡ option_map change (list_under (codes "graph") pair) =
    λ pair. list_changed (has_key (codes "graph") pair) (list_in (f pair.value)) (list_in pair.value) change (replaced_by_list places pitch spots pair.value (graph_leads spans pairs)) in
    let only = only_list (codes "graph") f change fits top pairs one.1 in
    let here : at ≡ only.0 = ap (λ (o : Option ℕ). unwrap_or o 0) only.1.place in
    let changed_here : changed_at at f top ≡ changed_at only.0 f top = ap (λ (a : ℕ). changed_at a f top) here in
    let lists : graphs_of new ≡ placed_graph places pitch spans 0 0 pairs ∷ [] =
    ap (lists_under (codes "graph")) (new_top ∙ changed_here) ∙ only.1.new_lists ∙ ap (λ (list : List Pair). list ∷ []) (graph_put places pitch spans pairs) in
    let same_place : at ≡ graph_place new =
    here ∙ sym (ap (λ (pairs : List Pair). unwrap_or (position (λ pair. is_some (list_under (codes "graph") pair)) pairs) 0) (new_top ∙ changed_here)
    ∙ ap (λ (o : Option ℕ). unwrap_or o 0) only.1.new_place) in
    let writable = are_writable places can.not_below can.within in
    let apart = drawing_apart pitch places shape reading.plan writable can.some_pitch same crossing_free in
    let P : ℕ → Type 0 = λ at. IsGraphReading at (placed_graph places pitch spans 0 0 pairs) (moved_reading reading places pitch) in
    is_one (graphs_of new) (placed_graph places pitch spans 0 0 pairs) (λ pairs. IsGraphReading (graph_place new) pairs (moved_reading reading places pitch)) lists
    (subst P same_place (graph_read reading places pitch at pairs read can.one_for_each writable can.most_pitch apart))
  where
    list_changed : (b : Bool) (new old : Option (List Pair)) (change : List Pair → List Pair) → new ≡ option_map change old →
        cond b new None ≡ option_map change (cond b old None)
    list_changed true new old change is = is
    list_changed false new old change is = refl
