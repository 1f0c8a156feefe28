-- The list of a graph after the numerals of its spots were put.
use Rattle.std.proofs.Common.{◌≡◌, ℕ, suc, ◌+◌, pos, Bool, true, false, cond, List, [], ◌∷◌, ◌++◌, length, Option, None, Some, Ok, refl, ap, ◌∙◌, append-nil, slice_index_or}
use Rattle.std.specs.Option.{option_map, option_map_or}
use Rattle.std.specs.List.{filter_map, cons_option, position}
use Rattle.std.specs.Prelude.{codes, is_some, ◌*ℤ◌}
use Rattle.compact_types.specs.declared.places.Axis.{Axis}
use Rattle.compact_types.specs.declared.places.Point.{Point}
use Rattle.compact_types.specs.declared.places.Places.{Places}
use Rattle.compact_types.specs.Lookups.{place, along}
use Rattle.gml_text.specs.declared.tree.Pair.{Pair}
use Rattle.gml_text.specs.declared.tree.Value.{Value}
use Rattle.drawing_read.specs.declared.spans.EdgeSpan.{EdgeSpan}
use Rattle.drawing_read.specs.Lookups.{has_key, list_in, list_under, lists_under}
use Rattle.gml_text.specs.Thousandths.{thousandths_of}
use Rattle.drawing_read.specs.Written.{written_node, node_in, edge_of, edge_in}
use Rattle.drawing_read.specs.Spots.{node_spots, edge_spots, pair_spots, counted, graph_spots}
use Rattle.drawing_read.specs.Spans.{no_span}
use Rattle.gml_print.specs.Numbers.{number_text}
use Rattle.gml_print.specs.Placing.{with_changed_value}
use Rattle.gml_print.proofs.ListFacts.{position_here, position_later}
use Rattle.gml_print.proofs.ChangedLists.{changed_at, apart_words}
use Rattle.gml_print.proofs.PutValues.{puts, replaced_by, replaced_by_list}
use Rattle.gml_print.proofs.MovedGraphs.{HavePlaces, EdgesHavePoints, moved_nodes, moved_edges}
use Rattle.gml_print.proofs.SpotPaths.{pair_relative, pair_leads}
use Rattle.gml_print.proofs.PlacedNodes.{placed_node, node_placed, same_node_spots}
use Rattle.gml_print.proofs.PlacedEdges.{placed_edge, edge_placed, same_edge_spots, then_put}

module _ (places : Places) (pitch : ℕ) (spans : List EdgeSpan) where
  abbrev pub placed_pair : ℕ → ℕ → Pair → Pair
  placed_pair n e pair = with_changed_value (replaced_by places pitch (pair_spots [] spans n e pair)) pair

  -- the pairs of a graph, from node n and edge e on, with their numerals
  abbrev pub placed_graph : ℕ → ℕ → List Pair → List Pair
  placed_graph n e [] = []
  placed_graph n e (pair ∷ pairs) =
      placed_pair n e pair ∷ placed_graph (counted n (list_under (codes "node") pair)) (counted e (list_under (codes "edge") pair)) pairs

  graph_put_from : (at n e : ℕ) (pairs front : List Pair) → length front ≡ at →
      puts places pitch (graph_spots [] spans at n e pairs) (front ++ pairs) ≡ front ++ placed_graph n e pairs
  graph_put_from at n e [] front long = refl
  graph_put_from at n e (pair ∷ pairs) front long =
      let m = counted n (list_under (codes "node") pair) in
      let f = counted e (list_under (codes "edge") pair) in
      ap (λ spots. puts places pitch (spots ++ graph_spots [] spans (at + 1) m f pairs) (front ++ pair ∷ pairs)) (pair_relative spans n e pair (at ∷ []))
      ∙ then_put places pitch front at (pair_spots [] spans n e pair) (graph_spots [] spans (at + 1) m f pairs) pair pairs (placed_graph m f) long
      (λ front long. graph_put_from (at + 1) m f pairs front long)

  pub graph_put : (pairs : List Pair) → puts places pitch (graph_spots [] spans 0 0 0 pairs) pairs ≡ placed_graph 0 0 pairs
  graph_put pairs = graph_put_from 0 0 0 pairs [] refl

  module _ (n e : ℕ) where
    span : EdgeSpan
    span = slice_index_or spans e no_span

    node_case : (b c : Bool) (o : Option (List Pair)) → (b ≡ true → c ≡ false) →
        cond b (option_map (puts places pitch (option_map_or (λ list. node_spots [] n list) (cond b o None) [] ++ option_map_or (λ list. edge_spots [] span list) (cond c o None) [])) o) None ≡
        option_map (placed_node places pitch n) (cond b o None)
    node_case false c o apart = refl
    node_case true true o apart = let h : true ≡ false = apart refl in cc
    node_case true false None apart = refl
    node_case true false (Some list) apart = ap (λ spots. Some (puts places pitch spots list)) (append-nil (node_spots [] n list))

    edge_case : (b c : Bool) (o : Option (List Pair)) → (c ≡ true → b ≡ false) →
        cond c (option_map (puts places pitch (option_map_or (λ list. node_spots [] n list) (cond b o None) [] ++ option_map_or (λ list. edge_spots [] span list) (cond c o None) [])) o) None ≡
        option_map (placed_edge places pitch span) (cond c o None)
    edge_case b false o apart = refl
    edge_case true true o apart = let h : true ≡ false = apart refl in cc
    edge_case false true None apart = refl
    edge_case false true (Some list) apart = refl

    -- the list of a node, or of an edge, with its numerals
    pub node_list : (pair : Pair) → list_under (codes "node") (placed_pair n e pair) ≡ option_map (placed_node places pitch n) (list_under (codes "node") pair)
    unfolding span
    node_list pair =
        ap (λ (o : Option (List Pair)). cond (has_key (codes "node") pair) o None) (replaced_by_list places pitch (pair_spots [] spans n e pair) pair.value (pair_leads spans n e pair))
        ∙ node_case (has_key (codes "node") pair) (has_key (codes "edge") pair) (list_in pair.value) (apart_words (codes "node") (codes "edge") refl pair.key)

    pub edge_list : (pair : Pair) →
        list_under (codes "edge") (placed_pair n e pair) ≡ option_map (placed_edge places pitch (slice_index_or spans e no_span)) (list_under (codes "edge") pair)
    unfolding span
    edge_list pair =
        ap (λ (o : Option (List Pair)). cond (has_key (codes "edge") pair) o None) (replaced_by_list places pitch (pair_spots [] spans n e pair) pair.value (pair_leads spans n e pair))
        ∙ edge_case (has_key (codes "node") pair) (has_key (codes "edge") pair) (list_in pair.value) (apart_words (codes "edge") (codes "node") refl pair.key)

  same_node_pair : (path : List ℕ) (n : ℕ) (o : Option (List Pair)) →
      option_map_or (λ list. node_spots path n list) (option_map (placed_node places pitch n) o) [] ≡ option_map_or (λ list. node_spots path n list) o []
  same_node_pair path n None = refl
  same_node_pair path n (Some list) = same_node_spots places pitch n list path

  same_edge_pair : (path : List ℕ) (edge : EdgeSpan) (o : Option (List Pair)) →
      option_map_or (λ list. edge_spots path edge list) (option_map (placed_edge places pitch edge) o) [] ≡ option_map_or (λ list. edge_spots path edge list) o []
  same_edge_pair path edge None = refl
  same_edge_pair path edge (Some list) = same_edge_spots places pitch edge list path

  same_pair_spots : (path : List ℕ) (n e : ℕ) (pair : Pair) → pair_spots path spans n e (placed_pair n e pair) ≡ pair_spots path spans n e pair
  same_pair_spots path n e pair =
      let span = slice_index_or spans e no_span in
      let node : option_map_or (λ list. node_spots path n list) (list_under (codes "node") (placed_pair n e pair)) [] ≡
      option_map_or (λ list. node_spots path n list) (list_under (codes "node") pair) [] =
      ap (λ (o : Option (List Pair)). option_map_or (λ list. node_spots path n list) o []) (node_list n e pair) ∙ same_node_pair path n (list_under (codes "node") pair) in
      let edge : option_map_or (λ list. edge_spots path span list) (list_under (codes "edge") (placed_pair n e pair)) [] ≡
      option_map_or (λ list. edge_spots path span list) (list_under (codes "edge") pair) [] =
      ap (λ (o : Option (List Pair)). option_map_or (λ list. edge_spots path span list) o []) (edge_list n e pair) ∙ same_edge_pair path span (list_under (codes "edge") pair) in
      ap (λ spots. spots ++ option_map_or (λ list. edge_spots path span list) (list_under (codes "edge") (placed_pair n e pair)) []) node
      ∙ ap (λ spots. option_map_or (λ list. node_spots path n list) (list_under (codes "node") pair) [] ++ spots) edge

  same_counted : (n : ℕ) (f : List Pair → List Pair) (o : Option (List Pair)) → counted n (option_map f o) ≡ counted n o
  same_counted n f None = refl
  same_counted n f (Some list) = refl

  -- the spots of the graph stay where they are
  pub same_graph_spots : (path : List ℕ) (at n e : ℕ) (pairs : List Pair) → graph_spots path spans at n e (placed_graph n e pairs) ≡ graph_spots path spans at n e pairs
  same_graph_spots path at n e [] = refl
  same_graph_spots path at n e (pair ∷ pairs) =
      let m = counted n (list_under (codes "node") pair) in
      let f = counted e (list_under (codes "edge") pair) in
      let nodes : counted n (list_under (codes "node") (placed_pair n e pair)) ≡ m =
      ap (counted n) (node_list n e pair) ∙ same_counted n (placed_node places pitch n) (list_under (codes "node") pair) in
      let edges : counted e (list_under (codes "edge") (placed_pair n e pair)) ≡ f =
      ap (counted e) (edge_list n e pair) ∙ same_counted e (placed_edge places pitch (slice_index_or spans e no_span)) (list_under (codes "edge") pair) in
      let rest = placed_graph m f pairs in
      ap (λ spots. spots ++ graph_spots path spans (at + 1) (counted n (list_under (codes "node") (placed_pair n e pair))) (counted e (list_under (codes "edge") (placed_pair n e pair))) rest)
      (same_pair_spots (path ++ at ∷ []) n e pair)
      ∙ ap (λ (k : ℕ). pair_spots (path ++ at ∷ []) spans n e pair ++ graph_spots path spans (at + 1) k (counted e (list_under (codes "edge") (placed_pair n e pair))) rest) nodes
      ∙ ap (λ (k : ℕ). pair_spots (path ++ at ∷ []) spans n e pair ++ graph_spots path spans (at + 1) m k rest) edges
      ∙ ap (λ spots. pair_spots (path ++ at ∷ []) spans n e pair ++ spots) (same_graph_spots path (at + 1) m f pairs)

module _ (places : Places) (pitch : ℕ) (where_is : ℕ → Point)
    (tells : (axis : Axis) (v : ℕ) → thousandths_of (number_text (pos pitch *ℤ along axis (place places.xy v))) ≡ Ok (along axis (where_is v)))
    (spans : List EdgeSpan) where
  -- the nodes and the edges with their numerals put are the moved ones
  pub nodes_placed : (n e : ℕ) (pairs : List Pair) → HavePlaces (filter_map node_in pairs) →
      filter_map node_in (placed_graph places pitch spans n e pairs) ≡ moved_nodes where_is n (filter_map node_in pairs)
  nodes_placed n e [] have = refl
  nodes_placed n e (pair ∷ pairs) have =
      let f = counted e (list_under (codes "edge") pair) in
      ap (λ (o : Option (List Pair)). cons_option (option_map written_node o) (filter_map node_in (placed_graph places pitch spans (counted n (list_under (codes "node") pair)) f pairs)))
      (node_list places pitch spans n e pair)
      ∙ by_list (list_under (codes "node") pair) have (λ m have. nodes_placed m f pairs have)
    where
      by_list : (o : Option (List Pair)) → HavePlaces (cons_option (option_map written_node o) (filter_map node_in pairs)) →
          ((m : ℕ) → HavePlaces (filter_map node_in pairs) →
          filter_map node_in (placed_graph places pitch spans m (counted e (list_under (codes "edge") pair)) pairs) ≡ moved_nodes where_is m (filter_map node_in pairs)) →
          cons_option (option_map written_node (option_map (placed_node places pitch n) o))
          (filter_map node_in (placed_graph places pitch spans (counted n o) (counted e (list_under (codes "edge") pair)) pairs)) ≡
          moved_nodes where_is n (cons_option (option_map written_node o) (filter_map node_in pairs))
      by_list None have rest = rest n have
      by_list (Some list) have rest = rw (node_placed places pitch where_is tells n list (have.0), rest (n + 1) (have.1)) refl

  pub edges_placed : (n e : ℕ) (pairs : List Pair) → EdgesHavePoints (filter_map edge_in pairs) →
      filter_map edge_in (placed_graph places pitch spans n e pairs) ≡ moved_edges where_is (λ e. slice_index_or spans e no_span) e (filter_map edge_in pairs)
  edges_placed n e [] have = refl
  edges_placed n e (pair ∷ pairs) have =
      let m = counted n (list_under (codes "node") pair) in
      ap (λ (o : Option (List Pair)). cons_option (option_map edge_of o) (filter_map edge_in (placed_graph places pitch spans m (counted e (list_under (codes "edge") pair)) pairs)))
      (edge_list places pitch spans n e pair)
      ∙ by_list (list_under (codes "edge") pair) have (λ f have. edges_placed m f pairs have)
    where
      by_list : (o : Option (List Pair)) → EdgesHavePoints (cons_option (option_map edge_of o) (filter_map edge_in pairs)) →
          ((f : ℕ) → EdgesHavePoints (filter_map edge_in pairs) →
          filter_map edge_in (placed_graph places pitch spans (counted n (list_under (codes "node") pair)) f pairs) ≡
          moved_edges where_is (λ e. slice_index_or spans e no_span) f (filter_map edge_in pairs)) →
          cons_option (option_map edge_of (option_map (placed_edge places pitch (slice_index_or spans e no_span)) o))
          (filter_map edge_in (placed_graph places pitch spans (counted n (list_under (codes "node") pair)) (counted e o) pairs)) ≡
          moved_edges where_is (λ e. slice_index_or spans e no_span) e (cons_option (option_map edge_of o) (filter_map edge_in pairs))
      by_list None have rest = rest e have
      by_list (Some list) have rest = rw (edge_placed places pitch where_is tells (slice_index_or spans e no_span) list (have.0), rest (e + 1) (have.1)) refl

-- the one list under a key, where the value of its pair is changed
module _ (key : List ℕ) (f : Value → Value) (change : List Pair → List Pair)
    (fits : (pair : Pair) → list_under key (with_changed_value f pair) ≡ option_map change (list_under key pair)) where
  pub record IsOnlyList (pairs list : List Pair) (a : ℕ) : Type 0 where
    pub place : position (λ pair. is_some (list_under key pair)) pairs ≡ Some a
    pub new_place : position (λ pair. is_some (list_under key pair)) (changed_at a f pairs) ≡ Some a
    pub new_lists : lists_under key (changed_at a f pairs) ≡ change list ∷ []

  pub only_list : (pairs list : List Pair) → lists_under key pairs ≡ list ∷ [] → (a : ℕ) × IsOnlyList pairs list a
  only_list [] list is = cc
  only_list (pair ∷ pairs) list is = by_list (list_under key pair) refl is (λ is. only_list pairs list is)
    where
      same_first : (xs ys : List (List Pair)) (x y : List Pair) → x ∷ xs ≡ y ∷ ys → (x ≡ y) × (xs ≡ ys)
      same_first xs ys x y is = (cc, cc)

      by_list : (o : Option (List Pair)) → list_under key pair ≡ o → cons_option o (lists_under key pairs) ≡ list ∷ [] →
          (lists_under key pairs ≡ list ∷ [] → (a : ℕ) × IsOnlyList pairs list a) → (a : ℕ) × IsOnlyList (pair ∷ pairs) list a
      by_list None none is rest =
          let later = rest is in (
            suc later.0,
            record {
              place = position_later (λ pair. is_some (list_under key pair)) pair pairs later.0 (ap is_some none) later.1.place;
              new_place = position_later (λ pair. is_some (list_under key pair)) pair (changed_at later.0 f pairs) later.0 (ap is_some none) later.1.new_place;
              new_lists = ap (λ (o : Option (List Pair)). cons_option o (lists_under key (changed_at later.0 f pairs))) none ∙ later.1.new_lists;
            },
          )
      by_list (Some found) some is rest =
          let same = same_first (lists_under key pairs) [] found list is in
          let new : list_under key (with_changed_value f pair) ≡ Some (change list) =
          fits pair ∙ ap (option_map change) some ∙ ap (λ (l : List Pair). Some (change l)) same.0 in (
            0,
            record {
              place = position_here (λ pair. is_some (list_under key pair)) pair pairs (ap is_some some);
              new_place = position_here (λ pair. is_some (list_under key pair)) (with_changed_value f pair) pairs (ap is_some new);
              new_lists = ap (λ (o : Option (List Pair)). cons_option o (lists_under key pairs)) new ∙ ap (λ lists. change list ∷ lists) same.1;
            },
          )
