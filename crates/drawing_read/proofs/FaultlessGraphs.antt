-- What a graph without a fault is, kind by kind.
use Rattle.std.proofs.Common.{◌≡◌, ℕ, zero, suc, ◌<◌, ◌≤◌, Bool, true, false, cond, List, [], ◌∷◌, length, Option, None, Some, refl, ap, arith, ltb, slice_index_or}
use Rattle.std.specs.Prelude.{is_none}
use Rattle.std.specs.List.{position}
use Rattle.std.specs.Option.{option_map}
use Rattle.std.proofs.lemmas.Bool.Decides.{nat_tests}
use Rattle.compact_types.specs.declared.limits.TheConstants.{MOST_VERTICES}
use Rattle.drawing_read.specs.declared.fault.DrawFault.{DrawFault}
use Rattle.drawing_read.specs.declared.fault.DrawFault.TheVariants as kinds
use Rattle.drawing_read.specs.declared.limits.TheConstants.{MOST_PIECES_READ}
use Rattle.drawing_read.specs.declared.written.Graph.{Graph}
use Rattle.drawing_read.specs.Ids.{ids_of, number_of_id, first_repeated}
use Rattle.drawing_read.specs.Spans.{points_in, pieces_in}
use Rattle.drawing_read.specs.Faults.{is_absent, is_unfit, numbers_in_graph, first_refused, lacks_end, has_unknown_end, bad_point_from, too_many, faults_in, first_that_is, graph_fault}

-- no fault of any kind
pub record HasNoFault (graph : Graph) : Type 0 where
  pub some_node : 0 < length graph.nodes
  pub ids : position (λ node. is_absent node.id) graph.nodes ≡ None
  pub fit_ids : position (λ node. is_unfit node.id) graph.nodes ≡ None
  pub different_ids : first_repeated (ids_of graph.nodes) ≡ None
  pub places : position (λ node. is_none node.place) graph.nodes ≡ None
  pub numbers : first_refused (numbers_in_graph graph) ≡ None
  pub ends : position lacks_end graph.edges ≡ None
  pub known_ends : position (has_unknown_end (number_of_id (ids_of graph.nodes))) graph.edges ≡ None
  pub points : bad_point_from 0 graph.edges ≡ None
  pub few_vertices : length (points_in graph) ≤ MOST_VERTICES
  pub few_pieces : length (pieces_in graph) ≤ MOST_PIECES_READ

-- where no fault is the first, none is there
each_none : (faults : List (Option DrawFault)) → first_that_is faults ≡ None → (k : ℕ) → slice_index_or faults k None ≡ None
each_none [] none k = refl
each_none (None ∷ faults) none zero = refl
each_none (None ∷ faults) none (suc k) = each_none faults none k
each_none (Some fault ∷ faults) none k = absurd (cc)

-- and the other way round
abbrev AreNone : List (Option DrawFault) → Type 0
AreNone [] = Unit {0}
AreNone (fault ∷ faults) = (fault ≡ None) × AreNone faults

none_there : (faults : List (Option DrawFault)) → AreNone faults → first_that_is faults ≡ None
none_there [] none = refl
none_there (None ∷ faults) none = none_there faults none.1
none_there (Some fault ∷ faults) none = absurd (cc)

pub none_mapped : {X Y : Type 0} (f : X → Y) (o : Option X) → option_map f o ≡ None → o ≡ None
none_mapped f None none = refl
none_mapped f (Some x) none = absurd (cc)

some_node : (n : ℕ) → cond (ltb 0 n) None (Some kinds.Empty) ≡ None → 0 < n
some_node n none = by (ltb 0 n) refl none
  where
    by : (b : Bool) → ltb 0 n ≡ b → cond b None (Some kinds.Empty) ≡ None → 0 < n
    by true test none = grind (arith, nat_tests)
    by false test none = absurd (cc)

no_empty : (n : ℕ) → 0 < n → cond (ltb 0 n) None (Some kinds.Empty) ≡ None
no_empty n some = by (ltb 0 n) refl
  where
    by : (b : Bool) → ltb 0 n ≡ b → cond b None (Some kinds.Empty) ≡ None
    by true test = refl
    by false test = let none : n ≤ 0 = grind (arith, nat_tests) in absurd (omega arith)

at_most : (most count : ℕ) → too_many most count ≡ None → count ≤ most
at_most most count none = by (ltb most count) refl none
  where
    by : (b : Bool) → ltb most count ≡ b → cond b (Some count) None ≡ None → count ≤ most
    by true test none = absurd (cc)
    by false test none = grind (arith, nat_tests)

not_more : (most count : ℕ) → count ≤ most → too_many most count ≡ None
not_more most count few = by (ltb most count) refl
  where
    by : (b : Bool) → ltb most count ≡ b → cond b (Some count) None ≡ None
    by true test = let more : most < count = grind (arith, nat_tests) in absurd (omega arith)
    by false test = refl

module _ (graph : Graph) where
  pub has_no_fault : graph_fault graph ≡ None → HasNoFault graph
  has_no_fault none =
      let each = each_none (faults_in graph) none in
      record {
        some_node = some_node (length graph.nodes) (each 0);
        ids = none_mapped (λ n. kinds.NoId n) (position (λ node. is_absent node.id) graph.nodes) (each 1);
        fit_ids = none_mapped (λ n. kinds.BadId n) (position (λ node. is_unfit node.id) graph.nodes) (each 2);
        different_ids = none_mapped (λ n. kinds.RepeatedId n) (first_repeated (ids_of graph.nodes)) (each 3);
        places = none_mapped (λ n. kinds.NoPlace n) (position (λ node. is_none node.place) graph.nodes) (each 4);
        numbers = none_mapped (λ number. kinds.BadNumber number.at number.cause) (first_refused (numbers_in_graph graph)) (each 5);
        ends = none_mapped (λ e. kinds.NoEnd e) (position lacks_end graph.edges) (each 6);
        known_ends = none_mapped (λ e. kinds.UnknownEnd e) (position (has_unknown_end (number_of_id (ids_of graph.nodes))) graph.edges) (each 7);
        points = each 8;
        few_vertices = at_most MOST_VERTICES (length (points_in graph)) (none_mapped (λ c. kinds.TooManyVertices c) (too_many MOST_VERTICES (length (points_in graph))) (each 9));
        few_pieces = at_most MOST_PIECES_READ (length (pieces_in graph)) (none_mapped (λ c. kinds.TooManyPieces c) (too_many MOST_PIECES_READ (length (pieces_in graph))) (each 10));
      }

  -- and the other way round
  pub is_faultless : HasNoFault graph → graph_fault graph ≡ None
  is_faultless has =
      none_there (faults_in graph)
      (no_empty (length graph.nodes) has.some_node, (ap (option_map (λ n. kinds.NoId n)) has.ids, (ap (option_map (λ n. kinds.BadId n)) has.fit_ids, (ap (option_map (λ n. kinds.RepeatedId n)) has.different_ids, (ap (option_map (λ n. kinds.NoPlace n)) has.places, (ap (option_map (λ number. kinds.BadNumber number.at number.cause)) has.numbers, (ap (option_map (λ e. kinds.NoEnd e)) has.ends, (ap (option_map (λ e. kinds.UnknownEnd e)) has.known_ends, (has.points, (ap (option_map (λ c. kinds.TooManyVertices c)) (not_more MOST_VERTICES (length (points_in graph)) has.few_vertices), (ap (option_map (λ c. kinds.TooManyPieces c)) (not_more MOST_PIECES_READ (length (pieces_in graph)) has.few_pieces), tt)))))))))))
