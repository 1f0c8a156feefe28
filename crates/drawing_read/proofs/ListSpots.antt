-- The spots of the nodes and edges of a graph, by the number of each.
use Rattle.std.proofs.Common.{◌≡◌, ℕ, zero, suc, ◌+◌, arith, List, [], ◌∷◌, ◌++◌, length, take, slice_get, Option, None, Some, inl, inr, ◌⊎◌, refl, sym, subst, option_and_then, slice_index_or, Contains}
use Rattle.std.specs.Prelude.{codes}
use Rattle.std.specs.List.{cons_option}
use Rattle.std.specs.Option.{option_map_or}
use Rattle.std.proofs.lemmas.List.Elements.{Contains-append_left, Contains-append_right, Contains-append_cases}
use Rattle.gml_text.specs.declared.tree.Pair.{Pair}
use Rattle.drawing_read.specs.declared.reading.Spot.{Spot}
use Rattle.drawing_read.specs.declared.spans.EdgeSpan.{EdgeSpan}
use Rattle.drawing_read.specs.Lookups.{list_under, lists_under}
use Rattle.drawing_read.specs.Spots.{node_spots, edge_spots, pair_spots, counted, graph_spots}
use Rattle.drawing_read.specs.Spans.{no_span}
use Rattle.drawing_read.specs.Coordinates.{IsListNumber}
use Rattle.drawing_read.proofs.CoordinateSpots.{none_there}

-- a spot is one of a list under a key, where the first pair has place `at` and the first such list number n
pub record IsOfList (key : List ℕ) (spots : List ℕ → ℕ → List Pair → List Spot) (path : List ℕ) (at n : ℕ) (pairs : List Pair) (spot : Spot) : Type 0 where
  pub from : ℕ
  pub number : ℕ
  pub place : ℕ
  pub index : ℕ
  pub list : List Pair
  pub place_is : place ≡ at + from
  pub index_is : index ≡ n + number
  pub is : IsListNumber key pairs from number list
  pub there : Contains (spots (path ++ place ∷ []) index list) spot

-- the spots of the first pair, if it is a list with number n
abbrev first_spots : (List ℕ → ℕ → List Pair → List Spot) → List ℕ → ℕ → Option (List Pair) → List Spot
first_spots spots path n list = option_map_or (λ list. spots path n list) list []

module _ (key : List ℕ) (spots : List ℕ → ℕ → List Pair → List Spot) where
  -- an empty list has no list under a key
  no_list : (path : List ℕ) (at n : ℕ) (s : Spot) → IsOfList key spots path at n [] s → ⊥
  no_list path at n s of = let none : None ≡ Some of.list = of.is.there in cc

  -- a spot of the first pair, if it is a list
  of_first : (path : List ℕ) (at n : ℕ) (pair : Pair) (pairs : List Pair) (s : Spot) →
      Contains (first_spots spots (path ++ at ∷ []) n (list_under key pair)) s → IsOfList key spots path at n (pair ∷ pairs) s
  of_first path at n pair pairs s there = by_list (list_under key pair) refl there
    where
      by_list : (o : Option (List Pair)) → list_under key pair ≡ o → Contains (first_spots spots (path ++ at ∷ []) n o) s → IsOfList key spots path at n (pair ∷ pairs) s
      by_list None is there = absurd (none_there s there)
      by_list (Some list) is there = record {
        from = 0;
        number = 0;
        place = at;
        index = n;
        list = list;
        place_is = omega arith;
        index_is = omega arith;
        is = record { there = is; before = refl };
        there = there;
      }

  -- a spot of a list behind the first pair
  of_later : (path : List ℕ) (at n : ℕ) (pair : Pair) (pairs : List Pair) (s : Spot) →
      IsOfList key spots path (at + 1) (counted n (list_under key pair)) pairs s → IsOfList key spots path at n (pair ∷ pairs) s
  of_later path at n pair pairs s of = record {
    from = suc of.from;
    number = length (lists_under key (take (suc of.from) (pair ∷ pairs)));
    place = of.place;
    index = of.index;
    list = of.list;
    place_is = omega (arith, of.place_is);
    index_is = by_list (list_under key pair) of.index_is of.is.before;
    is = record { there = of.is.there; before = refl };
    there = of.there;
  }
    where
      by_list : (o : Option (List Pair)) → of.index ≡ counted n o + of.number → length (lists_under key (take of.from pairs)) ≡ of.number →
          of.index ≡ n + length (cons_option o (lists_under key (take of.from pairs)))
      by_list None index before = omega arith
      by_list (Some list) index before = omega arith

  -- a spot of a list is one of the first pair, or of the others
  first_or_later : (path : List ℕ) (at n : ℕ) (pair : Pair) (pairs : List Pair) (s : Spot) → IsOfList key spots path at n (pair ∷ pairs) s →
      Contains (first_spots spots (path ++ at ∷ []) n (list_under key pair)) s ⊎ IsOfList key spots path (at + 1) (counted n (list_under key pair)) pairs s
  first_or_later path at n pair pairs s of = by_place of.from of.place_is of.is.there of.is.before
    where
      by_list : (o : Option (List Pair)) (from : ℕ) → length (cons_option o (lists_under key (take from pairs))) ≡ of.number →
          of.index ≡ counted n o + length (lists_under key (take from pairs))
      by_list None from before = omega (arith, of.index_is)
      by_list (Some list) from before = omega (arith, of.index_is)

      by_place : (from : ℕ) → of.place ≡ at + from → option_and_then (list_under key) (slice_get (pair ∷ pairs) from) ≡ Some of.list →
          length (lists_under key (take from (pair ∷ pairs))) ≡ of.number →
          Contains (first_spots spots (path ++ at ∷ []) n (list_under key pair)) s ⊎ IsOfList key spots path (at + 1) (counted n (list_under key pair)) pairs s
      by_place zero place is before =
          let place_same : of.place ≡ at = omega arith in
          let none : 0 ≡ of.number = before in
          let index_same : of.index ≡ n = omega (arith, of.index_is) in
          let first : Contains (first_spots spots (path ++ at ∷ []) n (Some of.list)) s =
          subst (λ (a : ℕ). Contains (spots (path ++ a ∷ []) n of.list) s) place_same
          (subst (λ (i : ℕ). Contains (spots (path ++ of.place ∷ []) i of.list) s) index_same of.there) in
          inl (subst (λ (o : Option (List Pair)). Contains (first_spots spots (path ++ at ∷ []) n o) s) (sym is) first)
      by_place (suc from) place is before =
          inr
          (record {
            from = from;
            number = length (lists_under key (take from pairs));
            place = of.place;
            index = of.index;
            list = of.list;
            place_is = omega arith;
            index_is = by_list (list_under key pair) from before;
            is = record { there = is; before = refl };
            there = of.there;
          })

-- the spots of an edge by its number
abbrev pub numbered_edge_spots : List EdgeSpan → List ℕ → ℕ → List Pair → List Spot
numbered_edge_spots spans path e list = edge_spots path (slice_index_or spans e no_span) list

-- a spot is one of a node, or of an edge, where the first pair has place `at`, the first node number n and the first edge number e
abbrev pub IsOfNode : List ℕ → ℕ → ℕ → List Pair → Spot → Type 0
IsOfNode path at n pairs spot = IsOfList (codes "node") node_spots path at n pairs spot

abbrev pub IsOfEdge : List EdgeSpan → List ℕ → ℕ → ℕ → List Pair → Spot → Type 0
IsOfEdge spans path at e pairs spot = IsOfList (codes "edge") (numbered_edge_spots spans) path at e pairs spot

abbrev pub IsOfEither : List ℕ → List EdgeSpan → ℕ → ℕ → ℕ → List Pair → Spot → Type 0
IsOfEither path spans at n e pairs spot = IsOfNode path at n pairs spot ⊎ IsOfEdge spans path at e pairs spot

-- how many nodes, and how many edges, there are with a pair more
abbrev nodes_with : ℕ → Pair → ℕ
nodes_with n pair = counted n (list_under (codes "node") pair)

abbrev edges_with : ℕ → Pair → ℕ
edges_with e pair = counted e (list_under (codes "edge") pair)

-- what is in one of two lists is in both together
in_both : (xs ys : List Spot) (s : Spot) → Contains xs s ⊎ Contains ys s → Contains (xs ++ ys) s
in_both xs ys s (inl there) = Contains-append_left xs ys s there
in_both xs ys s (inr there) = Contains-append_right xs ys s there

-- of two the second, by what leads on from it
second_by : {A B C : Type 0} → (B → C) → A ⊎ B → A ⊎ C
second_by f (inl a) = inl a
second_by f (inr b) = inr (f b)

module _ (path : List ℕ) (spans : List EdgeSpan) (at n e : ℕ) (pair : Pair) (pairs : List Pair) (s : Spot) where
  -- the spots of the first pair, if it is a node, and if it is an edge
  node_part : List Spot
  node_part = first_spots node_spots (path ++ at ∷ []) n (list_under (codes "node") pair)

  edge_part : List Spot
  edge_part = first_spots (numbered_edge_spots spans) (path ++ at ∷ []) e (list_under (codes "edge") pair)

  -- a spot of the first pair or of a later one
  of_pair_or_later : Contains (pair_spots (path ++ at ∷ []) spans n e pair) s ⊎ IsOfEither path spans (at + 1) (nodes_with n pair) (edges_with e pair) pairs s →
      IsOfEither path spans at n e (pair ∷ pairs) s
  unfolding node_part edge_part
  of_pair_or_later (inl there) = by_part (Contains-append_cases node_part edge_part s there)
    where
      by_part : Contains node_part s ⊎ Contains edge_part s → IsOfEither path spans at n e (pair ∷ pairs) s
      by_part (inl there) = inl (of_first (codes "node") node_spots path at n pair pairs s there)
      by_part (inr there) = inr (of_first (codes "edge") (numbered_edge_spots spans) path at e pair pairs s there)
  of_pair_or_later (inr (inl of)) = inl (of_later (codes "node") node_spots path at n pair pairs s of)
  of_pair_or_later (inr (inr of)) = inr (of_later (codes "edge") (numbered_edge_spots spans) path at e pair pairs s of)

  -- the same from the other side
  pair_or_later : IsOfEither path spans at n e (pair ∷ pairs) s →
      Contains (pair_spots (path ++ at ∷ []) spans n e pair) s ⊎ IsOfEither path spans (at + 1) (nodes_with n pair) (edges_with e pair) pairs s
  unfolding node_part edge_part
  pair_or_later (inl of) = by_part (first_or_later (codes "node") node_spots path at n pair pairs s of)
    where
      by_part : Contains node_part s ⊎ IsOfNode path (at + 1) (nodes_with n pair) pairs s →
          Contains (node_part ++ edge_part) s ⊎ IsOfEither path spans (at + 1) (nodes_with n pair) (edges_with e pair) pairs s
      by_part (inl there) = inl (Contains-append_left node_part edge_part s there)
      by_part (inr later) = inr (inl later)
  pair_or_later (inr of) = by_part (first_or_later (codes "edge") (numbered_edge_spots spans) path at e pair pairs s of)
    where
      by_part : Contains edge_part s ⊎ IsOfEdge spans path (at + 1) (edges_with e pair) pairs s →
          Contains (node_part ++ edge_part) s ⊎ IsOfEither path spans (at + 1) (nodes_with n pair) (edges_with e pair) pairs s
      by_part (inl there) = inl (Contains-append_right node_part edge_part s there)
      by_part (inr later) = inr (inr later)

-- each spot of a graph is one of a node or of an edge
pub list_of_spot : (path : List ℕ) (spans : List EdgeSpan) (at n e : ℕ) (pairs : List Pair) (s : Spot) → Contains (graph_spots path spans at n e pairs) s →
    IsOfEither path spans at n e pairs s
list_of_spot path spans at n e [] s there = absurd (none_there s there)
list_of_spot path spans at n e (pair ∷ pairs) s there =
    of_pair_or_later path spans at n e pair pairs s
    (second_by (list_of_spot path spans (at + 1) (nodes_with n pair) (edges_with e pair) pairs s)
    (Contains-append_cases (pair_spots (path ++ at ∷ []) spans n e pair) (graph_spots path spans (at + 1) (nodes_with n pair) (edges_with e pair) pairs) s there))

-- each spot of a node or of an edge is one of the graph
pub spot_of_list : (path : List ℕ) (spans : List EdgeSpan) (at n e : ℕ) (pairs : List Pair) (s : Spot) → IsOfEither path spans at n e pairs s →
    Contains (graph_spots path spans at n e pairs) s
spot_of_list path spans at n e [] s (inl of) = absurd (no_list (codes "node") node_spots path at n s of)
spot_of_list path spans at n e [] s (inr of) = absurd (no_list (codes "edge") (numbered_edge_spots spans) path at e s of)
spot_of_list path spans at n e (pair ∷ pairs) s of =
    in_both (pair_spots (path ++ at ∷ []) spans n e pair) (graph_spots path spans (at + 1) (nodes_with n pair) (edges_with e pair) pairs) s
    (second_by (spot_of_list path spans (at + 1) (nodes_with n pair) (edges_with e pair) pairs s) (pair_or_later path spans at n e pair pairs s of))
