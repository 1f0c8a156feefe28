-- The graphs at the top, by the place of the first.
use Rattle.std.proofs.Common.{◌≡◌, ℕ, zero, suc, ◌<◌, ◌≤◌, Bool, true, false, List, [], ◌∷◌, length, drop, get_or, Option, None, Some, is_some, refl, sym, ap, ◌∙◌, arith, drop-cons}
use Rattle.std.specs.Prelude.{codes, MatchOption}
use Rattle.std.specs.List.{filter_map, cons_option, position, position_or_len}
use Rattle.std.proofs.lemmas.List.Sums.{fails_before_first}
use Rattle.std.proofs.lemmas.List.Quantifiers.{position-Some}
use Rattle.gml_text.specs.declared.tree.Pair.{Pair}
use Rattle.drawing_read.specs.Lookups.{list_under, lists_under}
use Rattle.drawing_read.specs.inner.Legible.{AreLegible}
use Rattle.drawing_read.specs.inner.Passes.{IsFirstGraph, IsOnlyGraph}
use Rattle.drawing_read.specs.declared.fault.DrawFault.TheVariants.{TwoGraphs}
use Rattle.drawing_read.specs.declared.lookups.FoundList.{FoundList}
use Rattle.drawing_read.specs.Faults.{fault_of}
use Rattle.drawing_read.proofs.LookupLemmas.{past_end}

module _ {X Y : Type 0} (h : X → Option Y) where
  abbrev is_kept : X → Bool
  is_kept x = is_some (h x)

  left_out : (o : Option Y) (ys : List Y) → is_some o ≡ false → cons_option o ys ≡ ys
  left_out None ys none = refl
  left_out (Some y) ys none = absurd (cc)

  -- the first items, of which none is kept
  none_before : (xs : List X) (d : X) (i : ℕ) → i ≤ length xs → ((k : ℕ) → k < i → is_kept (get_or xs k d) ≡ false) → filter_map h xs ≡ filter_map h (drop i xs)
  none_before xs d zero within none = refl
  none_before [] d (suc i) within none = absurd (omega arith)
  none_before (x ∷ xs) d (suc i) within none =
      left_out (h x) (filter_map h xs) (none 0 (omega arith)) ∙ none_before xs d i (omega arith) (λ k below. none (suc k) (omega arith))

  drop_all : (xs : List X) (i : ℕ) → length xs ≤ i → filter_map h (drop i xs) ≡ []
  drop_all [] zero within = refl
  drop_all [] (suc i) within = refl
  drop_all (x ∷ xs) zero within = absurd (omega arith)
  drop_all (x ∷ xs) (suc i) within = drop_all xs i (omega arith)

  -- nothing is kept, where no item passes
  pub none_kept : (xs : List X) → position is_kept xs ≡ None → filter_map h xs ≡ []
  none_kept [] none = refl
  none_kept (x ∷ xs) none =
      let long = past_end (position_or_len is_kept (x ∷ xs)) (length (x ∷ xs)) none in
      none_before (x ∷ xs) x (length (x ∷ xs)) (omega arith) (λ k below. fails_before_first is_kept (x ∷ xs) k x (omega arith))
      ∙ drop_all (x ∷ xs) (length (x ∷ xs)) (omega arith)

  -- the first that is kept, and what is kept behind it
  pub first_kept : (xs : List X) (i : ℕ) (d : X) → position is_kept xs ≡ Some i → filter_map h xs ≡ cons_option (h (get_or xs i d)) (filter_map h (drop (suc i) xs))
  first_kept xs i d is =
      let found = position-Some is_kept xs i d is in
      none_before xs d i (omega arith) found.2 ∙ ap (filter_map h) (drop-cons xs i d found.0)

abbrev pub graph_under : Pair → Option (List Pair)
graph_under = list_under (codes "graph")

abbrev pub is_graph : Pair → Bool
is_graph pair = is_some (graph_under pair)

-- no pair is a graph
pub no_graph : (pairs : List Pair) → position is_graph pairs ≡ None → lists_under (codes "graph") pairs ≡ []
no_graph pairs none = none_kept graph_under pairs none

-- the first pair that is a graph has a list
pub graph_there : (pairs : List Pair) (at : ℕ) (pair : Pair) → position is_graph pairs ≡ Some at → pair ≡ get_or pairs at pair → is_graph pair ≡ true
graph_there pairs at pair first is = ap is_graph is ∙ (position-Some is_graph pairs at pair first).1

pub first_graph_is : (pairs : List Pair) (at : ℕ) (pair : Pair) (list : List Pair) → position is_graph pairs ≡ Some at → pair ≡ get_or pairs at pair →
    Some list ≡ graph_under pair → (AreLegible pairs → AreLegible list) → IsFirstGraph pairs at list
first_graph_is pairs at pair list first is there legible = record {
  within = (position-Some is_graph pairs at pair first).0;
  place = first;
  lists = first_kept graph_under pairs at pair first
      ∙ ap (λ (pair : Pair). cons_option (graph_under pair) (lists_under (codes "graph") (drop (suc at) pairs))) (sym is)
      ∙ ap (λ (o : Option (List Pair)). cons_option o (lists_under (codes "graph") (drop (suc at) pairs))) (sym there);
  legible = legible;
}

-- a graph has a list
pub list_there : (pair : Pair) → is_graph pair ≡ true → None ≡ graph_under pair → ⊥
list_there pair some none = by (graph_under pair) some none
  where
    by : (o : Option (List Pair)) → is_some o ≡ true → None ≡ o → ⊥
    by None some none = absurd (cc)
    by (Some list) some none = absurd (cc)

-- what was found behind the first graph
pub two_graphs : (pairs : List Pair) (at : ℕ) (list rest : List Pair) (found : Option FoundList) → IsFirstGraph pairs at list → rest ≡ drop (suc at) pairs →
    MatchOption found (lists_under (codes "graph") rest ≡ []) (λ graph. IsFirstGraph rest graph.place graph.pairs.now) →
    is_some found ≡ true → fault_of (lists_under (codes "graph") pairs) ≡ Some TwoGraphs
two_graphs pairs at list rest None first is next some = absurd (cc)
two_graphs pairs at list rest (Some graph) first is next some =
    ap fault_of (first.lists ∙ ap (λ (rest : List Pair). list ∷ lists_under (codes "graph") rest) (sym is) ∙ ap (λ (lists : List (List Pair)). list ∷ lists) next.lists)

pub one_graph : (pairs : List Pair) (at : ℕ) (list rest : List Pair) (found : Option FoundList) → IsFirstGraph pairs at list → rest ≡ drop (suc at) pairs →
    MatchOption found (lists_under (codes "graph") rest ≡ []) (λ graph. IsFirstGraph rest graph.place graph.pairs.now) →
    is_some found ≡ false → IsOnlyGraph pairs at list
one_graph pairs at list rest (Some graph) first is next none = absurd (cc)
one_graph pairs at list rest None first is next none = record {
  within = first.within;
  place = first.place;
  only = first.lists ∙ ap (λ (rest : List Pair). list ∷ lists_under (codes "graph") rest) (sym is) ∙ ap (λ (lists : List (List Pair)). list ∷ lists) next;
  legible = first.legible;
}
