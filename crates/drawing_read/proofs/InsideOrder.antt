-- The spots of one list, and of the list under a key, are in document order behind the path that leads to the list.
use Rattle.std.proofs.Common.{◌≡◌, ℕ, ◌<◌, ◌≤◌, arith, Bool, true, false, cond, List, [], ◌∷◌, ◌++◌, get_or, Option, None, Some, refl, sym, ap, ◌∙◌, nat_lt, Contains}
use Rattle.std.specs.Prelude.{codes}
use Rattle.std.specs.Str.{bytes_eq}
use Rattle.std.specs.Option.{option_map_or}
use Rattle.std.proofs.lemmas.Bool.Decides.{nat_tests}
use Rattle.std.proofs.lemmas.List.Elements.{All-nil, All-cons}
use Rattle.std.proofs.lemmas.List.Quantifiers.{position-Some}
use Rattle.std.proofs.lemmas.Slice.Eq.{bytes_eq-Decides}
use Rattle.compact_types.specs.declared.places.Axis.TheVariants.{X, Y}
use Rattle.gml_text.specs.declared.tree.Pair.{Pair}
use Rattle.drawing_read.specs.declared.reading.Spot.{Spot}
use Rattle.drawing_read.specs.Lookups.{has_key, list_in, list_under, first_list, place_under}
use Rattle.drawing_read.specs.Spots.{spot as spot_at, in_order, coordinate_spots, inside}
use Rattle.drawing_read.specs.Coordinates.{IsPathBefore, AreInDocumentOrder}
use Rattle.drawing_read.proofs.CoordinateSpots.{none_there, one_of_both, list_of_inside}
use Rattle.drawing_read.proofs.PathOrder.{IsBehind, behind_less, before_behind}

-- the spots of each list are in order, and their paths go on from the path that leads to the list
pub record AreOrderly (spots : List ℕ → List Pair → List Spot) : Type 0 where
  pub behind : (path : List ℕ) (list : List Pair) (s : Spot) → Contains (spots path list) s → IsBehind path s
  pub in_order : (path : List ℕ) (list : List Pair) → AreInDocumentOrder (spots path list)

-- a pair has one key
pub one_key : (key other : List ℕ) (pair : Pair) → bytes_eq key other ≡ false → has_key key pair ≡ true → has_key other pair ≡ true → ⊥
one_key key other pair differ first second =
    let same : pair.key ≡ key = (bytes_eq-Decides pair.key key).0 first in
    let both : true ≡ false = sym second ∙ ap (λ (word : List ℕ). bytes_eq word other) same ∙ differ in
    cc

-- the x and the y of a list stand at different places
places_differ : (pairs : List Pair) (i j : ℕ) → place_under (codes "x") pairs ≡ Some i → place_under (codes "y") pairs ≡ Some j → i ≡ j → ⊥
places_differ [] i j first second same = cc
places_differ (pair ∷ pairs) i j first second same =
    let x = position-Some (has_key (codes "x")) (pair ∷ pairs) i pair first in
    let y = position-Some (has_key (codes "y")) (pair ∷ pairs) j pair second in
    one_key (codes "x") (codes "y") (get_or (pair ∷ pairs) i pair) refl x.1 (ap (λ (k : ℕ). has_key (codes "y") (get_or (pair ∷ pairs) k pair)) same ∙ y.1)

-- two spots are in order where the first comes before the second
two_in_order : (s t : Spot) → IsPathBefore s.path t.path → AreInDocumentOrder (s ∷ t ∷ [])
two_in_order s t before = (
  All-cons (λ later. IsPathBefore s.path later.path) t [] before (All-nil (λ later. IsPathBefore s.path later.path)),
  (All-nil (λ later. IsPathBefore t.path later.path), tt),
)

-- the spots of an x and a y are in order, where these stand at different places
by_places : (path : List ℕ) (v : ℕ) (o p : Option ℕ) → ((i j : ℕ) → o ≡ Some i → p ≡ Some j → i ≡ j → ⊥) → AreInDocumentOrder (in_order path v o p)
by_places path v None p differ = tt
by_places path v (Some x) None differ = tt
by_places path v (Some x) (Some y) differ = by_test (nat_lt x y) refl
  where
    by_test : (b : Bool) → nat_lt x y ≡ b → AreInDocumentOrder (cond b (spot_at path v X x ∷ spot_at path v Y y ∷ []) (spot_at path v Y y ∷ spot_at path v X x ∷ []))
    by_test true test = let less : x < y = grind (arith, nat_tests) in two_in_order (spot_at path v X x) (spot_at path v Y y) (before_behind path x y [] [] less)
    by_test false test =
        let not_less : y ≤ x = grind (arith, nat_tests) in
        let apart : x ≡ y → ⊥ = differ x y refl refl in
        let less : y < x = omega arith in
        two_in_order (spot_at path v Y y) (spot_at path v X x) (before_behind path y x [] [] less)

-- the spots of the x and the y of a list are in order behind the path to it
pub coordinates_orderly : (v : ℕ) → AreOrderly (λ path list. coordinate_spots path v list)
coordinates_orderly v = record {
  behind = λ path list s there. (_, sym (ap (λ (s : Spot). s.path) (one_of_both path v list s there).is));
  in_order = λ path list. by_places path v (place_under (codes "x") list) (place_under (codes "y") list) (places_differ list);
}

module _ (spots : List ℕ → List Pair → List Spot) (orderly : AreOrderly spots) where
  -- the spots of a list that might be there are behind the path to it
  pub maybe_behind : (path : List ℕ) (o : Option (List Pair)) (s : Spot) → Contains (option_map_or (λ list. spots path list) o []) s → IsBehind path s
  maybe_behind path None s there = absurd (none_there s there)
  maybe_behind path (Some list) s there = orderly.behind path list s there

  -- they are in order
  pub maybe_in_order : (path : List ℕ) (o : Option (List Pair)) → AreInDocumentOrder (option_map_or (λ list. spots path list) o [])
  maybe_in_order path None = tt
  maybe_in_order path (Some list) = orderly.in_order path list

  -- the spots of a list at a place, where both might be there, are in order
  by_place : (path : List ℕ) (o : Option ℕ) (p : Option (List Pair)) →
      AreInDocumentOrder (option_map_or (λ at. option_map_or (λ list. spots (path ++ at ∷ []) list) p []) o [])
  by_place path None p = tt
  by_place path (Some at) p = maybe_in_order (path ++ at ∷ []) p

  -- the spots inside the list under a key are behind the path to the pairs
  inside_behind : (key path : List ℕ) (pairs : List Pair) (s : Spot) → Contains (inside key path pairs spots) s → IsBehind path s
  inside_behind key path pairs s there =
      let within = list_of_inside spots key path pairs s there in
      behind_less path within.place s (orderly.behind (path ++ within.place ∷ []) within.list s within.there)

  -- what holds of the spots of each list holds of those inside the list under a key
  pub inside_orderly : (key : List ℕ) → AreOrderly (λ path list. inside key path list spots)
  inside_orderly key = record {
    behind = inside_behind key;
    in_order = λ path pairs. by_place path (place_under key pairs) (first_list key pairs);
  }

-- where a list under a key has a spot, the pair has this key
pub key_of_spot : (spots : List Pair → List Spot) (key : List ℕ) (pair : Pair) (s : Spot) →
    Contains (option_map_or (λ list. spots list) (list_under key pair) []) s → has_key key pair ≡ true
key_of_spot spots key pair s there = by_test (has_key key pair) there
  where
    by_test : (b : Bool) → Contains (option_map_or (λ list. spots list) (cond b (list_in pair.value) None) []) s → b ≡ true
    by_test true there = refl
    by_test false there = absurd (none_there s there)
