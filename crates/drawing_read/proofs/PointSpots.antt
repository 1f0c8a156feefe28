-- The spots of the points of a line, by the number of each point.
use Rattle.std.proofs.Common.{◌≡◌, ℕ, zero, suc, ◌+◌, arith, Bool, true, false, cond, List, [], ◌∷◌, ◌++◌, length, take, Option, None, Some, inl, inr, ◌⊎◌, refl, sym, ap, ◌∙◌, subst, Contains, filter}
use Rattle.std.specs.Prelude.{codes}
use Rattle.std.specs.Option.{option_map_or}
use Rattle.std.proofs.lemmas.List.Elements.{Contains-append_left, Contains-append_right, Contains-append_cases}
use Rattle.gml_text.specs.declared.tree.Pair.{Pair}
use Rattle.drawing_read.specs.declared.reading.Spot.{Spot}
use Rattle.drawing_read.specs.declared.spans.EdgeSpan.{EdgeSpan}
use Rattle.drawing_read.specs.Lookups.{has_key, list_in, list_under}
use Rattle.drawing_read.specs.Spots.{coordinate_spots, point_spots}
use Rattle.drawing_read.specs.Spans.{point_vertex}
use Rattle.drawing_read.specs.Coordinates.{IsPointNumber}
use Rattle.drawing_read.proofs.CoordinateSpots.{none_there}

-- the pair is a point
abbrev is_point : Pair → Bool
is_point = has_key (codes "point")

-- a pair with the key and a list is a point
point_of_list : (pair : Pair) (point : List Pair) → is_point pair ≡ true → list_in pair.value ≡ Some point → list_under (codes "point") pair ≡ Some point
point_of_list pair point passes is = ap (λ (b : Bool). cond b (list_in pair.value) None) passes ∙ is

-- a point is a pair with the key and a list
list_of_point : (pair : Pair) (point : List Pair) → list_under (codes "point") pair ≡ Some point → (is_point pair ≡ true) × (list_in pair.value ≡ Some point)
list_of_point pair point there = by_test (is_point pair) refl there
  where
    by_test : (b : Bool) → is_point pair ≡ b → cond b (list_in pair.value) None ≡ Some point → (is_point pair ≡ true) × (list_in pair.value ≡ Some point)
    by_test true passes is = (passes, is)
    by_test false fails is = absurd (cc)

-- the first pair of a line is its first point
point_here : (pair : Pair) (pairs point : List Pair) → is_point pair ≡ true → list_in pair.value ≡ Some point → IsPointNumber (pair ∷ pairs) 0 0 point
point_here pair pairs point passes is = record { there = point_of_list pair point passes is; before = refl }

-- behind one more point the number of a point is greater by one
point_behind_point : (pair : Pair) (pairs point : List Pair) (q k : ℕ) → is_point pair ≡ true → IsPointNumber pairs q k point →
    IsPointNumber (pair ∷ pairs) (suc q) (suc k) point
point_behind_point pair pairs point q k passes number = record {
  there = number.there;
  before = ap (λ (b : Bool). length (cond b (pair ∷ filter is_point (take q pairs)) (filter is_point (take q pairs)))) passes ∙ ap suc number.before;
}

-- behind another pair it is the same
point_behind_other : (pair : Pair) (pairs point : List Pair) (q k : ℕ) → is_point pair ≡ false → IsPointNumber pairs q k point →
    IsPointNumber (pair ∷ pairs) (suc q) k point
point_behind_other pair pairs point q k fails number = record {
  there = number.there;
  before = ap (λ (b : Bool). length (cond b (pair ∷ filter is_point (take q pairs)) (filter is_point (take q pairs)))) fails ∙ number.before;
}

-- a spot is one of a point of a line, whose first pair has place `at` and whose first point has number p
pub record IsOfPoint (path : List ℕ) (span : EdgeSpan) (at p : ℕ) (pairs : List Pair) (spot : Spot) : Type 0 where
  pub from : ℕ
  pub number : ℕ
  pub place : ℕ
  pub index : ℕ
  pub point : List Pair
  pub place_is : place ≡ at + from
  pub index_is : index ≡ p + number
  pub is : IsPointNumber pairs from number point
  pub there : Contains (coordinate_spots (path ++ place ∷ []) (point_vertex span index) point) spot

-- a spot of a point behind one more point
behind_point : (path : List ℕ) (span : EdgeSpan) (at p : ℕ) (pair : Pair) (pairs : List Pair) (s : Spot) → is_point pair ≡ true →
    IsOfPoint path span (at + 1) (p + 1) pairs s → IsOfPoint path span at p (pair ∷ pairs) s
behind_point path span at p pair pairs s passes of = record {
  from = suc of.from;
  number = suc of.number;
  place = of.place;
  index = of.index;
  point = of.point;
  place_is = omega (arith, of.place_is);
  index_is = omega (arith, of.index_is);
  is = point_behind_point pair pairs of.point of.from of.number passes of.is;
  there = of.there;
}

-- a spot of a point behind another pair
behind_other : (path : List ℕ) (span : EdgeSpan) (at p : ℕ) (pair : Pair) (pairs : List Pair) (s : Spot) → is_point pair ≡ false →
    IsOfPoint path span (at + 1) p pairs s → IsOfPoint path span at p (pair ∷ pairs) s
behind_other path span at p pair pairs s fails of = record {
  from = suc of.from;
  number = of.number;
  place = of.place;
  index = of.index;
  point = of.point;
  place_is = omega (arith, of.place_is);
  index_is = of.index_is;
  is = point_behind_other pair pairs of.point of.from of.number fails of.is;
  there = of.there;
}

-- the spots of the first pair, which is point p
abbrev first_spots : List ℕ → EdgeSpan → ℕ → ℕ → Option (List Pair) → List Spot
first_spots path span at p list = option_map_or (λ list. coordinate_spots (path ++ at ∷ []) (point_vertex span p) list) list []

-- the spots of a line are those of its first point, if its first pair is one, and of what is behind it
abbrev tested : List ℕ → EdgeSpan → ℕ → ℕ → Option (List Pair) → List Pair → Bool → List Spot
tested path span at p list pairs b = cond b (first_spots path span at p list ++ point_spots path span (at + 1) (p + 1) pairs) (point_spots path span (at + 1) p pairs)

-- a spot of the first pair, which is a point
first_of_point : (path : List ℕ) (span : EdgeSpan) (at p : ℕ) (pair : Pair) (pairs : List Pair) (s : Spot) (list : Option (List Pair)) → is_point pair ≡ true →
    list_in pair.value ≡ list → Contains (first_spots path span at p list) s → IsOfPoint path span at p (pair ∷ pairs) s
first_of_point path span at p pair pairs s None passes is there = absurd (none_there s there)
first_of_point path span at p pair pairs s (Some point) passes is there = record {
  from = 0;
  number = 0;
  place = at;
  index = p;
  point = point;
  place_is = omega arith;
  index_is = omega arith;
  is = point_here pair pairs point passes is;
  there = there;
}

-- each spot of the points is one of a point
pub point_of_spot : (path : List ℕ) (span : EdgeSpan) (at p : ℕ) (pairs : List Pair) (s : Spot) → Contains (point_spots path span at p pairs) s → IsOfPoint path span at p pairs s
point_of_spot path span at p [] s there = absurd (none_there s there)
point_of_spot path span at p (pair ∷ pairs) s there =
    by_test (is_point pair) refl (point_of_spot path span (at + 1) (p + 1) pairs s) (point_of_spot path span (at + 1) p pairs s) there
  where
    by_part : is_point pair ≡ true → (Contains (point_spots path span (at + 1) (p + 1) pairs) s → IsOfPoint path span (at + 1) (p + 1) pairs s) →
        Contains (first_spots path span at p (list_in pair.value)) s ⊎ Contains (point_spots path span (at + 1) (p + 1) pairs) s → IsOfPoint path span at p (pair ∷ pairs) s
    by_part passes more (inl there) = first_of_point path span at p pair pairs s (list_in pair.value) passes refl there
    by_part passes more (inr there) = behind_point path span at p pair pairs s passes (more there)

    by_test : (b : Bool) → is_point pair ≡ b → (Contains (point_spots path span (at + 1) (p + 1) pairs) s → IsOfPoint path span (at + 1) (p + 1) pairs s) →
        (Contains (point_spots path span (at + 1) p pairs) s → IsOfPoint path span (at + 1) p pairs s) →
        Contains (tested path span at p (list_in pair.value) pairs b) s → IsOfPoint path span at p (pair ∷ pairs) s
    by_test true passes one more there = by_part passes one (Contains-append_cases (first_spots path span at p (list_in pair.value)) (point_spots path span (at + 1) (p + 1) pairs) s there)
    by_test false fails one more there = behind_other path span at p pair pairs s fails (more there)

-- each spot of a point, told by its place and its number, is one of the points' spots
spot_of_number : (path : List ℕ) (span : EdgeSpan) (at p : ℕ) (pairs : List Pair) (s : Spot) (from number place index : ℕ) (point : List Pair) →
    place ≡ at + from → index ≡ p + number → IsPointNumber pairs from number point →
    Contains (coordinate_spots (path ++ place ∷ []) (point_vertex span index) point) s → Contains (point_spots path span at p pairs) s
spot_of_number path span at p [] s from number place index point place_is index_is is there = let none : None ≡ Some point = is.there in absurd (cc)
spot_of_number path span at p (pair ∷ pairs) s zero number place index point place_is index_is is there =
    let passes : is_point pair ≡ true = (list_of_point pair point is.there).0 in
    let list : list_in pair.value ≡ Some point = (list_of_point pair point is.there).1 in
    let place_same : place ≡ at = omega arith in
    let none : 0 ≡ number = is.before in
    let index_same : index ≡ p = omega arith in
    let rest = point_spots path span (at + 1) (p + 1) pairs in
    let first : Contains (first_spots path span at p (Some point)) s =
    subst (λ (a : ℕ). Contains (first_spots path span a p (Some point)) s) place_same
    (subst (λ (i : ℕ). Contains (first_spots path span place i (Some point)) s) index_same there) in
    let same : tested path span at p (list_in pair.value) pairs (is_point pair) ≡ tested path span at p (Some point) pairs true =
    ap (λ (o : Option (List Pair)). tested path span at p o pairs (is_point pair)) list ∙ ap (tested path span at p (Some point) pairs) passes in
    let P : List Spot → Type 0 = λ spots. Contains spots s in
    subst P (sym same) (Contains-append_left (first_spots path span at p (Some point)) rest s first)
spot_of_number path span at p (pair ∷ pairs) s (suc from) number place index point place_is index_is is there =
    by_test (is_point pair) refl is.before (λ m index_is is. spot_of_number path span (at + 1) (p + 1) pairs s from m place index point (omega arith) index_is is there)
    (λ m index_is is. spot_of_number path span (at + 1) p pairs s from m place index point (omega arith) index_is is there)
  where
    by_test : (b : Bool) → is_point pair ≡ b → length (cond b (pair ∷ filter is_point (take from pairs)) (filter is_point (take from pairs))) ≡ number →
        ((m : ℕ) → index ≡ p + 1 + m → IsPointNumber pairs from m point → Contains (point_spots path span (at + 1) (p + 1) pairs) s) →
        ((m : ℕ) → index ≡ p + m → IsPointNumber pairs from m point → Contains (point_spots path span (at + 1) p pairs) s) →
        Contains (tested path span at p (list_in pair.value) pairs (is_point pair)) s
    by_test true passes before one more =
        let P : List Spot → Type 0 = λ spots. Contains spots s in
        let m = length (filter is_point (take from pairs)) in
        let before_is : suc m ≡ number = before in
        subst P (sym (ap (tested path span at p (list_in pair.value) pairs) passes))
        (Contains-append_right (first_spots path span at p (list_in pair.value)) (point_spots path span (at + 1) (p + 1) pairs) s
        (one m (omega arith) (record { there = is.there; before = refl })))
    by_test false fails before one more =
        let P : List Spot → Type 0 = λ spots. Contains spots s in
        subst P (sym (ap (tested path span at p (list_in pair.value) pairs) fails)) (more number index_is (record { there = is.there; before = before }))

-- each spot of a point is one of the points' spots
pub spot_of_point : (path : List ℕ) (span : EdgeSpan) (at p : ℕ) (pairs : List Pair) (s : Spot) → IsOfPoint path span at p pairs s → Contains (point_spots path span at p pairs) s
spot_of_point path span at p pairs s of =
    spot_of_number path span at p pairs s of.from of.number of.place of.index of.point of.place_is of.index_is of.is of.there
