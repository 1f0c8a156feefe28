-- Lists of pairs after the numerals of their spots were put: their keys, and what stands under a key.
use Rattle.std.proofs.Common.{◌≡◌, ℕ, ◌⊎◌, inl, inr, Bool, true, false, cond, List, [], ◌∷◌, Option, None, Some, refl, sym, ap, ◌∙◌, nat_lt, subst}
use Rattle.std.specs.Option.{option_map}
use Rattle.std.specs.Prelude.{codes, option_and_then}
use Rattle.compact_types.specs.declared.places.Axis.TheVariants.{X, Y}
use Rattle.compact_types.specs.declared.places.Places.{Places}
use Rattle.gml_text.specs.declared.tree.Pair.{Pair}
use Rattle.gml_text.specs.declared.tree.Value.{Value}
use Rattle.drawing_read.specs.declared.reading.Spot.{Spot}
use Rattle.drawing_read.specs.Lookups.{has_key, list_in, first_under, first_list, place_under}
use Rattle.drawing_read.specs.Spots.{spot, coordinate_spots, inside, in_order}
use Rattle.gml_print.specs.Placing.{with_changed_value, change_at}
use Rattle.gml_print.specs.Places.{numeral_for}
use Rattle.gml_print.proofs.ChangedLists.{change_at_is, change_first, changed_is_first, keys_of, same_keys, same_places, first_changed, first_of_other, AreApart, apart_words}
use Rattle.gml_print.proofs.ListFacts.{find_position}
use Rattle.gml_print.proofs.PutValues.{LeadIn, puts, replaced_by, puts_behind, replaced_by_list}
use Rattle.gml_print.proofs.SpotPaths.{IsRelative}

-- where the pair that counts stands, if there is one
abbrev pub IsFirst : List ℕ → List Pair → ℕ → Pair → Type 0
IsFirst key pairs a pair = (place_under key pairs ≡ Some a) × (first_under key pairs ≡ Some pair)

pub in_place : (key : List ℕ) (pairs : List Pair) →
    ((place_under key pairs ≡ None) × (first_under key pairs ≡ None)) ⊎ ((a : ℕ) × (pair : Pair) × IsFirst key pairs a pair)
in_place key pairs = find_position (has_key key) pairs

module _ (places : Places) (pitch : ℕ) where
  -- the numerals stand under x and y, and the keys are as they were
  pub record HasNumerals (v : ℕ) (old new : List Pair) : Type 0 where
    pub keys : keys_of new ≡ keys_of old
    pub x : first_under (codes "x") new ≡ option_map (with_changed_value (λ old. numeral_for places pitch (spot [] v X 0))) (first_under (codes "x") old)
    pub y : first_under (codes "y") new ≡ option_map (with_changed_value (λ old. numeral_for places pitch (spot [] v Y 0))) (first_under (codes "y") old)

  -- the second of two changes under different keys
  two_changes : (key other : List ℕ) (a b : ℕ) (f g : Value → Value) (pairs : List Pair) →
      place_under key pairs ≡ Some a → place_under other pairs ≡ Some b →
      change_at b g (change_at a f pairs) ≡ change_first other g (change_first key f pairs)
  two_changes key other a b f g pairs first second =
      let once : change_at a f pairs ≡ change_first key f pairs = change_at_is a f pairs ∙ changed_is_first key f pairs a first in
      let there : place_under other (change_first key f pairs) ≡ Some b =
      same_places other (change_first key f pairs) pairs (same_keys key f pairs) ∙ second in
      ap (change_at b g) once ∙ change_at_is b g (change_first key f pairs) ∙ changed_is_first other g (change_first key f pairs) b there

  changed_first_of_two : (key other : List ℕ) (f g : Value → Value) (pairs : List Pair) → AreApart other key →
      first_under key (change_first other g (change_first key f pairs)) ≡ option_map (with_changed_value f) (first_under key pairs)
  changed_first_of_two key other f g pairs apart = first_of_other other key g (change_first key f pairs) apart ∙ first_changed key f pairs

  changed_second_of_two : (key other : List ℕ) (f g : Value → Value) (pairs : List Pair) → AreApart key other →
      first_under other (change_first other g (change_first key f pairs)) ≡ option_map (with_changed_value g) (first_under other pairs)
  changed_second_of_two key other f g pairs apart =
      first_changed other g (change_first key f pairs) ∙ ap (option_map (with_changed_value g)) (first_of_other key other f pairs apart)

  two_keys : (key other : List ℕ) (f g : Value → Value) (pairs : List Pair) → keys_of (change_first other g (change_first key f pairs)) ≡ keys_of pairs
  two_keys key other f g pairs = same_keys other g (change_first key f pairs) ∙ same_keys key f pairs

  pub numerals_put : (v : ℕ) (pairs : List Pair) (i j : ℕ) → place_under (codes "x") pairs ≡ Some i → place_under (codes "y") pairs ≡ Some j →
      HasNumerals v pairs (puts places pitch (coordinate_spots [] v pairs) pairs)
  numerals_put v pairs i j x y =
      let spots : coordinate_spots [] v pairs ≡ in_order [] v (Some i) (Some j) =
      ap (λ (o : Option ℕ). in_order [] v o (place_under (codes "y") pairs)) x ∙ ap (in_order [] v (Some i)) y in
      let P : List Spot → Type 0 = λ spots. HasNumerals v pairs (puts places pitch spots pairs) in
      subst P (sym spots) (by_order (nat_lt i j))
    where
      by_order : (b : Bool) → HasNumerals v pairs (puts places pitch (cond b (spot [] v X i ∷ spot [] v Y j ∷ []) (spot [] v Y j ∷ spot [] v X i ∷ [])) pairs)
      by_order true =
          let f : Value → Value = λ old. numeral_for places pitch (spot [] v X 0) in
          let g : Value → Value = λ old. numeral_for places pitch (spot [] v Y 0) in
          let both : puts places pitch (spot [] v X i ∷ spot [] v Y j ∷ []) pairs ≡ change_first (codes "y") g (change_first (codes "x") f pairs) =
          two_changes (codes "x") (codes "y") i j f g pairs x y in
          record {
            keys = ap keys_of both ∙ two_keys (codes "x") (codes "y") f g pairs;
            x = ap (first_under (codes "x")) both ∙ changed_first_of_two (codes "x") (codes "y") f g pairs (apart_words (codes "y") (codes "x") refl);
            y = ap (first_under (codes "y")) both ∙ changed_second_of_two (codes "x") (codes "y") f g pairs (apart_words (codes "x") (codes "y") refl);
          }
      by_order false =
          let f : Value → Value = λ old. numeral_for places pitch (spot [] v X 0) in
          let g : Value → Value = λ old. numeral_for places pitch (spot [] v Y 0) in
          let both : puts places pitch (spot [] v Y j ∷ spot [] v X i ∷ []) pairs ≡ change_first (codes "x") f (change_first (codes "y") g pairs) =
          two_changes (codes "y") (codes "x") j i g f pairs y x in
          record {
            keys = ap keys_of both ∙ two_keys (codes "y") (codes "x") g f pairs;
            x = ap (first_under (codes "x")) both ∙ changed_second_of_two (codes "y") (codes "x") g f pairs (apart_words (codes "y") (codes "x") refl);
            y = ap (first_under (codes "y")) both ∙ changed_first_of_two (codes "y") (codes "x") g f pairs (apart_words (codes "x") (codes "y") refl);
          }

  -- the spots of a list stay where they are
  coordinate_keys : (v : ℕ) (pairs : List Pair) (x y : Option ℕ) → place_under (codes "x") pairs ≡ x → place_under (codes "y") pairs ≡ y →
      keys_of (puts places pitch (in_order [] v x y) pairs) ≡ keys_of pairs
  coordinate_keys v pairs None y first second = refl
  coordinate_keys v pairs (Some i) None first second = refl
  coordinate_keys v pairs (Some i) (Some j) first second =
      let spots : coordinate_spots [] v pairs ≡ in_order [] v (Some i) (Some j) =
      ap (λ (o : Option ℕ). in_order [] v o (place_under (codes "y") pairs)) first ∙ ap (in_order [] v (Some i)) second in
      ap (λ spots. keys_of (puts places pitch spots pairs)) (sym spots) ∙ (numerals_put v pairs i j first second).keys

  pub same_coordinate_keys : (v : ℕ) (pairs : List Pair) → keys_of (puts places pitch (coordinate_spots [] v pairs) pairs) ≡ keys_of pairs
  same_coordinate_keys v pairs = coordinate_keys v pairs (place_under (codes "x") pairs) (place_under (codes "y") pairs) refl refl

  pub same_coordinates : (v : ℕ) (pairs : List Pair) (path : List ℕ) →
      coordinate_spots path v (puts places pitch (coordinate_spots [] v pairs) pairs) ≡ coordinate_spots path v pairs
  same_coordinates v pairs path =
      let new = puts places pitch (coordinate_spots [] v pairs) pairs in
      ap (λ (o : Option ℕ). in_order path v o (place_under (codes "y") new)) (same_places (codes "x") new pairs (same_coordinate_keys v pairs))
      ∙ ap (in_order path v (place_under (codes "x") pairs)) (same_places (codes "y") new pairs (same_coordinate_keys v pairs))

  -- what holds where the spots inside the list under a key were put
  pub record IsPutInside (key : List ℕ) (change : List Pair → List Pair) (old new : List Pair) : Type 0 where
    pub keys : keys_of new ≡ keys_of old
    pub list : first_list key new ≡ option_map change (first_list key old)
    pub others : (other : List ℕ) → AreApart key other → first_under other new ≡ first_under other old

  module _ (spots : List ℕ → List Pair → List Spot) (relative : (pairs : List Pair) → IsRelative (λ path. spots path pairs))
      (lead : (pairs : List Pair) → LeadIn (spots [] pairs)) (key : List ℕ) where
    abbrev pub put_list : List Pair → List Pair
    put_list list = puts places pitch (spots [] list) list

    unchanged : (pairs new : List Pair) → first_list key pairs ≡ None → new ≡ pairs → IsPutInside key put_list pairs new
    unchanged pairs new none same = record {
      keys = ap keys_of same;
      list = ap (first_list key) same ∙ none ∙ sym (ap (option_map put_list) none);
      others = λ other apart. ap (first_under other) same;
    }

    changed : (a : ℕ) (pair : Pair) (pairs new list : List Pair) → place_under key pairs ≡ Some a → first_under key pairs ≡ Some pair →
        list_in pair.value ≡ Some list → new ≡ puts places pitch (spots (a ∷ []) list) pairs → IsPutInside key put_list pairs new
    changed a pair pairs new list place first inner is =
        let f : Value → Value = replaced_by places pitch (spots [] list) in
        let same : new ≡ change_first key f pairs =
        is ∙ ap (λ spots. puts places pitch spots pairs) (relative list (a ∷ [])) ∙ puts_behind places pitch a (spots [] list) pairs ∙ changed_is_first key f pairs a place in
        let value : list_in (f pair.value) ≡ Some (put_list list) =
        replaced_by_list places pitch (spots [] list) pair.value (lead list) ∙ ap (option_map (puts places pitch (spots [] list))) inner in
        let old : first_list key pairs ≡ Some list = ap (option_and_then (λ (pair : Pair). list_in pair.value)) first ∙ inner in
        record {
          keys = ap keys_of same ∙ same_keys key f pairs;
          list =
              ap (first_list key) same
              ∙ ap (option_and_then (λ (pair : Pair). list_in pair.value)) (first_changed key f pairs ∙ ap (option_map (with_changed_value f)) first)
              ∙ value ∙ sym (ap (option_map put_list) old);
          others = λ other apart. ap (first_under other) same ∙ first_of_other key other f pairs apart;
        }

    -- the spots inside the list under the key, put
    pub put_inside : (pairs : List Pair) → IsPutInside key put_list pairs (puts places pitch (inside key [] pairs spots) pairs)
    put_inside pairs = by_first (in_place key pairs)
      where
        by_list : (a : ℕ) (pair : Pair) → place_under key pairs ≡ Some a → first_under key pairs ≡ Some pair → (o : Option (List Pair)) → list_in pair.value ≡ o →
            IsPutInside key put_list pairs (puts places pitch (inside key [] pairs spots) pairs)
        by_list a pair place first None inner =
            let none : first_list key pairs ≡ None = ap (option_and_then (λ (pair : Pair). list_in pair.value)) first ∙ inner in
            unchanged pairs (puts places pitch (inside key [] pairs spots) pairs) none (rw (place, none) refl)
        by_list a pair place first (Some list) inner =
            let some : first_list key pairs ≡ Some list = ap (option_and_then (λ (pair : Pair). list_in pair.value)) first ∙ inner in
            changed a pair pairs (puts places pitch (inside key [] pairs spots) pairs) list place first inner (rw (place, some) refl)

        by_first : ((place_under key pairs ≡ None) × (first_under key pairs ≡ None)) ⊎ ((a : ℕ) × (pair : Pair) × IsFirst key pairs a pair) →
            IsPutInside key put_list pairs (puts places pitch (inside key [] pairs spots) pairs)
        by_first (inl h) =
            let none : first_list key pairs ≡ None = ap (option_and_then (λ (pair : Pair). list_in pair.value)) h.1 in
            unchanged pairs (puts places pitch (inside key [] pairs spots) pairs) none (rw (h.0) refl)
        by_first (inr h) = by_list h.0 h.1 h.2.0 h.2.1 (list_in h.1.value) refl
