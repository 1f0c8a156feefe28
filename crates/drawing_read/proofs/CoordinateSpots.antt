-- The spots of a list that has an x and a y, and of the list under a key.
use Rattle.std.proofs.Common.{◌≡◌, ℕ, zero, suc, ◌<◌, ◌⊎◌, inl, inr, arith, Bool, true, false, cond, List, [], ◌∷◌, ◌++◌, Option, None, Some, refl, sym, ap, ◌∙◌, subst, nat_lt, slice_index_or, Contains}
use Rattle.std.specs.Prelude.{codes}
use Rattle.std.specs.Option.{option_map_or}
use Rattle.compact_types.specs.declared.places.Axis.{Axis}
use Rattle.compact_types.specs.declared.places.Axis.TheVariants.{X, Y}
use Rattle.gml_text.specs.declared.tree.Pair.{Pair}
use Rattle.drawing_read.specs.declared.reading.Spot.{Spot}
use Rattle.drawing_read.specs.Lookups.{first_list, place_under, IsListAt}
use Rattle.drawing_read.specs.Spots.{spot as spot_at, in_order, coordinate_spots, inside}
use Rattle.drawing_read.specs.Coordinates.{HasBoth, of_axis}

-- nothing is in an empty list
pub none_there : (s : Spot) → Contains [] s → ⊥
none_there s there = omega (arith, there.1)

-- what is in a list of two is the one or the other
in_two : (s t u : Spot) (k : ℕ) → k < 2 → slice_index_or (s ∷ t ∷ []) k u ≡ u → (s ≡ u) ⊎ (t ≡ u)
in_two s t u zero below is = inl is
in_two s t u (suc zero) below is = inr is
in_two s t u (suc (suc k)) below is = absurd (omega arith)

-- the same with the two in the other order
swapped : (s t u : Spot) → (s ≡ u) ⊎ (t ≡ u) → (t ≡ u) ⊎ (s ≡ u)
swapped s t u (inl is) = inr is
swapped s t u (inr is) = inl is

-- what is one of two spots, in either order, is the one or the other
one_of_two : (b : Bool) (s t u : Spot) → Contains (cond b (s ∷ t ∷ []) (t ∷ s ∷ [])) u → (s ≡ u) ⊎ (t ≡ u)
one_of_two true s t u there = in_two s t u there.0 there.1 there.2
one_of_two false s t u there = swapped t s u (in_two t s u there.0 there.1 there.2)

-- a spot is that of the x or of the y of a list
pub record IsOneOfBoth (path : List ℕ) (vertex : ℕ) (pairs : List Pair) (spot : Spot) : Type 0 where
  pub x : ℕ
  pub y : ℕ
  pub axis : Axis
  pub both : HasBoth pairs x y
  pub is : spot_at path vertex axis (of_axis axis x y) ≡ spot

-- a spot of a list is that of its x or of its y
pub one_of_both : (path : List ℕ) (v : ℕ) (pairs : List Pair) (s : Spot) → Contains (coordinate_spots path v pairs) s → IsOneOfBoth path v pairs s
one_of_both path v pairs s there = by_places (place_under (codes "x") pairs) (place_under (codes "y") pairs) refl refl there
  where
    by_places : (o p : Option ℕ) → place_under (codes "x") pairs ≡ o → place_under (codes "y") pairs ≡ p → Contains (in_order path v o p) s → IsOneOfBoth path v pairs s
    by_places None p first second there = absurd (none_there s there)
    by_places (Some x) None first second there = absurd (none_there s there)
    by_places (Some x) (Some y) first second there = by_axis (one_of_two (nat_lt x y) (spot_at path v X x) (spot_at path v Y y) s there)
      where
        by_axis : (spot_at path v X x ≡ s) ⊎ (spot_at path v Y y ≡ s) → IsOneOfBoth path v pairs s
        by_axis (inl is) = record { x = x; y = y; axis = X; both = record { x_there = first; y_there = second }; is = is }
        by_axis (inr is) = record { x = x; y = y; axis = Y; both = record { x_there = first; y_there = second }; is = is }

-- both of two spots are there, in either order
both_there : (path : List ℕ) (v x y : ℕ) (axis : Axis) (b : Bool) →
    Contains (cond b (spot_at path v X x ∷ spot_at path v Y y ∷ []) (spot_at path v Y y ∷ spot_at path v X x ∷ [])) (spot_at path v axis (of_axis axis x y))
both_there path v x y X true = (0, omega arith, refl)
both_there path v x y Y true = (1, omega arith, refl)
both_there path v x y X false = (1, omega arith, refl)
both_there path v x y Y false = (0, omega arith, refl)

-- the spots of the x and of the y are spots of the list
pub of_both : (path : List ℕ) (v : ℕ) (pairs : List Pair) (s : Spot) → IsOneOfBoth path v pairs s → Contains (coordinate_spots path v pairs) s
of_both path v pairs s one =
    let spots = ap (λ (o : Option ℕ). in_order path v o (place_under (codes "y") pairs)) one.both.x_there ∙ ap (in_order path v (Some one.x)) one.both.y_there in
    let at : Contains (in_order path v (Some one.x) (Some one.y)) (spot_at path v one.axis (of_axis one.axis one.x one.y)) = both_there path v one.x one.y one.axis (nat_lt one.x one.y) in
    let P : List Spot → Type 0 = λ spots. Contains spots s in
    subst P (sym spots) (subst (λ (t : Spot). Contains (in_order path v (Some one.x) (Some one.y)) t) one.is at)

-- a spot is one of the spots inside the list under a key
pub record IsInside (key path : List ℕ) (pairs : List Pair) (spots : List ℕ → List Pair → List Spot) (spot : Spot) : Type 0 where
  pub place : ℕ
  pub list : List Pair
  pub at : IsListAt key pairs place list
  pub there : Contains (spots (path ++ place ∷ []) list) spot

module _ (spots : List ℕ → List Pair → List Spot) where
  -- what is inside, by the place and the list under a key, where they are there
  inside_by : List ℕ → Option ℕ → Option (List Pair) → List Spot
  inside_by path place list = option_map_or (λ a. option_map_or (λ pairs. spots (path ++ a ∷ []) pairs) list []) place []

  -- what stands inside the list under a key has that list
  pub list_of_inside : (key path : List ℕ) (pairs : List Pair) (s : Spot) → Contains (inside key path pairs spots) s → IsInside key path pairs spots s
  unfolding inside_by
  list_of_inside key path pairs s there = by_place (place_under key pairs) (first_list key pairs) refl refl there
    where
      by_place : (o : Option ℕ) (p : Option (List Pair)) → place_under key pairs ≡ o → first_list key pairs ≡ p → Contains (inside_by path o p) s → IsInside key path pairs spots s
      by_place None p at is there = absurd (none_there s there)
      by_place (Some a) None at is there = absurd (none_there s there)
      by_place (Some a) (Some list) at is there = record { place = a; list = list; at = record { place = at; there = is }; there = there }

  -- what the list under a key has stands inside it
  pub inside_of_list : (key path : List ℕ) (pairs : List Pair) (s : Spot) → IsInside key path pairs spots s → Contains (inside key path pairs spots) s
  unfolding inside_by
  inside_of_list key path pairs s within =
      let same : inside_by path (place_under key pairs) (first_list key pairs) ≡ inside_by path (Some within.place) (Some within.list) =
      ap (λ (o : Option ℕ). inside_by path o (first_list key pairs)) within.at.place ∙ ap (inside_by path (Some within.place)) within.at.there in
      let P : List Spot → Type 0 = λ spots. Contains spots s in
      subst P (sym same) within.there
