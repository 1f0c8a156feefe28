-- One pair after the other: what becomes of the choices.
use Rattle.std.proofs.Common.{ℤ, Result, Ok, Err, IfOk, ◌≡◌, ℕ, zero, suc, ◌+◌, ◌*◌, ◌<◌, ◌≤◌, ◌<ℤ◌, ◌≤ℤ◌, true, false, int_lt, List, [], ◌∷◌, length, take, if◌then◌else◌, ◌⊎◌, inl, inr, subst, sym, ap, refl, ◌∙◌, arith, length-append}
use Rattle.std.proofs.Math.Seq.{get_or-append_seam, take-length}
use Rattle.std.proofs.lemmas.Int.{ints}
use Rattle.std.proofs.lemmas.List.{get_or_append_left, take-append-le}
use Rattle.std.proofs.lemmas.Bool.{cases_Bool, cases_lt, cases_order, cond-true, cond-false}
use Rattle.compact_types.specs.declared.places.Axis.TheVariants.{X, Y}
use Rattle.compact_types.specs.declared.places.Places.{Places}
use Rattle.compact_types.specs.declared.plan.Shape.{Shape}
use Rattle.compact_types.specs.declared.search.Choice.{Choice}
use Rattle.compact_types.specs.declared.limits.TheConstants.{MOST_CHOICES}
use Rattle.compact_types.specs.Drawings.{IsDrawing}
use Rattle.bars.specs.Segments.{segment_count, IsPair}
use Rattle.bars.specs.Sides.{StandsBefore, SideHolds}
use Rattle.bars.specs.Solutions.{HasDrawing, Fit, IsChoice, Solves, choice_at, with_choice}
use Rattle.bars.proofs.Laws.{stands_before, nodes_apart}
use Rattle.shape_graphs.specs.Separation.{IsSeparated, IsComplete}
use Rattle.separation.specs.declared.extents.SegmentExtent.{SegmentExtent}
use Rattle.separation.specs.declared.sides.Reach.{Reach}
use Rattle.compact_types.specs.Orders.{IsPairBefore}
use Rattle.separation.specs.Extensions.{AreBefore, IsLeastSide, IsPairSettled, IsExtensionOf}
use Rattle.separation.specs.Reaching.{IsReachOf}
use Rattle.separation.specs.inner.Choosing.{AreChosen, AreLeast, least_side}
use Rattle.separation.specs.inner.Extents.{extent_at, IsExtent, AreExtents}
use Rattle.separation.proofs.CompleteExtensions.{side_in_drawing}
use Rattle.separation.proofs.CandidateLemmas.{bounds_of}
use Rattle.separation.proofs.ReachLemmas.{separated_stays, chosen_separated}

-- a pair before one stands before the next
before_next : (u v s t n : ℕ) → n ≡ t + 1 → IsPairBefore u v s t → IsPairBefore u v s n
before_next u v s t n next (inl less) = inl less
before_next u v s t n next (inr same) = inr (same.0, (let less = same.1 in omega (arith, less, next)))

-- a pair before the next stands before this one, or is it
before_or_here : (u v s t n : ℕ) → n ≡ t + 1 → IsPairBefore u v s n → IsPairBefore u v s t ⊎ ((u ≡ s) × (v ≡ t))
before_or_here u v s t n next (inl less) = inl (inl less)
before_or_here u v s t n next (inr same) = by_order (cases_lt v t)
  where
    by_order : (v < t) ⊎ (t ≤ v) → IsPairBefore u v s t ⊎ ((u ≡ s) × (v ≡ t))
    by_order (inl before) = inl (inr (same.0, before))
    by_order (inr after) = inr (same.0, (let less = same.1 in omega (arith, less, next, after)))

module _ (choices : List Choice) (s t side : ℕ) where
  abbrev with_one : List Choice
  with_one = with_choice choices s t side

  with_length : length with_one ≡ length choices + 1
  with_length = length-append choices (record { s = s; t = t; side = side } ∷ [])

  with_before : (j : ℕ) → j < length choices → choice_at with_one j ≡ choice_at choices j
  with_before j within = get_or_append_left choices (record { s = s; t = t; side = side } ∷ []) (record { s = 0; t = 0; side = 0 }) j within

  with_last : choice_at with_one (length choices) ≡ record { s = s; t = t; side = side }
  with_last = get_or-append_seam choices (record { s = s; t = t; side = side }) [] (record { s = 0; t = 0; side = 0 })

  with_take : (j : ℕ) → j ≤ length choices → take j with_one ≡ take j choices
  with_take j within = take-append-le j choices (record { s = s; t = t; side = side } ∷ []) within

  -- a fact of each old choice and of the new one
  each_with : (P : ℕ → Choice → Type 0) → ((j : ℕ) → j < length choices → P j (choice_at choices j)) → P (length choices) (record { s = s; t = t; side = side }) →
      (j : ℕ) → j < length with_one → P j (choice_at with_one j)
  each_with P old new j within = by_order (cases_lt j (length choices))
    where
      by_order : (j < length choices) ⊎ (length choices ≤ j) → P j (choice_at with_one j)
      by_order (inl before) = subst (λ (choice : Choice). P j choice) (sym (with_before j before)) (old j before)
      by_order (inr after) =
          let long = with_length in
          let last : length choices ≡ j = omega (arith, after, within, long) in
          subst (λ (k : ℕ). P k (choice_at with_one k)) last (subst (λ (choice : Choice). P (length choices) choice) (sym with_last) new)

  -- those before place j stay
  before_with : (j u v : ℕ) → j ≤ length choices → AreBefore choices j u v → AreBefore with_one j u v
  before_with j u v turn before i within =
      subst (λ (choice : Choice). IsPairBefore choice.s choice.t u v) (sym (with_before i (omega (arith, within, turn)))) (before i within)

module _ (shape : Shape) (reach : Reach) (choices : List Choice) (s t n : ℕ) (next : n ≡ t + 1) (chosen : AreChosen shape reach choices s t) where
  -- a pair that shares a vertex or is separated is passed over
  pub passed_over : (IsPair shape s t → IsSeparated shape choices s t) → AreChosen shape reach choices s n
  passed_over apart = record {
    reach_of = chosen.reach_of;
    each = chosen.each;
    earlier = λ i within. before_next _ _ s t n next (chosen.earlier i within);
    in_order = chosen.in_order;
    needed = chosen.needed;
    settled = λ u v pair before. settled u v pair (before_or_here u v s t n next before);
  }
    where
      here : IsPair shape s t → (j : ℕ) × IsPairSettled shape choices s t j
      here pair = (
        length choices,
        record {
          turn = omega arith;
          before = chosen.earlier;
          either = inl (subst (λ (l : List Choice). IsSeparated shape l s t) (sym (take-length choices)) (apart pair));
        },
      )

      settled : (u v : ℕ) → IsPair shape u v → IsPairBefore u v s t ⊎ ((u ≡ s) × (v ≡ t)) → (j : ℕ) × IsPairSettled shape choices u v j
      settled u v pair (inl before) = chosen.settled u v pair before
      settled u v pair (inr same) =
          subst (λ (x : ℕ). IsPair shape x v → (j : ℕ) × IsPairSettled shape choices x v j) (sym same.0)
          (subst (λ (x : ℕ). IsPair shape s x → (j : ℕ) × IsPairSettled shape choices s x j) (sym same.1) here) pair

  -- a pair that is not is chosen
  pub one_chosen : (after : Reach) (side : ℕ) → IsPair shape s t → side < 4 → (IsSeparated shape choices s t → ⊥) →
      IsReachOf shape (with_choice choices s t side) after → AreChosen shape after (with_choice choices s t side) s n
  one_chosen after side pair below apart reach_of = record {
    reach_of = reach_of;
    each = each_with choices s t side (λ j choice. IsChoice shape choice) chosen.each (record { pair = pair; side = below });
    earlier = each_with choices s t side (λ j choice. IsPairBefore choice.s choice.t s n)
        (λ i within. before_next _ _ s t n next (chosen.earlier i within)) (inr (refl, omega (arith, next)));
    in_order = each_with choices s t side (λ j choice. AreBefore (with_choice choices s t side) j choice.s choice.t)
        (λ j within. before_with choices s t side j _ _ (omega (arith, within)) (chosen.in_order j within))
        (before_with choices s t side (length choices) s t (omega arith) chosen.earlier);
    needed = each_with choices s t side (λ j choice. IsSeparated shape (take j (with_choice choices s t side)) choice.s choice.t → ⊥)
        (λ j within. subst (λ (l : List Choice). IsSeparated shape l (choice_at choices j).s (choice_at choices j).t → ⊥) (sym (with_take choices s t side j (omega (arith, within)))) (chosen.needed j within))
        (subst (λ (l : List Choice). IsSeparated shape l s t → ⊥) (sym (with_take choices s t side (length choices) (omega arith) ∙ take-length choices)) apart);
    settled = λ u v pair before. settled u v pair (before_or_here u v s t n next before);
  }
    where
      long : length (with_choice choices s t side) ≡ length choices + 1
      long = with_length choices s t side

      still : (u v j : ℕ) → IsPairSettled shape choices u v j → IsPairSettled shape (with_choice choices s t side) u v j
      still u v j is = record {
        turn = (let turn = is.turn in let l = long in omega (arith, turn, l));
        before = before_with choices s t side j u v is.turn is.before;
        either = by_either is.either;
      }
        where
          by_either : IsSeparated shape (take j choices) u v ⊎ ((j < length choices) × ((choice_at choices j).s ≡ u) × ((choice_at choices j).t ≡ v)) →
              IsSeparated shape (take j (with_choice choices s t side)) u v ⊎
              ((j < length (with_choice choices s t side)) × ((choice_at (with_choice choices s t side) j).s ≡ u) × ((choice_at (with_choice choices s t side) j).t ≡ v))
          by_either (inl separated) = inl (subst (λ (l : List Choice). IsSeparated shape l u v) (sym (with_take choices s t side j is.turn)) separated)
          by_either (inr taken) = inr (
            (let below = taken.0 in let l = long in omega (arith, below, l)),
            ap (λ (choice : Choice). choice.s) (with_before choices s t side j taken.0) ∙ taken.1,
            ap (λ (choice : Choice). choice.t) (with_before choices s t side j taken.0) ∙ taken.2,
          )

      here : (j : ℕ) × IsPairSettled shape (with_choice choices s t side) s t j
      here = (
        length choices,
        record {
          turn = (let l = long in omega (arith, l));
          before = before_with choices s t side (length choices) s t (omega arith) chosen.earlier;
          either = inr (
            (let l = long in omega (arith, l)),
            ap (λ (choice : Choice). choice.s) (with_last choices s t side),
            ap (λ (choice : Choice). choice.t) (with_last choices s t side),
          );
        },
      )

      settled : (u v : ℕ) → IsPair shape u v → IsPairBefore u v s t ⊎ ((u ≡ s) × (v ≡ t)) → (j : ℕ) × IsPairSettled shape (with_choice choices s t side) u v j
      settled u v pair (inl before) = let is = chosen.settled u v pair before in (is.0, still u v is.0 is.1)
      settled u v pair (inr same) =
          subst (λ (x : ℕ). (j : ℕ) × IsPairSettled shape (with_choice choices s t side) x v j) (sym same.0)
          (subst (λ (x : ℕ). (j : ℕ) × IsPairSettled shape (with_choice choices s t side) s x j) (sym same.1) here)

-- after all pairs of s come those of the next
pub next_row : (shape : Shape) (reach : Reach) (choices : List Choice) (s n t : ℕ) → n ≡ s + 1 → t ≤ n + 1 → AreChosen shape reach choices s (segment_count shape) → AreChosen shape reach choices n t
next_row shape reach choices s n t next most chosen = record {
  reach_of = chosen.reach_of;
  each = chosen.each;
  earlier = λ i within. later (chosen.earlier i within);
  in_order = chosen.in_order;
  needed = chosen.needed;
  settled = λ u v pair before. chosen.settled u v pair (sooner u v pair before);
}
  where
    later : {u v : ℕ} → IsPairBefore u v s (segment_count shape) → IsPairBefore u v n t
    later {u} {v} (inl less) = inl (omega (arith, less, next))
    later {u} {v} (inr same) = inl (let e = same.0 in omega (arith, e, next))

    sooner : (u v : ℕ) → IsPair shape u v → IsPairBefore u v n t → IsPairBefore u v s (segment_count shape)
    sooner u v pair (inl less) = by_order (cases_order u s)
      where
        by_order : (u ≡ s) ⊎ ((u < s) ⊎ (s < u)) → IsPairBefore u v s (segment_count shape)
        by_order (inl same) = inr (same, pair.in_shape)
        by_order (inr (inl before)) = inl before
        by_order (inr (inr after)) = absurd (omega (arith, less, next, after))
    sooner u v pair (inr same) = let e = same.0 in let f = same.1 in let g = pair.in_order in absurd (omega (arith, e, f, g, most))

-- at first nothing is chosen
pub none_chosen : (shape : Shape) (reach : Reach) (t : ℕ) → t ≤ 1 → IsReachOf shape [] reach → AreChosen shape reach [] 0 t
none_chosen shape reach t most reach_of = record {
  reach_of = reach_of;
  each = λ i none. absurd (omega arith);
  earlier = λ i none. absurd (omega arith);
  in_order = λ j none. absurd (omega arith);
  needed = λ j none. absurd (omega arith);
  settled = λ u v pair before. absurd (none_before u v pair before);
}
  where
    none_before : (u v : ℕ) → IsPair shape u v → IsPairBefore u v 0 t → ⊥
    none_before u v pair (inl less) = omega (arith, less)
    none_before u v pair (inr same) = let e = same.0 in let f = same.1 in let g = pair.in_order in omega (arith, e, f, g, most)

-- there are fewer choices than pairs of segments
pub few_chosen : (shape : Shape) (choices : List Choice) → segment_count shape ≤ 1000 → ((i : ℕ) → i < length choices → IsChoice shape (choice_at choices i)) →
    ((j : ℕ) → j < length choices → AreBefore choices j (choice_at choices j).s (choice_at choices j).t) → length choices ≤ MOST_CHOICES
few_chosen shape choices few each in_order = by_length (length choices) refl
  where
    code_rises : (s t u v : ℕ) → v < 1000 → t < 1000 → IsPairBefore s t u v → s * 1000 + t < u * 1000 + v
    code_rises s t u v v_small t_small (inl less) = omega arith
    code_rises s t u v v_small t_small (inr same) = let e = same.0 in let f = same.1 in omega (arith, e, f)

    at_least : (j : ℕ) → j < length choices → j ≤ (choice_at choices j).s * 1000 + (choice_at choices j).t
    at_least zero within = omega arith
    at_least (suc j) within =
        let before = at_least j (omega (arith, within)) in
        let one = (each j (omega (arith, within))).pair.in_shape in
        let two = (each (suc j) within).pair.in_shape in
        let rise = code_rises _ _ _ _ (omega (arith, two, few)) (omega (arith, one, few)) (in_order (suc j) within j (omega arith)) in
        omega (arith, before, rise)

    by_length : (n : ℕ) → n ≡ length choices → length choices ≤ MOST_CHOICES
    by_length zero is = omega (arith, is)
    by_length (suc k) is =
        let within : k < length choices = omega (arith, is) in
        let code = at_least k within in
        let order = (each k within).pair.in_order in
        let below = (each k within).pair.in_shape in
        omega (arith, is, code, order, below, few)

-- what is chosen fits
pub chosen_fit : (shape : Shape) (reach : Reach) (choices : List Choice) (s t : ℕ) → segment_count shape ≤ 1000 → AreChosen shape reach choices s t → Fit shape choices
chosen_fit shape reach choices s t few chosen = record { few = few_chosen shape choices few chosen.each chosen.in_order; each = chosen.each }

-- after the last pair the choices are the extension
pub extension_from : (shape : Shape) (places : Places) (reach : Reach) (choices : List Choice) (s t : ℕ) → segment_count shape ≤ s → AreChosen shape reach choices s t →
    AreLeast shape places choices → IsExtensionOf shape places choices
extension_from shape places reach choices s t past chosen least = record {
  each = chosen.each;
  in_order = chosen.in_order;
  needed = chosen.needed;
  least = least;
  settled = λ u v pair. chosen.settled u v pair (inl (let less = pair.in_order in let below = pair.in_shape in omega (arith, less, below, past)));
}

-- the extension fits the shape
pub extension_fits : (shape : Shape) (places : Places) (choices : List Choice) → segment_count shape ≤ 1000 → IsExtensionOf shape places choices → Fit shape choices
extension_fits shape places choices few is = record { few = few_chosen shape choices few is.each is.in_order; each = is.each }

-- the extension of a drawing is complete
pub extension_complete : (shape : Shape) (places : Places) (choices : List Choice) → IsExtensionOf shape places choices → IsComplete shape choices
extension_complete shape places choices is s t pair = let settled = is.settled s t pair in by_either settled.0 settled.1 settled.1.either
  where
    by_either : (j : ℕ) → IsPairSettled shape choices s t j → IsSeparated shape (take j choices) s t ⊎ ((j < length choices) × ((choice_at choices j).s ≡ s) × ((choice_at choices j).t ≡ t)) → IsSeparated shape choices s t
    by_either j settled (inl separated) = separated_stays shape choices j s t separated
    by_either j settled (inr taken) =
        subst (λ (x : ℕ). IsSeparated shape choices x t) taken.1
        (subst (λ (x : ℕ). IsSeparated shape choices (choice_at choices j).s x) taken.2 (chosen_separated shape choices j taken.0 (is.each j taken.0).side))

-- the drawing solves it
pub extension_solved : (shape : Shape) (places : Places) (choices : List Choice) → IsDrawing shape places → IsExtensionOf shape places choices → Solves shape choices places
extension_solved shape places choices drawing is =
    record { places_fit = drawing.crossing_free.places_fit; ways = drawing.crossing_free.ways; sides = λ j within. (is.least j within).holds }

-- the least sides stay, with one more
pub least_with : (shape : Shape) (places : Places) (choices : List Choice) (s t side : ℕ) → IsLeastSide shape places s t side → AreLeast shape places choices → AreLeast shape places (with_choice choices s t side)
least_with shape places choices s t side is are = each_with choices s t side (λ j choice. IsLeastSide shape places choice.s choice.t choice.side) are is

module _ (shape : Shape) (places : Places) (drawing : IsDrawing shape places) (a b : SegmentExtent) (is_a : IsExtent shape places a) (is_b : IsExtent shape places b) where
  abbrev has_drawing : HasDrawing shape
  has_drawing = (places, drawing)

  less_than : (x y : ℤ) → int_lt x y ≡ true → x <ℤ y
  less_than x y less = grind (arith, ints)

  not_less : (x y : ℤ) → int_lt x y ≡ false → y ≤ℤ x
  not_less x y fails = grind (arith, ints)

  -- an extent ends before another begins exactly if its segment stands before that of the other
  west_holds : int_lt a.right b.left ≡ true → StandsBefore X shape places a.segment b.segment
  west_holds less =
      let high = (bounds_of shape has_drawing places drawing.crossing_free.ways a is_a).right in
      let low = (bounds_of shape has_drawing places drawing.crossing_free.ways b is_b).left in
      let l = less_than a.right b.left less in
      stands_before shape has_drawing places drawing.crossing_free.ways X a.segment b.segment is_a.within is_b.within (omega (arith, ints, high, low, l))

  west_fails : int_lt a.right b.left ≡ false → StandsBefore X shape places a.segment b.segment → ⊥
  west_fails fails before =
      let high = (bounds_of shape has_drawing places drawing.crossing_free.ways a is_a).right in
      let low = (bounds_of shape has_drawing places drawing.crossing_free.ways b is_b).left in
      let l = not_less a.right b.left fails in
      let apart = nodes_apart shape has_drawing places drawing.crossing_free.ways X a.segment b.segment is_a.within is_b.within before in
      omega (arith, ints, high, low, l, apart)

  below_holds : int_lt a.high b.low ≡ true → StandsBefore Y shape places a.segment b.segment
  below_holds less =
      let high = (bounds_of shape has_drawing places drawing.crossing_free.ways a is_a).high in
      let low = (bounds_of shape has_drawing places drawing.crossing_free.ways b is_b).low in
      let l = less_than a.high b.low less in
      stands_before shape has_drawing places drawing.crossing_free.ways Y a.segment b.segment is_a.within is_b.within (omega (arith, ints, high, low, l))

  below_fails : int_lt a.high b.low ≡ false → StandsBefore Y shape places a.segment b.segment → ⊥
  below_fails fails before =
      let high = (bounds_of shape has_drawing places drawing.crossing_free.ways a is_a).high in
      let low = (bounds_of shape has_drawing places drawing.crossing_free.ways b is_b).low in
      let l = not_less a.high b.low fails in
      let apart = nodes_apart shape has_drawing places drawing.crossing_free.ways Y a.segment b.segment is_a.within is_b.within before in
      omega (arith, ints, high, low, l, apart)

-- the least side of two extents is that of their segments
pub least_side_is : (shape : Shape) (places : Places) (drawing : IsDrawing shape places) (a b : SegmentExtent) → IsExtent shape places a → IsExtent shape places b → IsPair shape a.segment b.segment →
    IsLeastSide shape places a.segment b.segment (least_side a b)
least_side_is shape places drawing a b is_a is_b pair = by_west (cases_Bool (int_lt a.right b.left))
  where
    by_below : int_lt a.right b.left ≡ false → int_lt b.right a.left ≡ false → (int_lt a.high b.low ≡ true) ⊎ (int_lt a.high b.low ≡ false) → IsLeastSide shape places a.segment b.segment (if int_lt a.high b.low then 2 else 3)
    by_below no_west no_east (inl below) =
        subst (λ (side : ℕ). IsLeastSide shape places a.segment b.segment side) (sym (cond-true (int_lt a.high b.low) 2 3 below))
        (record { holds = below_holds shape places drawing a b is_a is_b below; least = lesser })
      where
        lesser : (k : ℕ) → k < 2 → SideHolds shape places a.segment b.segment k → ⊥
        lesser zero less holds = west_fails shape places drawing a b is_a is_b no_west holds
        lesser (suc zero) less holds = west_fails shape places drawing b a is_b is_a no_east holds
        lesser (suc (suc k)) less holds = omega (arith, less)
    by_below no_west no_east (inr no_below) =
        subst (λ (side : ℕ). IsLeastSide shape places a.segment b.segment side) (sym (cond-false (int_lt a.high b.low) 2 3 no_below))
        (record { holds = last (side_in_drawing shape places a.segment b.segment drawing pair); least = lesser })
      where
        lesser : (k : ℕ) → k < 3 → SideHolds shape places a.segment b.segment k → ⊥
        lesser zero less holds = west_fails shape places drawing a b is_a is_b no_west holds
        lesser (suc zero) less holds = west_fails shape places drawing b a is_b is_a no_east holds
        lesser (suc (suc zero)) less holds = below_fails shape places drawing a b is_a is_b no_below holds
        lesser (suc (suc (suc k))) less holds = omega (arith, less)

        last : (side : ℕ) × (side < 4) × SideHolds shape places a.segment b.segment side → SideHolds shape places a.segment b.segment 3
        last some = by_side (cases_lt some.0 3)
          where
            by_side : (some.0 < 3) ⊎ (3 ≤ some.0) → SideHolds shape places a.segment b.segment 3
            by_side (inl less) = absurd (lesser some.0 less some.2)
            by_side (inr more) =
                let below = some.1 in
                let is : some.0 ≡ 3 = omega (arith, below, more) in
                subst (λ (side : ℕ). SideHolds shape places a.segment b.segment side) is some.2

    by_east : int_lt a.right b.left ≡ false → (int_lt b.right a.left ≡ true) ⊎ (int_lt b.right a.left ≡ false) →
        IsLeastSide shape places a.segment b.segment (if int_lt b.right a.left then 1 else (if int_lt a.high b.low then 2 else 3))
    by_east no_west (inl east) =
        subst (λ (side : ℕ). IsLeastSide shape places a.segment b.segment side) (sym (cond-true (int_lt b.right a.left) 1 (if int_lt a.high b.low then 2 else 3) east))
        (record { holds = west_holds shape places drawing b a is_b is_a east; least = lesser })
      where
        lesser : (k : ℕ) → k < 1 → SideHolds shape places a.segment b.segment k → ⊥
        lesser zero less holds = west_fails shape places drawing a b is_a is_b no_west holds
        lesser (suc k) less holds = omega (arith, less)
    by_east no_west (inr no_east) =
        subst (λ (side : ℕ). IsLeastSide shape places a.segment b.segment side) (sym (cond-false (int_lt b.right a.left) 1 (if int_lt a.high b.low then 2 else 3) no_east))
        (by_below no_west no_east (cases_Bool (int_lt a.high b.low)))

    by_west : (int_lt a.right b.left ≡ true) ⊎ (int_lt a.right b.left ≡ false) → IsLeastSide shape places a.segment b.segment (least_side a b)
    by_west (inl west) =
        subst (λ (side : ℕ). IsLeastSide shape places a.segment b.segment side)
        (sym (cond-true (int_lt a.right b.left) 0 (if int_lt b.right a.left then 1 else (if int_lt a.high b.low then 2 else 3)) west))
        (record { holds = west_holds shape places drawing a b is_a is_b west; least = λ k less holds. (let none = less in omega (arith, none)) })
    by_west (inr no_west) =
        subst (λ (side : ℕ). IsLeastSide shape places a.segment b.segment side)
        (sym (cond-false (int_lt a.right b.left) 0 (if int_lt b.right a.left then 1 else (if int_lt a.high b.low then 2 else 3)) no_west))
        (by_east no_west (cases_Bool (int_lt b.right a.left)))

-- the least side of the extents at two places
pub least_at : (shape : Shape) (places : Places) (extents : List SegmentExtent) (s t side : ℕ) → IsDrawing shape places → AreExtents shape places extents →
    ((k : ℕ) → k < length extents → (extent_at extents k).segment ≡ k) → s < length extents → t < length extents → IsPair shape s t →
    side ≡ least_side (extent_at extents s) (extent_at extents t) → IsLeastSide shape places s t side
least_at shape places extents s t side drawing are own s_within t_within pair is =
    subst (λ (x : ℕ). IsLeastSide shape places s t x) (sym is)
    (subst (λ (x : ℕ). IsPair shape x t → IsLeastSide shape places x t (least_side (extent_at extents s) (extent_at extents t))) (own s s_within)
    (subst (λ (x : ℕ). IsPair shape (extent_at extents s).segment x → IsLeastSide shape places (extent_at extents s).segment x (least_side (extent_at extents s) (extent_at extents t))) (own t t_within)
    (least_side_is shape places drawing (extent_at extents s) (extent_at extents t) (are s s_within) (are t t_within))) pair)

-- what follows from a value
pub if_ok_more : {T E : Type 0} (result : Result T E) (P Q : T → Type 0) → ((value : T) → P value → Q value) → IfOk result P → IfOk result Q
if_ok_more {T} {E} (Ok value) P Q more holds = more value holds
if_ok_more {T} {E} (Err error) P Q more holds = tt
