-- Every shape with a drawing has a best one, and no coordinate of it is too great to be written.
-- Pair by pair each of the four sides is taken; a complete list has a least key or no solution; the
-- first of the least keys is best.
use Rattle.std.proofs.Common.{◌≡◌, ℕ, zero, suc, ◌+◌, ◌*◌, ◌<◌, ◌≤◌, List, [], ◌∷◌, length, ◌⊎◌, inl, inr, refl, sym, ap, ◌∙◌, subst, arith, length-append}
use Rattle.std.proofs.Math.Seq.{get_or-append_seam}
use Rattle.std.proofs.lemmas.List.{get_or_append_left}
use Rattle.std.proofs.lemmas.Bool.{cases_lt}
use Rattle.std.proofs.lemmas.Int.{ints}
use Rattle.compact_types.specs.declared.limits.TheConstants.{GREATEST_PLACE, MOST_CHOICES, MOST_PITCH}
use Rattle.compact_types.specs.declared.places.Axis.{Axis}
use Rattle.compact_types.specs.declared.places.Axis.TheVariants.{X, Y}
use Rattle.compact_types.specs.declared.places.Key.{Key}
use Rattle.compact_types.specs.declared.places.Places.{Places}
use Rattle.compact_types.specs.declared.plan.Plan.{Plan}
use Rattle.compact_types.specs.declared.plan.Shape.{Shape}
use Rattle.compact_types.specs.declared.search.Choice.{Choice}
use Rattle.compact_types.specs.Bests.{total_length, IsBest, key_of}
use Rattle.compact_types.specs.Drawings.{IsDrawing}
use Rattle.compact_types.specs.Magnitudes.{AreWithin}
use Rattle.compact_types.specs.Orders.{IsBefore}
use Rattle.compact_types.proofs.Laws.{one_best, same_key}
use Rattle.bars.specs.Segments.{segment_count, IsPair}
use Rattle.bars.specs.Sides.{side_axis}
use Rattle.bars.specs.Solutions.{choice_at, with_choice, IsChoice, IsSound, Fit, Solves}
use Rattle.shape_graphs.specs.Graphs.{arcs_of}
use Rattle.shape_graphs.specs.Measures.{HaveNoCycle}
use Rattle.shape_graphs.specs.Paths.{HasCycle}
use Rattle.shape_graphs.specs.Separation.{IsSeparated, IsComplete}
use Rattle.shape_graphs.proofs.Laws.{has_choice_arc, one_arc, cycle_decided, not_before_least}
use Rattle.separation.proofs.Laws.{drawn_from_complete, side_in_drawing, solves_one_more}
use Rattle.potentials.proofs.Laws.{some_least_key, no_cycle_where_met, least_key_low}
use Rattle.gml_text.specs.declared.tree.Tree.{Tree}
use Rattle.drawing_read.specs.declared.reading.Reading.{Reading}
use Rattle.drawing_read.specs.Readings.{IsReading}
use Rattle.drawing_check.specs.Shapes.{IsShapeOf}
use Rattle.gml_print.specs.Places.{CanPut}
use Rattle.compact_main.proofs.BestOfSome.{IsLeastOfSome, NoneBefore, HasBest, best_of_fewer, best_of_both}
use Rattle.compact_main.proofs.DecidableFacts.{IsDecided}
use Rattle.compact_main.proofs.PairChoice.{pair_or_not}
use Rattle.compact_main.proofs.ReadShapes.{few_segments_sound, sound_shape}

abbrev last_choice : ℕ → ℕ → ℕ → Choice
last_choice s t side = record { s = s; t = t; side = side }

-- the choice at a place, and after it, where one more is added
still_there : (choices : List Choice) (s t side j : ℕ) → j < length choices → choice_at (with_choice choices s t side) j ≡ choice_at choices j
still_there choices s t side j within = get_or_append_left choices (last_choice s t side ∷ []) (last_choice 0 0 0) j within

there_at_last : (choices : List Choice) (s t side : ℕ) → choice_at (with_choice choices s t side) (length choices) ≡ last_choice s t side
there_at_last choices s t side = get_or-append_seam choices (last_choice s t side) [] (last_choice 0 0 0)

one_longer : (choices : List Choice) (s t side : ℕ) → length (with_choice choices s t side) ≡ length choices + 1
one_longer choices s t side = length-append choices (last_choice s t side ∷ [])

-- a side of the pair is chosen
abbrev IsChosen : List Choice → ℕ → ℕ → Type 0
IsChosen choices s t = (j : ℕ) × (j < length choices) × ((choice_at choices j).s ≡ s) × ((choice_at choices j).t ≡ t)

-- it is so with one more choice, and that of the last choice is
chosen_still : (choices : List Choice) (a b s t side : ℕ) → IsChosen choices a b → IsChosen (with_choice choices s t side) a b
chosen_still choices a b s t side (j, within, is_s, is_t) =
    let long = one_longer choices s t side in
    let same = still_there choices s t side j within in
    (j, omega (arith, long, within), ap (λ (c : Choice). c.s) same ∙ is_s, ap (λ (c : Choice). c.t) same ∙ is_t)

chosen_last : (choices : List Choice) (s t side : ℕ) → IsChosen (with_choice choices s t side) s t
chosen_last choices s t side =
    let long = one_longer choices s t side in
    let same = there_at_last choices s t side in
    (length choices, omega (arith, long), ap (λ (c : Choice). c.s) same, ap (λ (c : Choice). c.t) same)

module _ (shape : Shape) where
  -- choices that fit, and one more
  fit_still : (choices : List Choice) (s t side : ℕ) → Fit shape choices → IsPair shape s t → side < 4 →
      length choices < MOST_CHOICES → Fit shape (with_choice choices s t side)
  fit_still choices s t side fit pair low few =
      let long = one_longer choices s t side in
      record { few = omega (arith, long, few); each = λ j within. by_order j (omega (arith, long, within)) (cases_lt j (length choices)) }
    where
      by_order : (j : ℕ) → j ≤ length choices → (j < length choices) ⊎ (length choices ≤ j) → IsChoice shape (choice_at (with_choice choices s t side) j)
      by_order j most (inl before) = subst (λ (c : Choice). IsChoice shape c) (sym (still_there choices s t side j before)) (fit.each j before)
      by_order j most (inr after) =
          let at : length choices ≡ j = omega (arith, most, after) in
          let is : IsChoice shape (last_choice s t side) = record { pair = pair; side = low } in
          subst (λ (i : ℕ). IsChoice shape (choice_at (with_choice choices s t side) i)) at
          (subst (λ (c : Choice). IsChoice shape c) (sym (there_at_last choices s t side)) is)

  -- a pair that is chosen is kept apart by the arc of its side
  chosen_separated : (choices : List Choice) (s t : ℕ) → Fit shape choices → IsChosen choices s t → IsSeparated shape choices s t
  chosen_separated choices s t fit (j, within, is_s, is_t) =
      let choice = choice_at choices j in
      let side = choice.side in
      let found = has_choice_arc (side_axis side) shape choices j (record { inside = within; along = refl }) in
      let kept : IsSeparated shape choices choice.s choice.t =
      (side, (fit.each j within).side, one_arc (arcs_of (side_axis side) shape choices) _ _ found.0 found.1 (ap (λ arc. arc.from) found.2) (ap (λ arc. arc.to) found.2)) in
      subst (λ (b : ℕ). IsSeparated shape choices s b) is_t (subst (λ (a : ℕ). IsSeparated shape choices a choice.t) is_s kept)

-- what is chosen once the pairs of lines from t on are, and those of t from s on
abbrev AreChosenFrom : Shape → List Choice → ℕ → Type 0
AreChosenFrom shape choices t = (a b : ℕ) → IsPair shape a b → t ≤ b → IsChosen choices a b

abbrev AreChosenIn : Shape → List Choice → ℕ → ℕ → Type 0
AreChosenIn shape choices s t = (a : ℕ) → IsPair shape a t → s ≤ a → IsChosen choices a t

module _ (shape : Shape) (sound : IsSound shape) where
  abbrev Best : List Choice → Type 0
  Best choices = HasBest shape (λ places. Solves shape choices places)

  -- complete choices have a least key, or a cycle and no solution
  best_of_complete : (choices : List Choice) → Fit shape choices → IsComplete shape choices → Best choices
  best_of_complete choices fit complete = by (cycle_decided (arcs_of X shape choices)) (cycle_decided (arcs_of Y shape choices))
    where
      unsolved : (axis : Axis) → HasCycle (arcs_of axis shape choices) → Best choices
      unsolved axis cycle = inr (λ other drawing solves. no_cycle_where_met shape choices sound fit other solves axis cycle)

      solved : HaveNoCycle shape choices → Best choices
      solved none =
          let (key, least) = some_least_key shape choices sound fit none in
          inl (
            key,
            record { choices = choices; fit = fit; complete = complete; least = least },
            λ other drawing solves from_zero. not_before_least total_length shape choices key other least solves from_zero,
          )

      on_both : (HasCycle (arcs_of X shape choices) → ⊥) → (HasCycle (arcs_of Y shape choices) → ⊥) → HaveNoCycle shape choices
      on_both x y X = x
      on_both x y Y = y

      by : IsDecided (HasCycle (arcs_of X shape choices)) → IsDecided (HasCycle (arcs_of Y shape choices)) → Best choices
      by (inl cycle) y = unsolved X cycle
      by (inr x) (inl cycle) = unsolved Y cycle
      by (inr x) (inr y) = solved (on_both x y)

  -- a drawing that solves the choices takes one of the four sides of a pair
  best_of_sides : (choices : List Choice) (s t : ℕ) → IsPair shape s t → ((side : ℕ) → side < 4 → Best (with_choice choices s t side)) → Best choices
  best_of_sides choices s t pair each =
      best_of_fewer shape {P = λ places. (With 0 places ⊎ With 1 places) ⊎ (With 2 places ⊎ With 3 places)} {Q = λ places. Solves shape choices places}
      one_of_four
      (best_of_both shape (best_of_both shape (each 0 (omega arith)) (each 1 (omega arith))) (best_of_both shape (each 2 (omega arith)) (each 3 (omega arith))))
    where
      With : ℕ → Places → Type 0
      With side places = Solves shape (with_choice choices s t side) places

      by_side : (places : Places) (side : ℕ) → side < 4 → With side places → (With 0 places ⊎ With 1 places) ⊎ (With 2 places ⊎ With 3 places)
      by_side places zero low solves = inl (inl solves)
      by_side places (suc zero) low solves = inl (inr solves)
      by_side places (suc (suc zero)) low solves = inr (inl solves)
      by_side places (suc (suc (suc zero))) low solves = inr (inr solves)
      by_side places (suc (suc (suc (suc n)))) low solves = absurd (omega (arith, low))

      one_of_four : (places : Places) → IsDrawing shape places → Solves shape choices places → (With 0 places ⊎ With 1 places) ⊎ (With 2 places ⊎ With 3 places)
      one_of_four places drawing solves =
          let (side, low, holds) = side_in_drawing shape places s t drawing pair in
          by_side places side low (solves_one_more shape choices places s t side solves holds)

  -- the pairs of t and a segment below s, and then the rest
  module _ (t : ℕ) (rest : (choices : List Choice) → Fit shape choices → length choices + 1000 * t ≤ MOST_CHOICES → AreChosenFrom shape choices t → Best choices) where
    best_of_line : (s : ℕ) → s ≤ 1000 → (choices : List Choice) → Fit shape choices → length choices + s + 1000 * t ≤ MOST_CHOICES →
        AreChosenIn shape choices s t → AreChosenFrom shape choices (suc t) → Best choices
    best_of_line zero most choices fit few in_line above = rest choices fit (omega (arith, few)) all
      where
        by_order : (a b : ℕ) → IsPair shape a b → t ≤ b → (t < b) ⊎ (b ≤ t) → IsChosen choices a b
        by_order a b pair from (inl more) = above a b pair (omega (arith, more))
        by_order a b pair from (inr at) =
            let same : t ≡ b = omega (arith, from, at) in
            subst (λ (c : ℕ). IsChosen choices a c) same (in_line a (subst (λ (c : ℕ). IsPair shape a c) (sym same) pair) (omega arith))

        all : AreChosenFrom shape choices t
        all a b pair from = by_order a b pair from (cases_lt t b)
    best_of_line (suc s) most choices fit few in_line above = by (pair_or_not shape s t) (best_of_line s (omega (arith, most)))
      where
        not_at : (IsPair shape s t → ⊥) → (a : ℕ) → IsPair shape a t → (s < a) ⊎ (a ≤ s) → s ≤ a → IsChosen choices a t
        not_at none a pair (inl more) from = in_line a pair (omega (arith, more))
        not_at none a pair (inr at) from =
            let same : a ≡ s = omega (arith, at, from) in
            absurd (none (subst (λ (c : ℕ). IsPair shape c t) same pair))

        now_at : (side a : ℕ) → IsPair shape a t → (s < a) ⊎ (a ≤ s) → s ≤ a → IsChosen (with_choice choices s t side) a t
        now_at side a pair (inl more) from = chosen_still choices a t s t side (in_line a pair (omega (arith, more)))
        now_at side a pair (inr at) from =
            let same : s ≡ a = omega (arith, at, from) in
            subst (λ (c : ℕ). IsChosen (with_choice choices s t side) c t) same (chosen_last choices s t side)

        by : IsDecided (IsPair shape s t) →
            ((others : List Choice) → Fit shape others → length others + s + 1000 * t ≤ MOST_CHOICES →
            AreChosenIn shape others s t → AreChosenFrom shape others (suc t) → Best others) → Best choices
        by (inl pair) before = best_of_sides choices s t pair
            (λ side low. let long = one_longer choices s t side in before (with_choice choices s t side)
            (fit_still shape choices s t side fit pair low (omega (arith, few))) (omega (arith, long, few))
            (λ a is from. now_at side a is (cases_lt s a) from)
            (λ a b is from. chosen_still choices a b s t side (above a b is from)))
        by (inr none) before = before choices fit (omega (arith, few)) (λ a is from. not_at none a is (cases_lt s a) from) above

  -- the pairs of the segments below t
  best_of_lines : (t : ℕ) → t ≤ 1000 → (choices : List Choice) → Fit shape choices → length choices + 1000 * t ≤ MOST_CHOICES → AreChosenFrom shape choices t → Best choices
  best_of_lines zero most choices fit few all =
      best_of_complete choices fit (λ s t pair. chosen_separated shape choices s t fit (all s t pair (omega arith)))
  best_of_lines (suc t) most choices fit few all =
      best_of_line t (best_of_lines t (omega (arith, most))) t (omega (arith, most)) choices fit (omega (arith, few, most))
      (λ a pair from. let order = pair.in_order in absurd (omega (arith, order, from))) all

  fit_none : Fit shape []
  fit_none = record { few = omega arith; each = λ i none. absurd (omega (arith, none)) }

  -- a drawing solves the empty list of choices
  solves_none : (places : Places) → IsDrawing shape places → Solves shape [] places
  solves_none places drawing = record {
    places_fit = drawing.crossing_free.places_fit;
    ways = drawing.crossing_free.ways;
    sides = λ i none. absurd (omega (arith, none));
  }

  best_of_all : Best []
  best_of_all =
      let few = few_segments_sound shape sound in
      best_of_lines (segment_count shape) (omega (arith, few)) [] fit_none (omega (arith, few))
      (λ a b pair from. let inside = pair.in_shape in absurd (omega (arith, inside, from)))

  module _ (key : Key) (some : IsLeastOfSome shape key) where
    best_is : NoneBefore shape (λ places. Solves shape [] places) key → IsBest total_length shape key.places
    best_is first = record {
      drawing = drawn_from_complete shape some.choices key.places sound.drawable some.fit some.least.solves some.complete;
      from_zero = some.least.from_zero;
      none_before = λ other drawing from_zero before. first other drawing (solves_none other drawing) from_zero
          (subst (λ (k : Key). IsBefore (key_of total_length shape other) k)
          (same_key (key_of total_length shape key.places) key (sym some.least.worth) (λ i. key.places)) before);
    }

    least_within : AreWithin GREATEST_PLACE key.places
    least_within axis v inside =
        let fits = some.least.solves.places_fit in
        let few = sound.few_vertices in
        let low = least_key_low shape some.choices sound some.fit key some.least axis v (omega (arith, inside, fits)) in
        let from = low.0 in
        let most = low.1 in
        record { low = omega (arith, ints, from); high = omega (arith, ints, most, few) }

  best_and_low : (places : Places) × IsBest total_length shape places × AreWithin GREATEST_PLACE places
  best_and_low = by best_of_all
    where
      by : Best [] → (places : Places) × IsBest total_length shape places × AreWithin GREATEST_PLACE places
      by (inl (key, some, first)) = (key.places, best_is key some first, least_within key some)
      by (inr none) = absurd (none sound.drawable.0 sound.drawable.1 (solves_none sound.drawable.0 sound.drawable.1))

  -- the shape has best places
  pub some_best : (places : Places) × IsBest total_length shape places
  some_best = (best_and_low.0, best_and_low.1)

  -- and these can be written
  pub best_within : (places : Places) → IsBest total_length shape places → AreWithin GREATEST_PLACE places
  best_within places best =
      subst (λ (p : Places). AreWithin GREATEST_PLACE p) (one_best total_length shape best_and_low.0 places best_and_low.1 best) best_and_low.2

-- the best places can be written into the tree of their drawing
pub can_put : (tree : Tree) (reading : Reading) (shape : Shape) (places : Places) (pitch : ℕ) → IsReading tree reading →
    IsShapeOf reading.plan reading.places shape → IsBest total_length shape places → 1 ≤ pitch → pitch ≤ MOST_PITCH →
    CanPut tree reading places pitch
can_put tree reading shape places pitch read is best some most = record {
  read = read;
  one_for_each = best.drawing.crossing_free.places_fit ∙ ap (λ (p : Plan). p.vertices) is.same_plan;
  not_below = λ axis. (best.from_zero axis).none_below;
  within = best_within shape (sound_shape tree reading shape read is) places best;
  some_pitch = some;
  most_pitch = most;
}
