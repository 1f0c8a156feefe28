-- What a good entry says of the drawings of its choices.
use Rattle.std.proofs.Common.{◌≡◌, ℕ, List, length, ◌⊎◌, inl, inr, sym, ◌∙◌, subst, arith}
use Rattle.std.specs.Prelude.{◌≤ℤ◌}
use Rattle.std.proofs.lemmas.Int.{ints}
use Rattle.compact_types.specs.declared.places.Axis.{Axis}
use Rattle.compact_types.specs.declared.places.Key.{Key}
use Rattle.compact_types.specs.declared.places.Places.{Places}
use Rattle.compact_types.specs.declared.plan.Shape.{Shape}
use Rattle.compact_types.specs.declared.search.Choice.{Choice}
use Rattle.compact_types.specs.declared.search.Flows.{Flows}
use Rattle.compact_types.specs.Bests.{key_of}
use Rattle.compact_types.specs.Bests.Objective.{total_length}
use Rattle.compact_types.specs.Drawings.{IsFromZero}
use Rattle.compact_types.specs.Bests.{worth_of}
use Rattle.compact_types.specs.Orders.{IsBefore, IsListBefore, numbers_of}
use Rattle.compact_types.proofs.Laws.{before_or_equal, list_before_trans}
use Rattle.bars.specs.Solutions.{IsSound, Fit, Solves}
use Rattle.shape_graphs.specs.Backings.{AreBalanced, bound_by}
use Rattle.shape_graphs.specs.Graphs.{arcs_of}
use Rattle.shape_graphs.specs.Measures.{IsLeastKey}
use Rattle.shape_graphs.specs.Paths.{IsCycle}
use Rattle.shape_graphs.proofs.Laws.{cycle_is_one, no_cycle_where_solved, not_before_least}
use Rattle.potentials.specs.TightPlaces.{AreLeastTightPlaces}
use Rattle.potentials.proofs.Laws.{worth_above, tight_at_bound, bound_at_tight, some_least_key}
use Rattle.cert_text.specs.Accepting.{DoBound, NoneEarlier}

module _ (shape : Shape) (choices : List Choice) (sound : IsSound shape) (fit : Fit shape choices) where
  -- no places solve choices of which a graph has a cycle
  pub none_at_cycle : (axis : Axis) (walk : List ℕ) → IsCycle (arcs_of axis shape choices) walk →
      (drawn : Places) → Solves shape choices drawn → ⊥
  none_at_cycle axis walk cycle drawn solves =
      no_cycle_where_solved shape choices sound.drawable fit drawn solves axis
      (cycle_is_one (arcs_of axis shape choices) walk cycle)

  module _ (flows : Flows) (balanced : AreBalanced shape choices flows) where
    -- a least key that is worth the bound is that of the least places that are tight for the flows
    pub tight_from_least : (key : Key) → IsLeastKey total_length shape choices key →
        key.worth ≡ bound_by shape choices flows → AreLeastTightPlaces shape choices flows key.places
    tight_from_least key least same = record {
      tight = tight_at_bound shape choices sound fit flows balanced key.places least.solves (sym least.worth ∙ same);
      from_zero = least.from_zero;
      lowest = λ others also nowhere_negative.
          least.lowest others also.solves
          (bound_at_tight shape choices sound fit flows balanced others also.solves also ∙ sym same)
          nowhere_negative;
    }

    -- some least places are tight for flows whose bound is the worth of places that solve the choices
    some_tight : (drawn : Places) → Solves shape choices drawn →
        worth_of total_length shape drawn ≡ bound_by shape choices flows →
        (least : Key) × IsLeastKey total_length shape choices least × (least.worth ≡ bound_by shape choices flows)
    some_tight drawn solves same =
        let found = some_least_key shape choices sound fit (no_cycle_where_solved shape choices sound.drawable fit drawn solves) in
        let low = found.1.none_less drawn solves in
        let high = worth_above shape choices sound fit flows balanced found.0.places found.1.solves in
        let is = found.1.worth in
        (found.0, found.1, omega (arith, ints, low, high, is, same))

    -- no places from zero that solve the choices come before places that the flows bound
    pub none_at_bound : (places : Places) → length places.xy ≡ shape.plan.vertices → DoBound shape choices flows places →
        (drawn : Places) → Solves shape choices drawn → IsFromZero drawn →
        IsBefore (key_of total_length shape drawn) (key_of total_length shape places) → ⊥
    none_at_bound places fits bounds drawn solves from_zero before =
        by_bound bounds before
      where
        low : (bound_by shape choices flows) ≤ℤ (worth_of total_length shape drawn)
        low = worth_above shape choices sound fit flows balanced drawn solves

        by_lists : bound_by shape choices flows ≡ worth_of total_length shape places →
            NoneEarlier shape choices flows places →
            worth_of total_length shape drawn ≡ worth_of total_length shape places →
            IsListBefore (numbers_of drawn.xy) (numbers_of places.xy) → ⊥
        by_lists is not_before same list_before =
            let at_bound : worth_of total_length shape drawn ≡ bound_by shape choices flows = same ∙ sym is in
            let found = some_tight drawn solves at_bound in
            let key = found.0 in
            let tight = tight_from_least key found.1 found.2 in
            by_order key found.1 tight (before_or_equal key (key_of total_length shape drawn) (found.1.solves.places_fit ∙ sym solves.places_fit))
          where
            by_order : (key : Key) → IsLeastKey total_length shape choices key →
                AreLeastTightPlaces shape choices flows key.places →
                IsBefore key (key_of total_length shape drawn) ⊎ ((key ≡ key_of total_length shape drawn) ⊎ IsBefore (key_of total_length shape drawn) key) → ⊥
            by_order key least tight (inl (inl less)) =
                let above = worth_above shape choices sound fit flows balanced key.places least.solves in
                let key_is = least.worth in
                omega (arith, ints, above, less, key_is, is, same)
            by_order key least tight (inl (inr (worth, earlier))) =
                not_before key.places tight (list_before_trans _ (numbers_of drawn.xy) _ earlier list_before)
            by_order key least tight (inr (inl equal)) =
                not_before key.places tight
                (subst (λ (k : Key). IsListBefore (numbers_of k.places.xy) (numbers_of places.xy)) (sym equal) list_before)
            by_order key least tight (inr (inr after)) =
                not_before_least total_length shape choices key drawn least solves from_zero after

        by_bound : DoBound shape choices flows places →
            IsBefore (key_of total_length shape drawn) (key_of total_length shape places) → ⊥
        by_bound (inl above) (inl less) = omega (arith, ints, above, less, low)
        by_bound (inl above) (inr (same, earlier)) = omega (arith, ints, above, same, low)
        by_bound (inr (is, not_before)) (inl less) = omega (arith, ints, is, less, low)
        by_bound (inr (is, not_before)) (inr (same, earlier)) = by_lists is not_before same earlier
