-- Why the entry that closes a branch is right.
use Rattle.std.proofs.Common.{◌≡◌, ℕ, ◌<◌, ◌≤◌, List, [], length, ◌⊎◌, inl, inr, refl, ap, sym, ◌∙◌, subst, arith}
use Rattle.std.specs.Prelude.{◌≤ℤ◌, All}
use Rattle.std.proofs.lemmas.Int.{ints, by_lt_z}
use Rattle.std.proofs.lemmas.List.{get_or_default}
use Rattle.compact_types.specs.declared.places.Axis.{Axis}
use Rattle.compact_types.specs.declared.places.Axis.TheVariants.{X, Y}
use Rattle.compact_types.specs.declared.places.Key.{Key}
use Rattle.compact_types.specs.declared.places.Places.{Places}
use Rattle.compact_types.specs.declared.plan.Shape.{Shape}
use Rattle.compact_types.specs.declared.search.Choice.{Choice}
use Rattle.compact_types.specs.declared.search.Flows.{Flows}
use Rattle.compact_types.specs.Bests.{IsBest, key_of, worth_of}
use Rattle.compact_types.specs.Bests.Objective.{total_length}
use Rattle.compact_types.specs.Drawings.{IsDrawing}
use Rattle.compact_types.specs.Bests.{worth_of}
use Rattle.compact_types.specs.Moves.{moved}
use Rattle.compact_types.specs.Orders.{IsBefore, IsListBefore, numbers_of}
use Rattle.compact_types.proofs.Laws.{before_or_equal, drawing-moved, list_before_trans, list_not_before_itself, plain_length-moved, some_from_zero}
use Rattle.bars.specs.Solutions.{IsSound, Fit}
use Rattle.shape_graphs.specs.declared.measure.Verdict.{Verdict}
use Rattle.shape_graphs.specs.declared.measure.Verdict.TheVariants.{Cyclic, Above, Least}
use Rattle.shape_graphs.specs.Backings.{AreBalanced, DoBack, bound_by, flow_of}
use Rattle.shape_graphs.specs.Graphs.{arcs_of}
use Rattle.shape_graphs.specs.Measures.{IsLeastKey}
use Rattle.shape_graphs.specs.Paths.{IsCycle}
use Rattle.shape_graphs.proofs.Laws.{one_least}
use Rattle.potentials.specs.TightPlaces.{AreLeastTightPlaces}
use Rattle.potentials.proofs.Laws.{graph_of, least_from_tight}
use Rattle.board.specs.Facts.{IsDrawnKey}
use Rattle.board.specs.Verdicts.{IsSoundVerdict}
use Rattle.cert_text.specs.declared.trimming.TheConstants.{MOST_SPLITS}
use Rattle.cert_text.specs.Accepting.{DoBound, flows_of, opened_by}
use Rattle.cert_text.specs.Loads.{AreLoads, IsSmall}
use Rattle.cert_text.specs.inner.Outlines.{ComesFirst, HasFewAmounts, HasPointsOf, IsRightEntry, closing_of}
use Rattle.cert_text.specs.inner.Positives.{HaveFewAmounts}
use Rattle.cert_text.specs.Trims.{bound_entry, loads_from}
use Rattle.cert_text.proofs.LoadLemmas.{amounts_given, are_loads, on_arcs}

module _ (shape : Shape) (choices : List Choice) (sound : IsSound shape) (fit : Fit shape choices) where
  module _ (flows : Flows) (balanced : AreBalanced shape choices flows) where
    -- flows on the graphs have few amounts
    pub few_amounts : HaveFewAmounts flows
    few_amounts = record {
      x = (let few = (graph_of shape choices sound fit X).few in let long = (balanced X).amounts.one_for_each in omega (arith, few, long));
      y = (let few = (graph_of shape choices sound fit Y).few in let long = (balanced Y).amounts.one_for_each in omega (arith, few, long));
    }

    loads_along : (axis : Axis) → AreLoads (loads_from 0 (flow_of axis flows).amounts)
    loads_along axis =
        let long = (balanced axis).amounts.one_for_each in
        let few = (graph_of shape choices sound fit axis).few in
        are_loads (flow_of axis flows).amounts (omega (arith, few, long))
        (λ i inside. (balanced axis).amounts.most i (omega (arith, inside, long)))

    -- the loads of the flows are those of the flows
    flows_given : flows_of shape choices (loads_from 0 flows.x.amounts) (loads_from 0 flows.y.amounts) ≡ flows
    flows_given =
        let x = amounts_given (arcs_of X shape choices) flows.x.amounts (balanced X).amounts.one_for_each in
        let y = amounts_given (arcs_of Y shape choices) flows.y.amounts (balanced Y).amounts.one_for_each in
        λ i. record { x = record { amounts = x i }; y = record { amounts = y i } }

    -- flows that bound make a right entry
    pub bound_right : (places : Places) → DoBound shape choices flows places → length choices ≤ MOST_SPLITS →
        IsRightEntry shape choices places (bound_entry flows)
    bound_right places bounds few = record {
      good = record {
        x_arcs = on_arcs (arcs_of X shape choices) flows.x.amounts (balanced X).amounts.one_for_each;
        y_arcs = on_arcs (arcs_of Y shape choices) flows.y.amounts (balanced Y).amounts.one_for_each;
        balanced = subst (λ (f : Flows). AreBalanced shape choices f) (sym flows_given) balanced;
        bounds = subst (λ (f : Flows). DoBound shape choices f places) (sym flows_given) bounds;
      };
      in_range = (loads_along X, loads_along Y);
      few = few;
    }

    -- flows of a least key that does not come before the answer bound
    pub bounds_at_least : (key best : Key) → IsLeastKey total_length shape choices key → bound_by shape choices flows ≡ key.worth →
        best.worth ≡ worth_of total_length shape best.places → length best.places.xy ≡ shape.plan.vertices →
        (IsBefore key best → ⊥) → DoBound shape choices flows best.places
    bounds_at_least key best least is worth fits late =
        by_order (before_or_equal key best (least.solves.places_fit ∙ sym fits))
      where
        -- the least tight places are those of the key
        tight_are : (tight : Places) → AreLeastTightPlaces shape choices flows tight → key_of total_length shape tight ≡ key
        tight_are tight at = one_least total_length shape choices (key_of total_length shape tight) key
            (least_from_tight shape choices sound fit flows balanced tight at) least

        -- so that their list is not before one that is not behind the key's
        lists : ((IsListBefore (numbers_of key.places.xy) (numbers_of best.places.xy)) → ⊥) → (tight : Places) →
            AreLeastTightPlaces shape choices flows tight → IsListBefore (numbers_of tight.xy) (numbers_of best.places.xy) → ⊥
        lists none tight at before =
            none (subst (λ (k : Key). IsListBefore (numbers_of k.places.xy) (numbers_of best.places.xy)) (tight_are tight at) before)

        by_order : IsBefore key best ⊎ ((key ≡ best) ⊎ IsBefore best key) → DoBound shape choices flows best.places
        by_order (inl before) = absurd (late before)
        by_order (inr (inl same)) =
            inr (
              is ∙ ap (λ (k : Key). k.worth) same ∙ worth,
              lists (λ before. list_not_before_itself (numbers_of best.places.xy)
                  (subst (λ (k : Key). IsListBefore (numbers_of k.places.xy) (numbers_of best.places.xy)) same before)),
            )
        by_order (inr (inr (inl less))) = inl (omega (arith, ints, less, is, worth))
        by_order (inr (inr (inr (same, behind)))) =
            inr (
              is ∙ sym same ∙ worth,
              lists (λ before. list_not_before_itself (numbers_of best.places.xy)
                  (list_before_trans (numbers_of best.places.xy) (numbers_of key.places.xy) (numbers_of best.places.xy) behind before)),
            )

-- no drawing is worth less than the best one, wherever it stands
best_is_least : (shape : Shape) (best : Places) → 0 < shape.plan.vertices → IsBest total_length shape best → (drawn : Places) → IsDrawing shape drawn →
    (worth_of total_length shape best) ≤ℤ (worth_of total_length shape drawn)
best_is_least shape best some is drawn drawing =
    let fits = drawing.crossing_free.places_fit in
    let shift = some_from_zero drawn (omega (arith, fits, some)) in
    let same = plain_length-moved shape.plan drawn shift.0 shift.1 fits in
    by_lt_z (worth_of total_length shape drawn) (worth_of total_length shape best)
    (λ less. absurd (is.none_before (moved shift.0 shift.1 drawn) (drawing-moved shape drawn shift.0 shift.1 drawing) shift.2
    (inl (omega (arith, ints, less, same)))))
    (λ not_less. not_less)

module _ (shape : Shape) (choices : List Choice) (sound : IsSound shape) (fit : Fit shape choices) where
  -- the flows of a sound verdict have few amounts
  pub verdict_few : (verdict : Verdict Flows) → IsSoundVerdict total_length DoBack shape choices verdict → HasFewAmounts verdict
  verdict_few (Cyclic axis cycle) right = tt
  verdict_few (Above bound stop proof) right = few_amounts shape choices sound fit proof right.backed.balanced
  verdict_few (Least key proof) right = few_amounts shape choices sound fit proof right.backed.balanced

  -- its key has a point for each vertex
  pub verdict_points : (best : Key) → length best.places.xy ≡ shape.plan.vertices → (verdict : Verdict Flows) →
      IsSoundVerdict total_length DoBack shape choices verdict → HasPointsOf best verdict
  verdict_points best fits (Cyclic axis cycle) right = tt
  verdict_points best fits (Above bound stop proof) right = tt
  verdict_points best fits (Least key proof) right = right.right.least.solves.places_fit ∙ sym fits

  -- the numbers of a cycle are within the limits
  small_arcs : (axis : Axis) (walk : List ℕ) → IsCycle (arcs_of axis shape choices) walk → All IsSmall walk
  small_arcs axis walk cycle k d inside =
      let few = (graph_of shape choices sound fit axis).few in
      let here = cycle.in_graph k inside in
      let is = get_or_default walk k d 0 inside in
      omega (arith, few, here, is)

  -- the closing entry of a sound verdict without a key before the best one is right
  pub closing_right : (best : Key) → IsDrawnKey total_length shape best → IsBest total_length shape best.places → length choices ≤ MOST_SPLITS →
      (verdict : Verdict Flows) → IsSoundVerdict total_length DoBack shape choices verdict → (ComesFirst best verdict → ⊥) →
      IsRightEntry shape choices best.places (closing_of verdict)
  closing_right best drawn is few (Cyclic axis cycle) right late =
      record { good = right.right.cycle; in_range = small_arcs axis cycle.arcs right.right.cycle; few = few }
  closing_right best drawn is few (Above bound stop proof) right late =
      let low = best_is_least shape best.places sound.some_vertex is right.attained.0 right.attained.1 in
      let stop_is = right.attained.2 in
      let above = right.right.above in
      let sum = right.backed.sum in
      bound_right shape choices sound fit proof right.backed.balanced best.places
      (inl (omega (arith, ints, low, stop_is, above, sum))) few
  closing_right best drawn is few (Least key proof) right late =
      bound_right shape choices sound fit proof right.backed.balanced best.places
      (bounds_at_least shape choices sound fit proof right.backed.balanced key best right.right.least right.backed.sum
      drawn.worth drawn.drawing.crossing_free.places_fit late) few

-- it opens no branch
pub closing_opens : (verdict : Verdict Flows) (choices : List Choice) → opened_by (closing_of verdict) choices ≡ []
closing_opens (Cyclic axis cycle) choices = refl
closing_opens (Above bound stop proof) choices = refl
closing_opens (Least key proof) choices = refl
