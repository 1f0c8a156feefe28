-- Every drawing that may still improve the incumbent stays in an open branch.
use Rattle.std.proofs.Common.{◌≡◌, ℕ, zero, suc, ◌+◌, ◌-◌, ◌<◌, ◌≤◌, ℤ, List, [], length, slice_index_or, ◌⊎◌, inl, inr, refl, ap, sym, ◌∙◌, subst, arith}
use Rattle.std.proofs.lemmas.Bool.{cases_eq}
use Rattle.std.proofs.lemmas.Int.{ints}
use Rattle.compact_types.specs.declared.places.Axis.{Axis}
use Rattle.compact_types.specs.declared.places.Key.{Key}
use Rattle.compact_types.specs.declared.places.Places.{Places}
use Rattle.compact_types.specs.declared.plan.Shape.{Shape}
use Rattle.compact_types.specs.declared.search.Choice.{Choice}
use Rattle.compact_types.specs.Bests.{Objective, IsAttained, worth_of, key_of}
use Rattle.compact_types.specs.Drawings.{IsDrawing, IsFromZero}
use Rattle.compact_types.specs.Orders.{IsBefore}
use Rattle.compact_types.proofs.Laws.{before_or_equal, before_trans}
use Rattle.bars.specs.Segments.{IsPair}
use Rattle.bars.specs.Sides.{SideHolds}
use Rattle.bars.specs.Solutions.{HasDrawing, Fit, Solves, with_choice}
use Rattle.shape_graphs.specs.Graphs.{arcs_of}
use Rattle.shape_graphs.specs.Measures.{IsBoundAbove, IsFirstCyclic, IsLeastKey}
use Rattle.shape_graphs.proofs.Laws.{cycle_is_one, no_cycle_where_solved, not_before_least}
use Rattle.separation.proofs.Laws.{side_in_drawing, solves_one_more}
use Rattle.board.specs.declared.entries.Entry.TheVariants as entries
use Rattle.board.specs.declared.entries.Settled.{Settled}
use Rattle.board.specs.declared.entries.Settled.TheVariants as settled
use Rattle.board.specs.declared.standings.Standing.TheVariants.{Waiting, Done}
use Rattle.board.specs.Facts.{AreInOpenBranch, IsCovered, IsDrawnKey, IsNotUndercut}
use Rattle.board.specs.Histories.{State, after, branch_count, children_of, choices_of, four_waiting, is_open}
use Rattle.board.proofs.AfterLemmas.{claimed_other, claimed_same, choices_before, choices_behind, open_below, standing_behind, standing_other, waiting_open}

-- the child of a side, and that it waits
pub child_is : (parent : List Choice) (s t side : ℕ) → side < 4 →
    slice_index_or (children_of parent s t) side [] ≡ with_choice parent s t side
child_is parent s t zero below = refl
child_is parent s t (suc zero) below = refl
child_is parent s t (suc (suc zero)) below = refl
child_is parent s t (suc (suc (suc zero))) below = refl
child_is parent s t (suc (suc (suc (suc side)))) below = absurd (omega (arith, below))

pub child_waits : (side : ℕ) → side < 4 → slice_index_or four_waiting side (Done settled.Closed) ≡ Waiting
child_waits zero below = refl
child_waits (suc zero) below = refl
child_waits (suc (suc zero)) below = refl
child_waits (suc (suc (suc zero))) below = refl
child_waits (suc (suc (suc (suc side)))) below = absurd (omega (arith, below))

-- a cycle leaves a branch without any solution
pub none_where_cyclic : (shape : Shape) (choices : List Choice) (axis : Axis) (walk : List ℕ) → HasDrawing shape → Fit shape choices →
    IsFirstCyclic shape choices axis walk → (places : Places) → Solves shape choices places → ⊥
none_where_cyclic shape choices axis walk drawing fit first places solves =
    no_cycle_where_solved shape choices drawing fit places solves axis (cycle_is_one (arcs_of axis shape choices) walk first.cycle)

module _ (objective : Objective) (shape : Shape) where
  -- a bound above an attained worth leaves a branch without a drawing that no drawing undercuts
  pub none_above : (choices : List Choice) (bound stop : ℤ) → IsBoundAbove objective shape choices bound stop → IsAttained objective shape stop →
      (places : Places) → IsNotUndercut objective shape (worth_of objective shape places) → Solves shape choices places → ⊥
  none_above choices bound stop right attained places least solves =
      let high = right.none_less places solves in
      let low = least attained.0 attained.1 in
      let is = attained.2 in
      let above = right.above in
      omega (arith, ints, high, low, is, above)

  -- a least key that does not come before the incumbent leaves a branch without a drawing that does
  pub none_before : (choices : List Choice) (key incumbent : Key) → IsLeastKey objective shape choices key → IsDrawnKey objective shape incumbent →
      (IsBefore key incumbent → ⊥) → (places : Places) → IsFromZero places → IsBefore (key_of objective shape places) incumbent →
      Solves shape choices places → ⊥
  none_before choices key incumbent least drawn not_before places from_zero comes solves =
      by_order (before_or_equal key incumbent (least.solves.places_fit ∙ sym drawn.drawing.crossing_free.places_fit))
    where
      by_order : IsBefore key incumbent ⊎ ((key ≡ incumbent) ⊎ IsBefore incumbent key) → ⊥
      by_order (inl before) = not_before before
      by_order (inr (inl same)) =
          not_before_least objective shape choices key places least solves from_zero
          (subst (λ (l : Key). IsBefore (key_of objective shape places) l) (sym same) comes)
      by_order (inr (inr behind)) =
          not_before_least objective shape choices key places least solves from_zero
          (before_trans (key_of objective shape places) incumbent key comes behind)

  module _ (state : State) (who id : ℕ) (below : id < branch_count state) where
    -- a claim leaves every drawing where it is
    pub covered_claimed : (incumbent : Key) → IsCovered objective shape state incumbent →
        IsCovered objective shape (after state (entries.Claimed who id)) incumbent
    covered_claimed incumbent covered places drawing from_zero comes least = by_branch (covered places drawing from_zero comes least)
      where
        by_branch : AreInOpenBranch shape state places → AreInOpenBranch shape (after state (entries.Claimed who id)) places
        by_branch in_open = by_case (cases_eq in_open.id id)
          where
            by_case : (in_open.id ≡ id) ⊎ (in_open.id ≡ id → ⊥) → AreInOpenBranch shape (after state (entries.Claimed who id)) places
            by_case (inl is) = record {
              id = id;
              open_branch = ap is_open (claimed_same state who id below);
              solves = subst (λ (j : ℕ). Solves shape (choices_of state j) places) is in_open.solves;
            }
            by_case (inr other) = record {
              id = in_open.id;
              open_branch = ap is_open (claimed_other state who id below in_open.id other) ∙ in_open.open_branch;
              solves = in_open.solves;
            }

    module _ (same : length state.choices ≡ branch_count state) (what : Settled) where
      -- every drawing of the settled branch that may still improve the incumbent is in an open branch
      abbrev pub IsHandled : Key → Type 0
      IsHandled incumbent =
          (places : Places) → IsDrawing shape places → IsFromZero places → IsBefore (key_of objective shape places) incumbent →
          IsNotUndercut objective shape (worth_of objective shape places) → Solves shape (choices_of state id) places →
          AreInOpenBranch shape (after state (entries.Settled who id what)) places

      pub covered_settled : (before now : Key) → IsCovered objective shape state before →
          ((key : Key) → IsBefore key now → IsBefore key before) → IsHandled now →
          IsCovered objective shape (after state (entries.Settled who id what)) now
      covered_settled before now covered fewer handled places drawing from_zero comes least =
          by_branch (covered places drawing from_zero (fewer (key_of objective shape places) comes) least)
        where
          by_branch : AreInOpenBranch shape state places → AreInOpenBranch shape (after state (entries.Settled who id what)) places
          by_branch in_open = by_case (cases_eq in_open.id id)
            where
              by_case : (in_open.id ≡ id) ⊎ (in_open.id ≡ id → ⊥) → AreInOpenBranch shape (after state (entries.Settled who id what)) places
              by_case (inl is) =
                  handled places drawing from_zero comes least (subst (λ (j : ℕ). Solves shape (choices_of state j) places) is in_open.solves)
              by_case (inr other) =
                  let inside = open_below state in_open.id in_open.open_branch in
                  record {
                    id = in_open.id;
                    open_branch = ap is_open (standing_other state same who id what below in_open.id inside other) ∙ in_open.open_branch;
                    solves = subst (λ (l : List Choice). Solves shape l places) (sym (choices_before state same who id what below in_open.id inside)) in_open.solves;
                  }

    -- a drawing of a branch that was split is in one of the four children
    pub in_child : (same : length state.choices ≡ branch_count state) (first s t : ℕ) → IsPair shape s t → (places : Places) → IsDrawing shape places →
        Solves shape (choices_of state id) places → AreInOpenBranch shape (after state (entries.Settled who id (settled.Split first s t))) places
    in_child same first s t pair places drawing solves = by_side (side_in_drawing shape places s t drawing pair)
      where
        by_side : (side : ℕ) × (side < 4) × SideHolds shape places s t side → AreInOpenBranch shape (after state (entries.Settled who id (settled.Split first s t))) places
        by_side (side, few, holds) =
            let what = settled.Split first s t in
            let past : branch_count state ≤ branch_count state + side = omega arith in
            let left : (branch_count state + side) - branch_count state ≡ side = omega arith in
            let choices : choices_of (after state (entries.Settled who id what)) (branch_count state + side) ≡ with_choice (choices_of state id) s t side =
            choices_behind state same who id what below (branch_count state + side) past
            ∙ ap (λ (k : ℕ). slice_index_or (children_of (choices_of state id) s t) k []) left ∙ child_is (choices_of state id) s t side few in
            record {
              id = branch_count state + side;
              open_branch = waiting_open (after state (entries.Settled who id what)) (branch_count state + side)
                  (standing_behind state same who id what below (branch_count state + side) past
                  ∙ ap (λ (k : ℕ). slice_index_or four_waiting k (Done settled.Closed)) left ∙ child_waits side few);
              solves = subst (λ (l : List Choice). Solves shape l places) (sym choices)
                  (solves_one_more shape (choices_of state id) places s t side solves holds);
            }
