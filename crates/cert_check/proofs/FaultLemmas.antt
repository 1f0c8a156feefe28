-- A certificate has at most one first fault, and none where it is accepted.
use Rattle.std.proofs.Common.{◌≡◌, ℕ, zero, suc, ◌<◌, ◌≤◌, ℤ, List, [], ◌∷◌, ◌++◌, length, Some, None, ◌⊎◌, inl, inr, refl, sym, ap, ◌∙◌, arith, slice_index}
use Rattle.std.specs.Prelude.{◌<ℤ◌}
use Rattle.std.proofs.lemmas.Int.{ints}
use Rattle.std.proofs.lemmas.Bool.{cases_lt}
use Rattle.std.proofs.lemmas.List.{ext_get_or}
use Rattle.std.proofs.lemmas.List.Elements.{All-get_or}
use Rattle.compact_types.specs.declared.places.Axis.{Axis}
use Rattle.compact_types.specs.declared.places.Axis.TheVariants.{X, Y}
use Rattle.compact_types.specs.declared.places.Places.{Places}
use Rattle.compact_types.specs.declared.plan.Shape.{Shape}
use Rattle.compact_types.specs.declared.search.Choice.{Choice}
use Rattle.compact_types.specs.declared.search.Flows.{Flows}
use Rattle.compact_types.specs.Bests.{worth_of}
use Rattle.compact_types.specs.Bests.Objective.{total_length}
use Rattle.compact_types.specs.Lookups.{origin, place}
use Rattle.compact_types.proofs.Laws.{same_point}
use Rattle.shape_graphs.specs.declared.graph.Arc.{Arc}
use Rattle.shape_graphs.specs.Backings.{AreBalanced, IsBalanced, bound_by}
use Rattle.shape_graphs.specs.Graphs.{arcs_of}
use Rattle.shape_graphs.specs.Paths.{IsCycle, step_arc}
use Rattle.diff_flow.specs.Amounts.{IsFirstUnbalanced}
use Rattle.potentials.specs.TightPlaces.{AreLeastTightPlaces}
use Rattle.cert_text.specs.declared.tree.CertNode.{CertNode}
use Rattle.cert_text.specs.declared.tree.CertNode.TheVariants.{Split, Bound, Cycle}
use Rattle.cert_text.specs.declared.tree.Load.{Load}
use Rattle.cert_text.specs.Accepting.{AreGood, AreOnArcs, DoBound, IsGoodBound, IsGoodEntry, flows_of, opened_by}
use Rattle.cert_text.specs.Loads.{load_at}
use Rattle.cert_check.specs.declared.fault.CheckFault.{CheckFault}
use Rattle.cert_check.specs.declared.fault.CheckFault.TheVariants.{Unbalanced, WeakBound, NotACycle, NoArc}
use Rattle.cert_check.specs.Faults.{IsBoundFault, IsBrokenAt, IsEarlierAt, IsEntryFault, IsFirstBreak, IsFirstIn, IsFirstOffArcs, IsUnbalancedAt, place_before}
use Rattle.cert_check.specs.Faults.IsBoundFault.{no_x_arc, no_y_arc, x_unbalanced, y_unbalanced, too_low, too_late}

-- at most one fault is so
abbrev pub IsOnly : (CheckFault → Type 0) → Type 0
IsOnly P = (a b : CheckFault) → P a → P b → a ≡ b

-- the fault of one stage, or that of a later one where this stage is passed
abbrev pub IsOfStage : (CheckFault → Type 0) → Type 0 → (CheckFault → Type 0) → CheckFault → Type 0
IsOfStage P Passed Q fault = P fault ⊎ (Passed × Q fault)

module _ (P : CheckFault → Type 0) (Passed : Type 0) (Q : CheckFault → Type 0) (never : (fault : CheckFault) → P fault → Passed → ⊥) where
  pub only_of_stage : IsOnly P → IsOnly Q → IsOnly (IsOfStage P Passed Q)
  only_of_stage here later a b (inl of_a) (inl of_b) = here a b of_a of_b
  only_of_stage here later a b (inl of_a) (inr of_b) = absurd (never a of_a of_b.0)
  only_of_stage here later a b (inr of_a) (inl of_b) = absurd (never b of_b of_a.0)
  only_of_stage here later a b (inr of_a) (inr of_b) = later a b of_a.1 of_b.1

  pub none_of_stage : Passed → ((fault : CheckFault) → Q fault → ⊥) → (fault : CheckFault) → IsOfStage P Passed Q fault → ⊥
  none_of_stage passed none fault (inl here) = never fault here passed
  none_of_stage passed none fault (inr later) = none fault later.1

-- the first load off the arcs
pub one_off : (arcs : List Arc) (loads : List Load) (a b : ℕ) → IsFirstOffArcs arcs loads a → IsFirstOffArcs arcs loads b → a ≡ b
one_off arcs loads a b of_a of_b = by_order (cases_lt of_a.place of_b.place) (cases_lt of_b.place of_a.place)
  where
    by_order : (of_a.place < of_b.place) ⊎ (of_b.place ≤ of_a.place) → (of_b.place < of_a.place) ⊎ (of_a.place ≤ of_b.place) → a ≡ b
    by_order (inl less) other =
        let there = of_b.first of_a.place less in
        let is = of_a.is in
        absurd (of_a.missing (omega (arith, there, is)))
    by_order (inr most) (inl less) =
        let there = of_a.first of_b.place less in
        let is = of_b.is in
        absurd (of_b.missing (omega (arith, there, is)))
    by_order (inr most) (inr least) =
        let same : of_a.place ≡ of_b.place = omega (arith, most, least) in
        sym of_a.is ∙ ap (λ (p : ℕ). (load_at loads p).arc) same ∙ of_b.is

pub none_off : (arcs : List Arc) (loads : List Load) (arc : ℕ) → IsFirstOffArcs arcs loads arc → AreOnArcs arcs loads → ⊥
none_off arcs loads arc off on =
    let there : (load_at loads off.place).arc < length arcs = All-get_or (λ (load : Load). load.arc < length arcs) loads off.place _ off.inside on in
    let is = off.is in
    off.missing (omega (arith, there, is))

-- the first node that does not balance
pub one_unbalanced : (nodes : ℕ) (arcs : List Arc) (amounts : List ℕ) (a b : ℕ) → IsFirstUnbalanced nodes arcs amounts a →
    IsFirstUnbalanced nodes arcs amounts b → a ≡ b
one_unbalanced nodes arcs amounts a b of_a of_b = by_order (cases_lt a b) (cases_lt b a)
  where
    by_order : (a < b) ⊎ (b ≤ a) → (b < a) ⊎ (a ≤ b) → a ≡ b
    by_order (inl less) other = absurd (of_a.unbalanced (of_b.first a less))
    by_order (inr most) (inl less) = absurd (of_b.unbalanced (of_a.first b less))
    by_order (inr most) (inr least) = omega (arith, most, least)

-- the least tight places are one list
pub one_least : (shape : Shape) (choices : List Choice) (flows : Flows) (a b : Places) → AreLeastTightPlaces shape choices flows a →
    AreLeastTightPlaces shape choices flows b → a.xy ≡ b.xy
one_least shape choices flows a b of_a of_b =
    let fits : length a.xy ≡ length b.xy = of_a.tight.solves.places_fit ∙ sym of_b.tight.solves.places_fit in
    let below = of_a.lowest b of_b.tight (λ axis v inside. (of_b.from_zero axis).none_below v inside) in
    let above = of_b.lowest a of_a.tight (λ axis v inside. (of_a.from_zero axis).none_below v inside) in
    ext_get_or origin a.xy b.xy fits (λ v inside. (
    let there : v < length b.xy = omega (arith, inside, fits) in
    let low_x = below X v inside in
    let high_x = above X v there in
    let low_y = below Y v inside in
    let high_y = above Y v there in
    same_point (place a.xy v) (place b.xy v) (omega (arith, ints, low_x, high_x)) (omega (arith, ints, low_y, high_y))))

-- the first vertex at which they differ
pub one_earlier : (shape : Shape) (choices : List Choice) (flows : Flows) (places : Places) (a b : ℕ) →
    IsEarlierAt shape choices flows places a → IsEarlierAt shape choices flows places b → a ≡ b
one_earlier shape choices flows places a b of_a of_b = by_order (cases_lt a b) (cases_lt b a)
  where
    same : of_a.least.xy ≡ of_b.least.xy
    same = one_least shape choices flows of_a.least of_b.least of_a.tight of_b.tight

    by_order : (a < b) ⊎ (b ≤ a) → (b < a) ⊎ (a ≤ b) → a ≡ b
    by_order (inl less) other =
        absurd (of_a.differ.differs (ap (λ (l : _). place l a) same ∙ of_b.differ.same_before a less))
    by_order (inr most) (inl less) =
        absurd (of_b.differ.differs (ap (λ (l : _). place l b) (sym same) ∙ of_a.differ.same_before b less))
    by_order (inr most) (inr least) = omega (arith, most, least)

-- a bound has at most one first fault, and none where it is good
module _ (shape : Shape) (choices : List Choice) (places : Places) (entry : ℕ) (x y : List Load) where
  abbrev flows : Flows
  flows = flows_of shape choices x y

  abbrev bound : ℤ
  bound = bound_by shape choices flows

  abbrev IsOff : Axis → List Load → CheckFault → Type 0
  IsOff axis loads fault = (arc : ℕ) × IsFirstOffArcs (arcs_of axis shape choices) loads arc × (fault ≡ NoArc entry axis arc)

  abbrev IsLoose : Axis → CheckFault → Type 0
  IsLoose axis fault = (node : ℕ) × IsUnbalancedAt axis shape choices flows node × (fault ≡ Unbalanced entry axis node)

  abbrev IsLow : CheckFault → Type 0
  IsLow fault = (bound <ℤ worth_of total_length shape places) × (fault ≡ WeakBound entry bound None)

  abbrev IsLate : CheckFault → Type 0
  IsLate fault = (vertex : ℕ) × IsEarlierAt shape choices flows places vertex × (fault ≡ WeakBound entry bound (Some vertex))

  abbrev FromBound : CheckFault → Type 0
  FromBound = IsOfStage IsLow (bound ≡ worth_of total_length shape places) IsLate

  abbrev FromRows : CheckFault → Type 0
  FromRows = IsOfStage (IsLoose Y) (AreBalanced shape choices flows) FromBound

  abbrev FromColumns : CheckFault → Type 0
  FromColumns = IsOfStage (IsLoose X) (IsBalanced X shape choices flows.x) FromRows

  abbrev FromY : CheckFault → Type 0
  FromY = IsOfStage (IsOff Y y) (AreOnArcs (arcs_of Y shape choices) y) FromColumns

  abbrev FromX : CheckFault → Type 0
  FromX = IsOfStage (IsOff X x) (AreOnArcs (arcs_of X shape choices) x) FromY

  by_stages : (fault : CheckFault) → IsBoundFault shape choices places entry x y fault → FromX fault
  by_stages _ (no_x_arc arc off) = inl (arc, off, refl)
  by_stages _ (no_y_arc arc on off) = inr (on, inl (arc, off, refl))
  by_stages _ (x_unbalanced node on off) = inr (on.x_arcs, inr (on.y_arcs, inl (node, off, refl)))
  by_stages _ (y_unbalanced node on balanced off) = inr (on.x_arcs, inr (on.y_arcs, inr (balanced, inl (node, off, refl))))
  by_stages _ (too_low on balanced low) = inr (on.x_arcs, inr (on.y_arcs, inr (balanced X, inr (balanced, inl (low, refl)))))
  by_stages _ (too_late vertex on balanced same late) =
      inr (on.x_arcs, inr (on.y_arcs, inr (balanced X, inr (balanced, inr (same, (vertex, late, refl))))))

  only_off : (axis : Axis) (loads : List Load) → IsOnly (IsOff axis loads)
  only_off axis loads a b of_a of_b =
      of_a.2 ∙ ap (λ (arc : ℕ). NoArc entry axis arc) (one_off (arcs_of axis shape choices) loads of_a.0 of_b.0 of_a.1 of_b.1) ∙ sym of_b.2

  never_off : (axis : Axis) (loads : List Load) (fault : CheckFault) → IsOff axis loads fault → AreOnArcs (arcs_of axis shape choices) loads → ⊥
  never_off axis loads fault off on = none_off (arcs_of axis shape choices) loads off.0 off.1 on

  only_loose : (axis : Axis) → IsOnly (IsLoose axis)
  only_loose axis a b of_a of_b = of_a.2 ∙ ap (λ (node : ℕ). Unbalanced entry axis node) (one_unbalanced _ _ _ of_a.0 of_b.0 of_a.1 of_b.1) ∙ sym of_b.2

  never_x : (fault : CheckFault) → IsLoose X fault → IsBalanced X shape choices flows.x → ⊥
  never_x fault loose balanced = loose.1.unbalanced (balanced.balances.each loose.0 loose.1.inside)

  never_y : (fault : CheckFault) → IsLoose Y fault → AreBalanced shape choices flows → ⊥
  never_y fault loose balanced = loose.1.unbalanced ((balanced Y).balances.each loose.0 loose.1.inside)

  never_low : (fault : CheckFault) → IsLow fault → bound ≡ worth_of total_length shape places → ⊥
  never_low fault low same = let less = low.0 in omega (arith, ints, less, same)

  only_late : IsOnly IsLate
  only_late a b of_a of_b =
      of_a.2 ∙ ap (λ (vertex : ℕ). WeakBound entry bound (Some vertex)) (one_earlier shape choices flows places of_a.0 of_b.0 of_a.1 of_b.1) ∙ sym of_b.2

  pub only_bound_fault : IsOnly (IsBoundFault shape choices places entry x y)
  only_bound_fault a b of_a of_b =
      only_of_stage (IsOff X x) _ FromY (never_off X x) (only_off X x)
      (only_of_stage (IsOff Y y) _ FromColumns (never_off Y y) (only_off Y y)
      (only_of_stage (IsLoose X) _ FromRows never_x (only_loose X)
      (only_of_stage (IsLoose Y) _ FromBound never_y (only_loose Y)
      (only_of_stage IsLow _ IsLate never_low (λ c d of_c of_d. of_c.1 ∙ sym of_d.1) only_late))))
      a b (by_stages a of_a) (by_stages b of_b)

  strong : DoBound shape choices flows places → (fault : CheckFault) → FromBound fault → ⊥
  strong (inl above) fault (inl low) = let less = low.0 in omega (arith, ints, above, less)
  strong (inl above) fault (inr late) = let same = late.0 in omega (arith, ints, above, same)
  strong (inr at) fault (inl low) = never_low fault low at.0
  strong (inr at) fault (inr late) = at.1 late.1.1.least late.1.1.tight late.1.1.before

  pub no_bound_fault : IsGoodBound shape choices places x y → (fault : CheckFault) → IsBoundFault shape choices places entry x y fault → ⊥
  no_bound_fault good fault wrong =
      none_of_stage (IsOff X x) _ FromY (never_off X x) good.x_arcs
      (none_of_stage (IsOff Y y) _ FromColumns (never_off Y y) good.y_arcs
      (none_of_stage (IsLoose X) _ FromRows never_x (good.balanced X)
      (none_of_stage (IsLoose Y) _ FromBound never_y good.balanced (strong good.bounds))))
      fault (by_stages fault wrong)

-- the first break of a list of arcs, and none of a cycle
pub one_break : (arcs : List Arc) (walk : List ℕ) (a b : ℕ) → IsFirstBreak arcs walk a → IsFirstBreak arcs walk b → a ≡ b
one_break arcs [] a b of_a of_b = of_a ∙ sym of_b
one_break arcs (arc ∷ walk) a b of_a of_b = by_order (cases_lt a b) (cases_lt b a)
  where
    by_order : (a < b) ⊎ (b ≤ a) → (b < a) ⊎ (a ≤ b) → a ≡ b
    by_order (inl less) other = absurd (of_b.1 a less of_a.0)
    by_order (inr most) (inl less) = absurd (of_a.1 b less of_b.0)
    by_order (inr most) (inr least) = omega (arith, most, least)

whole : (arcs : List Arc) (walk : List ℕ) (place : ℕ) → IsCycle arcs walk → IsBrokenAt arcs walk place → ⊥
whole arcs walk place cycle broken = by_kind place broken.inside broken.broken
  where
    by_kind : (place : ℕ) → place < length walk →
        ((slice_index walk place < length arcs → ⊥)
        ⊎ ((slice_index walk (place_before (length walk) place) < length arcs)
        × ((step_arc arcs walk (place_before (length walk) place)).to ≡ (step_arc arcs walk place).from → ⊥))) → ⊥
    by_kind place inside (inl missing) = missing (cycle.in_graph place inside)
    by_kind zero inside (inr apart) = apart.1 cycle.closed
    by_kind (suc k) inside (inr apart) = apart.1 (cycle.joined k inside)

pub no_break : (arcs : List Arc) (walk : List ℕ) (place : ℕ) → IsCycle arcs walk → IsFirstBreak arcs walk place → ⊥
no_break arcs [] place cycle is = let some = cycle.some in absurd (omega (arith, some))
no_break arcs (arc ∷ walk) place cycle is = whole arcs (arc ∷ walk) place cycle is.0

-- an entry has at most one fault, and none where it is good
pub only_entry_fault : (shape : Shape) (choices : List Choice) (places : Places) (entry : ℕ) (node : CertNode) → IsOnly (IsEntryFault shape choices places entry node)
only_entry_fault shape choices places entry (Split s t) a b of_a of_b = of_a.1 ∙ sym of_b.1
only_entry_fault shape choices places entry (Bound x y) a b of_a of_b = only_bound_fault shape choices places entry x y a b of_a of_b
only_entry_fault shape choices places entry (Cycle axis arcs) a b of_a of_b =
    of_a.2 ∙ ap (λ (place : ℕ). NotACycle entry place) (one_break (arcs_of axis shape choices) arcs of_a.0 of_b.0 of_a.1 of_b.1) ∙ sym of_b.2

pub no_entry_fault : (shape : Shape) (choices : List Choice) (places : Places) (entry : ℕ) (node : CertNode) → IsGoodEntry shape choices places node →
    (fault : CheckFault) → IsEntryFault shape choices places entry node fault → ⊥
no_entry_fault shape choices places entry (Split s t) good fault wrong = wrong.0 good
no_entry_fault shape choices places entry (Bound x y) good fault wrong = no_bound_fault shape choices places entry x y good fault wrong
no_entry_fault shape choices places entry (Cycle axis arcs) good fault wrong = no_break (arcs_of axis shape choices) arcs wrong.0 good wrong.1

-- and so have the entries from one on
pub only_first : (shape : Shape) (places : Places) (entry : ℕ) (branches : List (List Choice)) (nodes : List CertNode) → IsOnly (IsFirstIn shape places entry branches nodes)
only_first shape places entry branches [] a b of_a of_b = absurd of_a
only_first shape places entry [] (node ∷ nodes) a b of_a of_b = absurd of_a
only_first shape places entry (choices ∷ branches) (node ∷ nodes) a b of_a of_b =
    only_of_stage (IsEntryFault shape choices places entry node) (IsGoodEntry shape choices places node)
    (IsFirstIn shape places (suc entry) (opened_by node choices ++ branches) nodes)
    (λ fault wrong good. no_entry_fault shape choices places entry node good fault wrong)
    (only_entry_fault shape choices places entry node)
    (only_first shape places (suc entry) (opened_by node choices ++ branches) nodes) a b of_a of_b

pub no_first : (shape : Shape) (places : Places) (entry : ℕ) (branches : List (List Choice)) (nodes : List CertNode) → AreGood shape places branches nodes →
    (fault : CheckFault) → IsFirstIn shape places entry branches nodes fault → ⊥
no_first shape places entry branches [] good fault wrong = wrong
no_first shape places entry [] (node ∷ nodes) good fault wrong = wrong
no_first shape places entry (choices ∷ branches) (node ∷ nodes) good fault wrong =
    none_of_stage (IsEntryFault shape choices places entry node) (IsGoodEntry shape choices places node)
    (IsFirstIn shape places (suc entry) (opened_by node choices ++ branches) nodes)
    (λ other broken fine. no_entry_fault shape choices places entry node fine other broken)
    good.0 (no_first shape places (suc entry) (opened_by node choices ++ branches) nodes good.1) fault wrong
