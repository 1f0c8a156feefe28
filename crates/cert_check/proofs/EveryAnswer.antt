-- Every certificate within the limits of the check is accepted, or has a first fault.
use Rattle.std.proofs.Common.{◌≡◌, ℕ, suc, ◌<◌, List, [], ◌∷◌, ◌++◌, length, All, ◌⊎◌, inl, inr, refl, subst, arith}
use Rattle.std.specs.Prelude.{◌<ℤ◌}
use Rattle.std.proofs.lemmas.Int.{ints}
use Rattle.compact_types.specs.declared.limits.TheConstants.{MOST_CHOICES}
use Rattle.compact_types.specs.declared.places.Axis.TheVariants.{X, Y}
use Rattle.compact_types.specs.declared.places.Key.{Key}
use Rattle.compact_types.specs.declared.places.Places.{Places}
use Rattle.compact_types.specs.declared.plan.Shape.{Shape}
use Rattle.compact_types.specs.declared.search.Choice.{Choice}
use Rattle.compact_types.specs.declared.search.Flows.{Flows}
use Rattle.compact_types.specs.Bests.Objective.{total_length}
use Rattle.compact_types.specs.Drawings.{IsDrawing, IsFromZero}
use Rattle.compact_types.specs.Bests.{worth_of}
use Rattle.compact_types.specs.Lookups.{place}
use Rattle.compact_types.specs.Orders.{IsListBefore, IsPointBefore, numbers_of}
use Rattle.compact_types.specs.Refusals.{HasOneAnswer}
use Rattle.compact_types.proofs.Laws.{compare_numbers}
use Rattle.bars.specs.Segments.{IsPair}
use Rattle.bars.specs.Solutions.{Fit, IsSound, with_choice}
use Rattle.shape_graphs.specs.Backings.{AreBalanced, IsBalanced, bound_by}
use Rattle.shape_graphs.specs.Graphs.{arcs_of}
use Rattle.shape_graphs.specs.Measures.{HaveNoCycle, IsLeastKey}
use Rattle.shape_graphs.specs.Paths.{HasCycle, IsCycle}
use Rattle.shape_graphs.proofs.Laws.{cycle_decided, no_cycle_where_solved}
use Rattle.potentials.specs.TightPlaces.{AreLeastTightPlaces}
use Rattle.potentials.proofs.Laws.{bound_at_tight, some_least_key, worth_above}
use Rattle.cert_text.specs.declared.tree.CertNode.{CertNode}
use Rattle.cert_text.specs.declared.tree.CertNode.TheVariants.{Split, Bound, Cycle}
use Rattle.cert_text.specs.declared.tree.Load.{Load}
use Rattle.cert_text.specs.Accepting.{Accepts, AreGood, AreOnArcs, IsGoodBound, IsGoodEntry, flows_of, opened_by, NoneEarlier}
use Rattle.cert_text.specs.Loads.{IsInRange, IsLoad}
use Rattle.cert_text.specs.Trees.{IsShallow, IsWhole}
use Rattle.cert_text.proofs.Laws.{tight_from_least}
use Rattle.cert_check.specs.declared.fault.CheckFault.{CheckFault}
use Rattle.cert_check.specs.declared.fault.CheckFault.TheVariants.{NotFromZero, BadPair, NotACycle}
use Rattle.cert_check.specs.Faults.{AreBothOnArcs, FirstCheckFault, IsBoundFault, IsEarlierAt, IsEntryFault, IsFirstBreak, IsFirstIn, IsFirstOffArcs, IsUnbalancedAt}
use Rattle.cert_check.specs.Faults.IsBoundFault.{no_x_arc, no_y_arc, x_unbalanced, y_unbalanced, too_low, too_late}
use Rattle.cert_check.specs.inner.Branches.{HasRoomToSplit}
use Rattle.cert_check.specs.inner.Comparing.{AreSameBelow}
use Rattle.shape_graphs.proofs.Laws.{fit_more}
use Rattle.cert_check.proofs.CompareLemmas.{first_is_greater, less_from_first, not_before_itself, same_is_not_less}
use Rattle.cert_check.proofs.DecidableConditions.{IsFirst, all_or_first, balanced_or_not, compare_points, cycle_or_break, flow_is, from_zero_decided, on_or_off, pair_decided}
use Rattle.cert_check.proofs.DecisionLemmas.{no_fault, only_fault}
use Rattle.cert_check.proofs.FaultLemmas.{one_least}
use Rattle.cert_check.proofs.WalkLemmas.{IsOnTheWay, after_good, at_end, at_fault, at_start, has_room, some_entry}

module _ (shape : Shape) (choices : List Choice) (sound : IsSound shape) (fit : Fit shape choices) (places : Places)
    (fits : length places.xy ≡ shape.plan.vertices) where
  module _ (flows : Flows) (balanced : AreBalanced shape choices flows) where
    -- what the least tight places decide
    abbrev Answer : Type 0
    Answer = NoneEarlier shape choices flows places ⊎ ((vertex : ℕ) × IsEarlierAt shape choices flows places vertex)

    -- least tight places come before these, or no such places do
    by_tight : (least : Places) → AreLeastTightPlaces shape choices flows least → Answer
    by_tight least tight = by_vertices (all_or_first (λ v. place least.xy v ≡ place places.xy v)
        (λ v. IsPointBefore (place least.xy v) (place places.xy v) ⊎ IsPointBefore (place places.xy v) (place least.xy v)) shape.plan.vertices
        (λ v inside. compare_points (place least.xy v) (place places.xy v)))
      where
        long : length least.xy ≡ shape.plan.vertices
        long = tight.tight.solves.places_fit

        none : (IsListBefore (numbers_of least.xy) (numbers_of places.xy) → ⊥) → NoneEarlier shape choices flows places
        none not_less other also before =
            not_less (subst (λ (l : _). IsListBefore (numbers_of l) (numbers_of places.xy)) (one_least shape choices flows other least also tight) before)

        by_first : (v : ℕ) → v < shape.plan.vertices → AreSameBelow least.xy places.xy v →
            IsPointBefore (place least.xy v) (place places.xy v) ⊎ IsPointBefore (place places.xy v) (place least.xy v) → Answer
        by_first v inside same (inl less) = inr (
          v,
          record {
            least = least;
            tight = tight;
            before = less_from_first least.xy places.xy v (omega (arith, inside, long)) (omega (arith, inside, fits)) same less;
            differ = record {
              inside = omega (arith, inside, long);
              differs = λ equal. not_before_itself (place least.xy v) (place places.xy v) equal less;
              same_before = same;
            };
          },
        )
        by_first v inside same (inr more) =
            inl (none (first_is_greater least.xy places.xy v (place least.xy v) (place places.xy v) (omega (arith, inside, long)) (omega (arith, inside, fits))
            same refl refl more))

        by_vertices : AreSameBelow least.xy places.xy shape.plan.vertices
            ⊎ IsFirst (λ v. place least.xy v ≡ place places.xy v)
            (λ v. IsPointBefore (place least.xy v) (place places.xy v) ⊎ IsPointBefore (place places.xy v) (place least.xy v)) shape.plan.vertices → Answer
        by_vertices (inl same) = inl (none (same_is_not_less least.xy places.xy shape.plan.vertices long fits same))
        by_vertices (inr first) = by_first first.place first.inside first.before first.holds

    -- the least key is worth the bound, so that its places are the least tight ones, or no places are tight
    by_key : (key : Key) → IsLeastKey total_length shape choices key →
        (key.worth <ℤ bound_by shape choices flows) ⊎ ((key.worth ≡ bound_by shape choices flows) ⊎ (bound_by shape choices flows <ℤ key.worth)) → Answer
    by_key key least (inl less) =
        let low = worth_above shape choices sound fit flows balanced key.places least.solves in
        let is = least.worth in
        absurd (omega (arith, ints, less, low, is))
    by_key key least (inr (inl same)) = by_tight key.places (tight_from_least shape choices sound fit flows balanced key least same)
    by_key key least (inr (inr more)) = inl (λ other tight before. (
        let is = bound_at_tight shape choices sound fit flows balanced other tight.tight.solves tight.tight in
        let low = least.none_less other tight.tight.solves in
        omega (arith, ints, more, low, is)))

    -- with a cycle nothing solves the choices
    by_cycles : HasCycle (arcs_of X shape choices) ⊎ (HasCycle (arcs_of X shape choices) → ⊥) →
        HasCycle (arcs_of Y shape choices) ⊎ (HasCycle (arcs_of Y shape choices) → ⊥) → Answer
    by_cycles (inl cycle) y = inl (λ other tight before. no_cycle_where_solved shape choices sound.drawable fit other tight.tight.solves X cycle)
    by_cycles (inr no_x) (inl cycle) =
        inl (λ other tight before. no_cycle_where_solved shape choices sound.drawable fit other tight.tight.solves Y cycle)
    by_cycles (inr no_x) (inr no_y) =
        let found = some_least_key shape choices sound fit none in
        by_key found.0 found.1 (compare_numbers found.0.worth (bound_by shape choices flows))
      where
        none : HaveNoCycle shape choices
        none X = no_x
        none Y = no_y

    earlier_or_none : Answer
    earlier_or_none = by_cycles (cycle_decided (arcs_of X shape choices)) (cycle_decided (arcs_of Y shape choices))

  -- a bound is good, or has a first fault
  module _ (entry : ℕ) (x y : List Load) (of_x : All IsLoad x) (of_y : All IsLoad y) where
    abbrev flows : Flows
    flows = flows_of shape choices x y

    abbrev BoundAnswer : Type 0
    BoundAnswer = IsGoodBound shape choices places x y ⊎ ((fault : CheckFault) × IsBoundFault shape choices places entry x y fault)

    module _ (on : AreBothOnArcs shape choices x y) where
      module _ (balanced : AreBalanced shape choices flows) where
        by_lists : bound_by shape choices flows ≡ worth_of total_length shape places →
            NoneEarlier shape choices flows places ⊎ ((vertex : ℕ) × IsEarlierAt shape choices flows places vertex) → BoundAnswer
        by_lists same (inl none) = inl (record { x_arcs = on.x_arcs; y_arcs = on.y_arcs; balanced = balanced; bounds = inr (same, none) })
        by_lists same (inr earlier) = inr (_, too_late earlier.0 on balanced same earlier.1)

        by_bound : (bound_by shape choices flows <ℤ worth_of total_length shape places)
            ⊎ ((bound_by shape choices flows ≡ worth_of total_length shape places) ⊎ (worth_of total_length shape places <ℤ bound_by shape choices flows)) → BoundAnswer
        by_bound (inl less) = inr (_, too_low on balanced less)
        by_bound (inr (inl same)) = by_lists same (earlier_or_none flows balanced)
        by_bound (inr (inr more)) = inl (record { x_arcs = on.x_arcs; y_arcs = on.y_arcs; balanced = balanced; bounds = inl more })

      by_balance : IsBalanced X shape choices flows.x ⊎ ((node : ℕ) × IsUnbalancedAt X shape choices flows node) →
          IsBalanced Y shape choices flows.y ⊎ ((node : ℕ) × IsUnbalancedAt Y shape choices flows node) → BoundAnswer
      by_balance (inr off) up = inr (_, x_unbalanced off.0 on off.1)
      by_balance (inl across) (inr off) = inr (_, y_unbalanced off.0 on across off.1)
      by_balance (inl across) (inl up) = by_bound both (compare_numbers (bound_by shape choices flows) (worth_of total_length shape places))
        where
          both : AreBalanced shape choices flows
          both X = across
          both Y = up

    by_arcs : AreOnArcs (arcs_of X shape choices) x ⊎ ((arc : ℕ) × IsFirstOffArcs (arcs_of X shape choices) x arc) →
        AreOnArcs (arcs_of Y shape choices) y ⊎ ((arc : ℕ) × IsFirstOffArcs (arcs_of Y shape choices) y arc) → BoundAnswer
    by_arcs (inr off) up = inr (_, no_x_arc off.0 off.1)
    by_arcs (inl across) (inr off) = inr (_, no_y_arc off.0 across off.1)
    by_arcs (inl across) (inl up) = by_balance (record { x_arcs = across; y_arcs = up })
        (balanced_or_not X shape choices flows (flow_is (arcs_of X shape choices) x of_x))
        (balanced_or_not Y shape choices flows (flow_is (arcs_of Y shape choices) y of_y))

    bound_decided : BoundAnswer
    bound_decided = by_arcs (on_or_off (arcs_of X shape choices) x) (on_or_off (arcs_of Y shape choices) y)

  -- an entry is good, or has a fault
  entry_decided : (entry : ℕ) (node : CertNode) → IsInRange node →
      IsGoodEntry shape choices places node ⊎ ((fault : CheckFault) × IsEntryFault shape choices places entry node fault)
  entry_decided entry (Split s t) range = by_pair (pair_decided shape s t)
    where
      by_pair : IsPair shape s t ⊎ (IsPair shape s t → ⊥) →
          IsPair shape s t ⊎ ((fault : CheckFault) × IsEntryFault shape choices places entry (Split s t) fault)
      by_pair (inl pair) = inl pair
      by_pair (inr none) = inr (BadPair entry, (none, refl))
  entry_decided entry (Bound x y) range = bound_decided entry x y range.0.each range.1.each
  entry_decided entry (Cycle axis walk) range = by_break (cycle_or_break (arcs_of axis shape choices) walk)
    where
      by_break : IsCycle (arcs_of axis shape choices) walk ⊎ ((place : ℕ) × IsFirstBreak (arcs_of axis shape choices) walk place) →
          IsCycle (arcs_of axis shape choices) walk ⊎ ((fault : CheckFault) × IsEntryFault shape choices places entry (Cycle axis walk) fault)
      by_break (inl cycle) = inl cycle
      by_break (inr break) = inr (NotACycle entry break.0, (break.0, break.1, refl))

-- the choices of each branch to come fit
abbrev AllFit : Shape → List (List Choice) → Type 0
AllFit shape [] = Unit {0}
AllFit shape (choices ∷ branches) = Fit shape choices × AllFit shape branches

-- and so do those of the branches that a good entry opens
opened_fit : (shape : Shape) (places : Places) (node : CertNode) (choices : List Choice) (branches : List (List Choice)) → HasRoomToSplit node choices →
    IsGoodEntry shape choices places node → Fit shape choices → AllFit shape branches → AllFit shape (opened_by node choices ++ branches)
opened_fit shape places (Split s t) choices branches room pair fit rest = (
  with_side 0 (omega arith),
  (with_side 1 (omega arith), (with_side 2 (omega arith), (with_side 3 (omega arith), rest))),
)
  where
    with_side : (side : ℕ) → side < 4 → Fit shape (with_choice choices s t side)
    with_side side few = fit_more shape choices (record { s = s; t = t; side = side }) fit room (record { pair = pair; side = few })
opened_fit shape places (Bound x y) choices branches room good fit rest = rest
opened_fit shape places (Cycle axis arcs) choices branches room good fit rest = rest

module _ (shape : Shape) (places : Places) (sound : IsSound shape) (fits : length places.xy ≡ shape.plan.vertices) (nodes : List CertNode) where
  abbrev WalkAnswer : Type 0
  WalkAnswer = AreGood shape places ([] ∷ []) nodes ⊎ ((fault : CheckFault) × IsFirstIn shape places 0 ([] ∷ []) nodes fault)

  -- the entries are good, or one is the first that is not
  walk_decided : (entry : ℕ) (branches : List (List Choice)) (rest : List CertNode) → IsOnTheWay shape places nodes entry branches rest →
      All IsInRange rest → AllFit shape branches → WalkAnswer
  walk_decided entry [] [] way range fit = inl (at_end shape places nodes entry [] [] refl way)
  walk_decided entry [] (node ∷ rest) way range fit = inl (at_end shape places nodes entry [] (node ∷ rest) refl way)
  walk_decided entry (choices ∷ branches) [] way range fit = absurd (some_entry shape places nodes entry choices branches way)
  walk_decided entry (choices ∷ branches) (node ∷ rest) way range fit =
      by_entry (entry_decided shape choices sound fit.0 places fits entry node (range 0 node (omega arith)))
      (λ good. walk_decided (suc entry) (opened_by node choices ++ branches) rest
      (after_good shape places nodes entry choices branches node rest way good)
      (λ k other inside. range (suc k) other (omega (arith, inside)))
      (opened_fit shape places node choices branches (has_room shape places nodes entry choices branches node rest way) good fit.0 fit.1))
    where
      by_entry : IsGoodEntry shape choices places node ⊎ ((fault : CheckFault) × IsEntryFault shape choices places entry node fault) →
          (IsGoodEntry shape choices places node → WalkAnswer) → WalkAnswer
      by_entry (inl good) goes_on = goes_on good
      by_entry (inr wrong) goes_on = inr (wrong.0, at_fault shape places nodes entry choices branches node rest wrong.0 way wrong.1)

-- a certificate is accepted or has one first fault, and never both
pub one_check : (shape : Shape) (places : Places) (nodes : List CertNode) → IsSound shape → IsDrawing shape places → IsWhole nodes →
    All IsInRange nodes → IsShallow MOST_CHOICES nodes →
    HasOneAnswer (λ (accepted : Unit {0}). Accepts shape places nodes) (FirstCheckFault shape places nodes)
one_check shape places nodes sound drawing whole range shallow = record {
  some = by_zero (from_zero_decided places);
  one_value = λ a b of_a of_b. refl;
  one_fault = only_fault shape places nodes;
  not_both = λ accepted fault accepts wrong. no_fault shape places nodes accepts fault wrong;
}
  where
    by_walk : IsFromZero places → AreGood shape places ([] ∷ []) nodes ⊎ ((fault : CheckFault) × IsFirstIn shape places 0 ([] ∷ []) nodes fault) →
        (Unit {0} × Accepts shape places nodes) ⊎ ((fault : CheckFault) × FirstCheckFault shape places nodes fault)
    by_walk from_zero (inl good) = inl (tt, record { drawing = drawing; from_zero = from_zero; entries = good })
    by_walk from_zero (inr wrong) = inr (wrong.0, inr (from_zero, wrong.1))

    none : Fit shape []
    none = record { few = omega arith; each = λ i inside. absurd (omega (arith, inside)) }

    by_zero : IsFromZero places ⊎ (IsFromZero places → ⊥) →
        (Unit {0} × Accepts shape places nodes) ⊎ ((fault : CheckFault) × FirstCheckFault shape places nodes fault)
    by_zero (inl from_zero) = by_walk from_zero (walk_decided shape places sound drawing.crossing_free.places_fit nodes 0 ([] ∷ []) nodes
        (at_start shape places nodes whole shallow) range (none, tt))
    by_zero (inr not_zero) = inr (NotFromZero, inl (not_zero, refl))
