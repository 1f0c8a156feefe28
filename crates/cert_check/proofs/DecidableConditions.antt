-- What a certificate has to show is decided, without code: places from zero, pairs, cycles, loads
-- and balances.
use Rattle.std.proofs.Common.{◌≡◌, ℕ, zero, suc, ◌<◌, ◌≤◌, ℤ, pos, List, [], ◌∷◌, length, ◌⊎◌, inl, inr, refl, sym, subst, arith, slice_index, ◌+◌, All}
use Rattle.std.specs.Prelude.{◌<ℤ◌, ◌≤ℤ◌}
use Rattle.std.proofs.lemmas.Bool.{cases_eq, cases_lt}
use Rattle.std.proofs.lemmas.Int.{ints, by_lt_z}
use Rattle.std.proofs.lemmas.List.Elements.{All-from_get_or}
use Rattle.std.proofs.lemmas.List.FromFn.{get_or-map-range_with_len, length-map-range_with_len}
use Rattle.compact_types.specs.declared.places.Axis.{Axis}
use Rattle.compact_types.specs.declared.places.Axis.TheVariants.{X, Y}
use Rattle.compact_types.specs.declared.places.Places.{Places}
use Rattle.compact_types.specs.declared.places.Point.{Point}
use Rattle.compact_types.specs.declared.plan.Shape.{Shape}
use Rattle.compact_types.specs.Drawings.{IsFromZero, IsLeastZero}
use Rattle.compact_types.specs.Lookups.{along, place}
use Rattle.compact_types.specs.Orders.{IsPointBefore}
use Rattle.compact_types.proofs.Laws.{compare_numbers, same_point}
use Rattle.compact_types.specs.declared.search.Choice.{Choice}
use Rattle.compact_types.specs.declared.search.Flows.{Flows}
use Rattle.bars.specs.Lines.{line_of}
use Rattle.bars.specs.Segments.{IsOnSegment, IsPair, segment_at, segment_count, node_count}
use Rattle.shape_graphs.specs.declared.graph.Arc.{Arc}
use Rattle.shape_graphs.specs.Paths.{IsCycle, step_arc}
use Rattle.shape_graphs.specs.Arcs.{arc_at}
use Rattle.shape_graphs.specs.Backings.{IsBalanced, flow_of}
use Rattle.shape_graphs.specs.Flows.{BalancesAt, IsFlowOn, amount_at, net}
use Rattle.shape_graphs.specs.Graphs.{arcs_of}
use Rattle.cert_text.specs.declared.tree.Load.{Load}
use Rattle.cert_text.specs.Accepting.{AreOnArcs}
use Rattle.cert_text.specs.Loads.{IsLoad, amount_on, amounts_of, load_at}
use Rattle.cert_check.specs.Faults.{IsBrokenAt, IsFirstBreak, place_before, IsFirstOffArcs, IsUnbalancedAt}
use Rattle.cert_check.proofs.CycleLemmas.{cycle_from, first_break_at}
use Rattle.cert_check.proofs.BoundLemmas.{flow_from_loads}

-- the least number of which Q holds, and P of all before it
pub record IsFirst (P Q : ℕ → Type 0) (n : ℕ) : Type 0 where
  pub place : ℕ
  pub inside : place < n
  pub holds : Q place
  pub before : (k : ℕ) → k < place → P k

-- P holds of all numbers below n, or there is a first of which Q holds
pub all_or_first : (P Q : ℕ → Type 0) (n : ℕ) → ((k : ℕ) → k < n → P k ⊎ Q k) → ((k : ℕ) → k < n → P k) ⊎ IsFirst P Q n
all_or_first P Q zero decide = inl (λ k inside. absurd (omega (arith, inside)))
all_or_first P Q (suc n) decide = by_last (all_or_first P Q n (λ k inside. decide k (omega (arith, inside)))) (decide n (omega arith))
  where
    by_last : ((k : ℕ) → k < n → P k) ⊎ IsFirst P Q n → P n ⊎ Q n → ((k : ℕ) → k < suc n → P k) ⊎ IsFirst P Q (suc n)
    by_last (inr found) last = let inside = found.inside in
        inr (record { place = found.place; inside = omega (arith, inside); holds = found.holds; before = found.before })
    by_last (inl all) (inr holds) = inr (record { place = n; inside = omega arith; holds = holds; before = all })
    by_last (inl all) (inl here) = inl (λ k inside. by_order k inside (cases_lt k n))
      where
        by_order : (k : ℕ) → k < suc n → (k < n) ⊎ (n ≤ k) → P k
        by_order k inside (inl less) = all k less
        by_order k inside (inr most) = let last : n ≡ k = omega (arith, inside, most) in subst P last here

-- two integers are equal or not
pub equal_or_not : (a b : ℤ) → (a ≡ b) ⊎ (a ≡ b → ⊥)
equal_or_not a b = by_order (compare_numbers a b)
  where
    by_order : (a <ℤ b) ⊎ ((a ≡ b) ⊎ (b <ℤ a)) → (a ≡ b) ⊎ (a ≡ b → ⊥)
    by_order (inl less) = inr (λ same. omega (arith, ints, less, same))
    by_order (inr (inl same)) = inl same
    by_order (inr (inr more)) = inr (λ same. omega (arith, ints, more, same))

-- two points are equal, or one comes before the other
pub compare_points : (p q : Point) → (p ≡ q) ⊎ (IsPointBefore p q ⊎ IsPointBefore q p)
compare_points p q = by_order (compare_numbers p.x q.x) (compare_numbers p.y q.y)
  where
    by_order : (p.x <ℤ q.x) ⊎ ((p.x ≡ q.x) ⊎ (q.x <ℤ p.x)) → (p.y <ℤ q.y) ⊎ ((p.y ≡ q.y) ⊎ (q.y <ℤ p.y)) →
        (p ≡ q) ⊎ (IsPointBefore p q ⊎ IsPointBefore q p)
    by_order (inl less) y = inr (inl (inl less))
    by_order (inr (inr more)) y = inr (inr (inl more))
    by_order (inr (inl same)) (inl less) = inr (inl (inr (same, less)))
    by_order (inr (inl same)) (inr (inl level)) = inl (same_point p q same level)
    by_order (inr (inl same)) (inr (inr more)) = inr (inr (inr (sym same, more)))

-- whether places are from zero is decided
least_zero_decided : (axis : Axis) (places : Places) → IsLeastZero axis places ⊎ (IsLeastZero axis places → ⊥)
least_zero_decided axis places =
    by_low (all_or_first (λ v. pos 0 ≤ℤ (along axis (place places.xy v))) (λ v. (along axis (place places.xy v)) <ℤ pos 0) (length places.xy)
    (λ v inside. by_lt_z (along axis (place places.xy v)) (pos 0) (λ less. inr less) (λ most. inl most)))
    (all_or_first (λ v. along axis (place places.xy v) ≡ pos 0 → ⊥) (λ v. along axis (place places.xy v) ≡ pos 0) (length places.xy)
    (λ v inside. turned v (equal_or_not (along axis (place places.xy v)) (pos 0))))
  where
    turned : (v : ℕ) → (along axis (place places.xy v) ≡ pos 0) ⊎ (along axis (place places.xy v) ≡ pos 0 → ⊥) →
        (along axis (place places.xy v) ≡ pos 0 → ⊥) ⊎ (along axis (place places.xy v) ≡ pos 0)
    turned v (inl same) = inr same
    turned v (inr other) = inl other

    by_low : ((v : ℕ) → v < length places.xy → pos 0 ≤ℤ (along axis (place places.xy v)))
        ⊎ IsFirst (λ v. pos 0 ≤ℤ (along axis (place places.xy v))) (λ v. (along axis (place places.xy v)) <ℤ pos 0) (length places.xy) →
        ((v : ℕ) → v < length places.xy → along axis (place places.xy v) ≡ pos 0 → ⊥)
        ⊎ IsFirst (λ v. along axis (place places.xy v) ≡ pos 0 → ⊥) (λ v. along axis (place places.xy v) ≡ pos 0) (length places.xy) →
        IsLeastZero axis places ⊎ (IsLeastZero axis places → ⊥)
    by_low (inr below) at = inr (λ zero_here.
        let low = zero_here.none_below below.place below.inside in
        let less = below.holds in
        omega (arith, ints, low, less))
    by_low (inl none) (inl never) = inr (λ zero_here. never zero_here.reached.0 zero_here.reached.1 zero_here.reached.2)
    by_low (inl none) (inr at) = inl (record { none_below = none; reached = (at.place, at.inside, at.holds) })

pub from_zero_decided : (places : Places) → IsFromZero places ⊎ (IsFromZero places → ⊥)
from_zero_decided places = both (least_zero_decided X places) (least_zero_decided Y places)
  where
    both : IsLeastZero X places ⊎ (IsLeastZero X places → ⊥) → IsLeastZero Y places ⊎ (IsLeastZero Y places → ⊥) →
        IsFromZero places ⊎ (IsFromZero places → ⊥)
    both (inr not_x) y = inr (λ zero_here. not_x (zero_here X))
    both (inl x) (inr not_y) = inr (λ zero_here. not_y (zero_here Y))
    both (inl x) (inl y) = inl by_axis
      where
        by_axis : (axis : Axis) → IsLeastZero axis places
        by_axis X = x
        by_axis Y = y

-- the vertex lies on both segments
abbrev AreOn : Shape → ℕ → ℕ → ℕ → Type 0
AreOn shape s t v = IsOnSegment shape s v × IsOnSegment shape t v

-- whether two numbers are a pair is decided
pub pair_decided : (shape : Shape) (s t : ℕ) → IsPair shape s t ⊎ (IsPair shape s t → ⊥)
pair_decided shape s t = by_order (cases_lt s t) (cases_lt t (segment_count shape))
    (all_or_first (λ v. AreOn shape s t v → ⊥) (AreOn shape s t) shape.plan.vertices
    (λ v inside. decide_on v inside (cases_eq (line_of (segment_at shape s).axis shape v) (segment_at shape s).line)
    (cases_eq (line_of (segment_at shape t).axis shape v) (segment_at shape t).line)))
  where
    decide_on : (v : ℕ) → v < shape.plan.vertices →
        (line_of (segment_at shape s).axis shape v ≡ (segment_at shape s).line)
        ⊎ (line_of (segment_at shape s).axis shape v ≡ (segment_at shape s).line → ⊥) →
        (line_of (segment_at shape t).axis shape v ≡ (segment_at shape t).line)
        ⊎ (line_of (segment_at shape t).axis shape v ≡ (segment_at shape t).line → ⊥) → (AreOn shape s t v → ⊥) ⊎ AreOn shape s t v
    decide_on v inside (inr off) other = inl (λ on. off on.0.in_line)
    decide_on v inside (inl first) (inr off) = inl (λ on. off on.1.in_line)
    decide_on v inside (inl first) (inl second) =
        inr (record { is_vertex = inside; in_line = first }, record { is_vertex = inside; in_line = second })

    by_order : (s < t) ⊎ (t ≤ s) → (t < segment_count shape) ⊎ (segment_count shape ≤ t) →
        ((v : ℕ) → v < shape.plan.vertices → AreOn shape s t v → ⊥) ⊎ IsFirst (λ v. AreOn shape s t v → ⊥) (AreOn shape s t) shape.plan.vertices →
        IsPair shape s t ⊎ (IsPair shape s t → ⊥)
    by_order (inr most) inside shared = inr (λ pair. let less = pair.in_order in omega (arith, less, most))
    by_order (inl less) (inr outside) shared = inr (λ pair. let inside = pair.in_shape in omega (arith, inside, outside))
    by_order (inl less) (inl inside) (inr found) = inr (λ pair. pair.apart (found.place, found.holds.0, found.holds.1))
    by_order (inl less) (inl inside) (inl none) =
        inl (record { in_order = less; in_shape = inside; apart = λ shared. none shared.0 shared.1.is_vertex (shared.1, shared.2) })

-- a list of arcs is a cycle, or has a first break
module _ (arcs : List Arc) (walk : List ℕ) (some : walk ≡ [] → ⊥) where
  abbrev before : ℕ → ℕ
  before k = place_before (length walk) k

  abbrev DoMeet : ℕ → Type 0
  DoMeet k = (step_arc arcs walk (before k)).to ≡ (step_arc arcs walk k).from

  not_broken : (k : ℕ) → slice_index walk k < length arcs → (slice_index walk (before k) < length arcs → DoMeet k) → IsBrokenAt arcs walk k → ⊥
  not_broken k there meet broken = by_kind broken.broken
    where
      by_kind : (slice_index walk k < length arcs → ⊥) ⊎ ((slice_index walk (before k) < length arcs) × (DoMeet k → ⊥)) → ⊥
      by_kind (inl off) = off there
      by_kind (inr apart) = apart.1 (meet apart.0)

  broken_or_not : (k : ℕ) → k < length walk → (slice_index walk k < length arcs) ⊎ (length arcs ≤ slice_index walk k) →
      (slice_index walk (before k) < length arcs) ⊎ (length arcs ≤ slice_index walk (before k)) → DoMeet k ⊎ (DoMeet k → ⊥) →
      (IsBrokenAt arcs walk k → ⊥) ⊎ IsBrokenAt arcs walk k
  broken_or_not k inside (inr missing) ahead meet = inr (record { inside = inside; broken = inl (λ there. omega (arith, there, missing)) })
  broken_or_not k inside (inl there) (inr missing) meet = inl (not_broken k there (λ less. absurd (omega (arith, less, missing))))
  broken_or_not k inside (inl there) (inl ahead) (inr apart) = inr (record { inside = inside; broken = inr (ahead, apart) })
  broken_or_not k inside (inl there) (inl ahead) (inl meet) = inl (not_broken k there (λ less. meet))

  by_places : ((k : ℕ) → k < length walk → IsBrokenAt arcs walk k → ⊥) ⊎ IsFirst (λ k. IsBrokenAt arcs walk k → ⊥) (IsBrokenAt arcs walk) (length walk) →
      IsCycle arcs walk ⊎ ((place : ℕ) × IsFirstBreak arcs walk place)
  by_places (inl whole) = inl (cycle_from arcs walk some whole)
  by_places (inr first) = inr (first.place, first_break_at arcs walk some first.place first.holds first.before)

  some_cycle_or_break : IsCycle arcs walk ⊎ ((place : ℕ) × IsFirstBreak arcs walk place)
  some_cycle_or_break = by_places (all_or_first (λ k. IsBrokenAt arcs walk k → ⊥) (IsBrokenAt arcs walk) (length walk)
      (λ k inside. broken_or_not k inside (cases_lt (slice_index walk k) (length arcs)) (cases_lt (slice_index walk (before k)) (length arcs))
      (cases_eq (step_arc arcs walk (before k)).to (step_arc arcs walk k).from)))

pub cycle_or_break : (arcs : List Arc) (walk : List ℕ) → IsCycle arcs walk ⊎ ((place : ℕ) × IsFirstBreak arcs walk place)
cycle_or_break arcs [] = inr (0, refl)
cycle_or_break arcs (arc ∷ walk) = some_cycle_or_break arcs (arc ∷ walk) (λ none. absurd (let no : arc ∷ walk ≡ [] = none in cc))

-- each load is on an arc, or there is a first that is not
pub on_or_off : (arcs : List Arc) (loads : List Load) → AreOnArcs arcs loads ⊎ ((arc : ℕ) × IsFirstOffArcs arcs loads arc)
on_or_off arcs loads = by_places (all_or_first (λ k. (load_at loads k).arc < length arcs) (λ k. length arcs ≤ (load_at loads k).arc) (length loads)
    (λ k inside. cases_lt (load_at loads k).arc (length arcs)))
  where
    by_places : ((k : ℕ) → k < length loads → (load_at loads k).arc < length arcs)
        ⊎ IsFirst (λ k. (load_at loads k).arc < length arcs) (λ k. length arcs ≤ (load_at loads k).arc) (length loads) →
        AreOnArcs arcs loads ⊎ ((arc : ℕ) × IsFirstOffArcs arcs loads arc)
    by_places (inl on) = inl (All-from_get_or (λ (load : Load). load.arc < length arcs) loads (record { arc = 0; amount = 0 }) on)
    by_places (inr off) = inr (
      (load_at loads off.place).arc,
      record {
        place = off.place;
        inside = off.inside;
        is = refl;
        missing = λ there. let most = off.holds in omega (arith, there, most);
        first = off.before;
      },
    )

-- the amounts of loads are a flow
pub flow_is : (arcs : List Arc) (loads : List Load) → All IsLoad loads → IsFlowOn arcs (amounts_of arcs loads)
flow_is arcs loads each =
    let long = length-map-range_with_len (amount_on loads) 0 (length arcs) in
    flow_from_loads arcs (amounts_of arcs loads) loads long
    (λ i inside. (
    let number : 0 + i ≡ i = omega arith in
    let below : i < length arcs = omega (arith, inside, long) in
    get_or-map-range_with_len (amount_on loads) 0 (length arcs) i i 0 below number)) each

-- a flow balances on the graph of the axis, or there is a first node where it does not
pub balanced_or_not : (axis : Axis) (shape : Shape) (choices : List Choice) (flows : Flows) → IsFlowOn (arcs_of axis shape choices) (flow_of axis flows).amounts →
    IsBalanced axis shape choices (flow_of axis flows) ⊎ ((node : ℕ) × IsUnbalancedAt axis shape choices flows node)
balanced_or_not axis shape choices flows on =
    by_nodes (all_or_first (BalancesAt (arcs_of axis shape choices) (flow_of axis flows).amounts)
    (λ node. BalancesAt (arcs_of axis shape choices) (flow_of axis flows).amounts node → ⊥) (node_count axis shape)
    (λ node inside. equal_or_not (net (arcs_of axis shape choices) (λ i. pos (amount_at (flow_of axis flows).amounts i)) node)
    (net (arcs_of axis shape choices) (λ i. (arc_at (arcs_of axis shape choices) i).pull) node)))
  where
    by_nodes : ((node : ℕ) → node < node_count axis shape → BalancesAt (arcs_of axis shape choices) (flow_of axis flows).amounts node)
        ⊎ IsFirst (BalancesAt (arcs_of axis shape choices) (flow_of axis flows).amounts)
        (λ node. BalancesAt (arcs_of axis shape choices) (flow_of axis flows).amounts node → ⊥) (node_count axis shape) →
        IsBalanced axis shape choices (flow_of axis flows) ⊎ ((node : ℕ) × IsUnbalancedAt axis shape choices flows node)
    by_nodes (inl each) = inl (record { amounts = on; balances = record { one_for_each = on.one_for_each; each = each } })
    by_nodes (inr off) = inr (off.place, record { inside = off.inside; unbalanced = off.holds; first = off.before })
