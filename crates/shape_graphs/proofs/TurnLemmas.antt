-- A cycle from one of its places on.
use Rattle.std.proofs.Common.{◌≡◌, ℕ, suc, ◌+◌, ◌<◌, ◌≤◌, ◌-◌, List, ◌++◌, length, slice_index, take, drop, ◌⊎◌, inl, inr, refl, sym, ap, ◌∙◌, subst, arith, length-append}
use Rattle.std.proofs.lemmas.Bool.{cases_eq, cases_lt}
use Rattle.std.proofs.lemmas.List.{length-drop, length-take-le, get_or_append_left, get_or-append_right, get_or-drop, get_or-take}
use Rattle.shape_graphs.specs.declared.graph.Arc.{Arc}
use Rattle.shape_graphs.specs.Arcs.{arc_at}
use Rattle.shape_graphs.specs.Paths.{step_arc, IsSimpleCycle}
use Rattle.shape_graphs.specs.inner.Trails.{IsRound}

module _ (arcs : List Arc) (walk : List ℕ) (p : ℕ) (is : IsRound arcs walk) (within : p < length walk)
    (least : (k : ℕ) → k < length walk → slice_index walk p ≤ slice_index walk k) where
  abbrev turned : List ℕ
  turned = drop p walk ++ take p walk

  front_length : length (drop p walk) ≡ length walk - p
  front_length = length-drop p walk

  turned_length : length turned ≡ length walk
  turned_length = length-append (drop p walk) (take p walk) ∙ omega (arith, front_length, length-take-le p walk (omega arith))

  -- where a place of the turned cycle stood
  record Stood (k : ℕ) : Type 0 where
    place : ℕ
    inside : place < length walk
    same : slice_index turned k ≡ slice_index walk place
    which : ((k < length walk - p) × (place ≡ p + k)) ⊎ ((length walk - p ≤ k) × (place + (length walk - p) ≡ k))

  stood_by : (k : ℕ) → k < length walk → (k < length walk - p) ⊎ (length walk - p ≤ k) → Stood k
  stood_by k less (inl front) = record {
    place = p + k;
    inside = omega arith;
    same = get_or_append_left (drop p walk) (take p walk) 0 k (omega (arith, front_length)) ∙ get_or-drop p walk k 0;
    which = inl (front, refl);
  }
  stood_by k less (inr back) = record {
    place = k - (length walk - p);
    inside = omega arith;
    same = get_or-append_right (drop p walk) (take p walk) (length walk - p) k 0 front_length back
        ∙ get_or-take p walk (k - (length walk - p)) 0 (omega arith);
    which = inr (back, omega arith);
  }

  stood : (k : ℕ) → k < length walk → Stood k
  stood k less = stood_by k less (cases_lt k (length walk - p))

  arc_from : (k : ℕ) (s : Stood k) → (step_arc arcs turned k).from ≡ (step_arc arcs walk s.place).from
  arc_from k s = ap (λ (i : ℕ). (arc_at arcs i).from) s.same

  arc_to : (k : ℕ) (s : Stood k) → (step_arc arcs turned k).to ≡ (step_arc arcs walk s.place).to
  arc_to k s = ap (λ (i : ℕ). (arc_at arcs i).to) s.same

  -- the place after one, round the cycle
  next_by : (j m : ℕ) → j < length walk → m < length walk → (m ≡ suc j) ⊎ ((suc j ≡ length walk) × (m ≡ 0)) →
      (step_arc arcs walk j).to ≡ (step_arc arcs walk m).from
  next_by j m hj hm (inl more) = rw more (is.cycle.joined j (omega arith))
  next_by j m hj hm (inr round) =
      let last : length walk - 1 ≡ j = omega (arith, round.0) in
      let closed : (step_arc arcs walk j).to ≡ (step_arc arcs walk 0).from = rw last at is.cycle.closed in
      closed ∙ sym (ap (λ (i : ℕ). (step_arc arcs walk i).from) round.1)

  turned_joined : (k : ℕ) → suc k < length walk → (a : Stood k) (b : Stood (suc k)) →
      (step_arc arcs turned k).to ≡ (step_arc arcs turned (suc k)).from
  turned_joined k less a b =
      arc_to k a ∙ next_by a.place b.place a.inside b.inside (by_which a.which b.which) ∙ sym (arc_from (suc k) b)
    where
      by_which : ((k < length walk - p) × (a.place ≡ p + k)) ⊎ ((length walk - p ≤ k) × (a.place + (length walk - p) ≡ k)) →
          ((suc k < length walk - p) × (b.place ≡ p + suc k)) ⊎ ((length walk - p ≤ suc k) × (b.place + (length walk - p) ≡ suc k)) →
          (b.place ≡ suc a.place) ⊎ ((suc a.place ≡ length walk) × (b.place ≡ 0))
      by_which (inl f) (inl g) = inl (omega (arith, f.1, g.1))
      by_which (inl f) (inr g) = inr (omega (arith, f.0, f.1, g.0), omega (arith, f.0, g.0, g.1))
      by_which (inr f) (inl g) = absurd (omega (arith, f.0, g.0))
      by_which (inr f) (inr g) = inl (omega (arith, f.1, g.1))

  turned_closed : (a : Stood (length walk - 1)) (b : Stood 0) → (step_arc arcs turned (length walk - 1)).to ≡ (step_arc arcs turned 0).from
  turned_closed a b =
      arc_to (length walk - 1) a ∙ next_by a.place b.place a.inside b.inside (by_which a.which b.which) ∙ sym (arc_from 0 b)
    where
      by_which : ((length walk - 1 < length walk - p) × (a.place ≡ p + (length walk - 1))) ⊎ ((length walk - p ≤ length walk - 1) × (a.place + (length walk - p) ≡ length walk - 1)) →
          ((0 < length walk - p) × (b.place ≡ p + 0)) ⊎ ((length walk - p ≤ 0) × (b.place + (length walk - p) ≡ 0)) →
          (b.place ≡ suc a.place) ⊎ ((suc a.place ≡ length walk) × (b.place ≡ 0))
      by_which (inl f) (inl g) = inr (omega (arith, f.0, f.1), omega (arith, f.0, f.1, g.1))
      by_which (inl f) (inr g) = absurd (omega (arith, g.0))
      by_which (inr f) (inl g) = inl (omega (arith, f.0, f.1, g.1))
      by_which (inr f) (inr g) = absurd (omega (arith, g.0))

  stood_apart : (k l : ℕ) (a : Stood k) (b : Stood l) → k < length walk → l < length walk → a.place ≡ b.place → k ≡ l
  stood_apart k l a b hk hl same = by_which a.which b.which
    where
      by_which : ((k < length walk - p) × (a.place ≡ p + k)) ⊎ ((length walk - p ≤ k) × (a.place + (length walk - p) ≡ k)) →
          ((l < length walk - p) × (b.place ≡ p + l)) ⊎ ((length walk - p ≤ l) × (b.place + (length walk - p) ≡ l)) → k ≡ l
      by_which (inl f) (inl g) = omega (arith, same, f.1, g.1)
      by_which (inl f) (inr g) = absurd (omega (arith, same, f.1, g.0, g.1))
      by_which (inr f) (inl g) = absurd (omega (arith, same, f.0, f.1, g.1))
      by_which (inr f) (inr g) = omega (arith, same, f.1, g.1)

  -- the arc at the beginning is the least
  turned_least : (k : ℕ) → 0 < k → k < length walk → (a : Stood 0) (b : Stood k) → slice_index turned 0 < slice_index turned k
  turned_least k some less a b = by_which a.which
    where
      by_which : ((0 < length walk - p) × (a.place ≡ p + 0)) ⊎ ((length walk - p ≤ 0) × (a.place + (length walk - p) ≡ 0)) →
          slice_index turned 0 < slice_index turned k
      by_which (inr g) = absurd (omega (arith, g.0))
      by_which (inl f) = by_arc (cases_eq (slice_index walk p) (slice_index walk b.place))
        where
          here : a.place ≡ p
          here = omega (arith, f.1)

          begin : slice_index turned 0 ≡ slice_index walk p
          begin = a.same ∙ ap (slice_index walk) here

          by_arc : (slice_index walk p ≡ slice_index walk b.place) ⊎ (slice_index walk p ≡ slice_index walk b.place → ⊥) →
              slice_index turned 0 < slice_index turned k
          by_arc (inl same) =
              let twice : p ≡ b.place = is.no_node_twice p b.place within b.inside (ap (λ (i : ℕ). (arc_at arcs i).from) same) in
              let one : 0 ≡ k = stood_apart 0 k a b (omega arith) less (here ∙ twice) in
              absurd (omega (arith, one))
          by_arc (inr other) =
              let at_most = least b.place b.inside in
              omega (arith, begin, b.same, at_most, other)

  pub turned_simple : (new : List ℕ) → new ≡ turned → IsSimpleCycle arcs new
  turned_simple new is_new = subst (IsSimpleCycle arcs) (sym is_new) (record {
    cycle = record {
      some = omega (arith, turned_length);
      in_graph = λ k h. let s = stood k (omega (arith, turned_length)) in rw s.same (is.cycle.in_graph s.place s.inside);
      joined = λ k h. turned_joined k (omega (arith, turned_length)) (stood k (omega (arith, turned_length))) (stood (suc k) (omega (arith, turned_length)));
      closed = rw turned_length (turned_closed (stood (length walk - 1) (omega arith)) (stood 0 (omega arith)));
    };
    no_node_twice = λ k l hk hl same.
        let a = stood k (omega (arith, turned_length)) in
        let b = stood l (omega (arith, turned_length)) in
        stood_apart k l a b (omega (arith, turned_length)) (omega (arith, turned_length))
        (is.no_node_twice a.place b.place a.inside b.inside (sym (arc_from k a) ∙ same ∙ arc_from l b));
    least_first = λ k some h. turned_least k some (omega (arith, turned_length)) (stood 0 (omega arith)) (stood k (omega (arith, turned_length)));
  })
