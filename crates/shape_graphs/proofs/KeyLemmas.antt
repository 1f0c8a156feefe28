-- Least keys and verdicts.
use Rattle.std.proofs.Common.{◌≡◌, ℕ, suc, ◌<◌, ℤ, ◌≤ℤ◌, List, [], ◌∷◌, length, inl, inr, sym, ◌∙◌, subst, arith}
use Rattle.std.specs.Prelude.{◌<ℤ◌, ◌⊎◌, ◌↔◌}
use Rattle.std.proofs.lemmas.Int.{ints}
use Rattle.compact_types.specs.declared.places.Axis.{Axis}
use Rattle.compact_types.specs.declared.places.Axis.TheVariants.{X, Y}
use Rattle.compact_types.specs.declared.places.Key.{Key}
use Rattle.compact_types.specs.declared.places.Places.{Places}
use Rattle.compact_types.specs.declared.places.Point.{Point}
use Rattle.compact_types.specs.declared.plan.Shape.{Shape}
use Rattle.compact_types.specs.declared.search.Choice.{Choice}
use Rattle.compact_types.specs.Bests.{Objective, key_of}
use Rattle.compact_types.specs.Drawings.{IsFromZero}
use Rattle.compact_types.specs.Lookups.{along, place}
use Rattle.compact_types.specs.Orders.{IsBefore, IsListBefore, numbers_of}
use Rattle.compact_types.proofs.Laws.{before_or_equal, same_key}
use Rattle.bars.specs.Solutions.{Solves}
use Rattle.shape_graphs.specs.declared.measure.Verdict.{Verdict}
use Rattle.shape_graphs.specs.declared.measure.Verdict.TheVariants.{Cyclic, Above, Least}
use Rattle.shape_graphs.specs.Graphs.{arcs_of}
use Rattle.shape_graphs.specs.Measures.{HaveNoCycle, IsAsked, IsLeastKey, IsRight, MatchVerdict}
use Rattle.shape_graphs.specs.Paths.{HasCycle}
use Rattle.shape_graphs.proofs.PathLemmas.{cycle_is_one}

-- each number of the first points is at most that of the second
abbrev NoneAbove : List Point → List Point → Type 0
NoneAbove ps qs = (axis : Axis) (v : ℕ) → v < length ps → (along axis (place ps v)) ≤ℤ (along axis (place qs v))

rest_none_above : (p q : Point) (ps qs : List Point) → NoneAbove (p ∷ ps) (q ∷ qs) → NoneAbove ps qs
rest_none_above p q ps qs none axis v inside = none axis (suc v) (omega (arith, inside))

-- points that are nowhere above others do not come behind them
not_behind : (ps qs : List Point) → length ps ≡ length qs → NoneAbove ps qs → IsListBefore (numbers_of qs) (numbers_of ps) → ⊥
not_behind ps [] long none before = before
not_behind [] (q ∷ qs) long none before = before
not_behind (p ∷ ps) (q ∷ qs) long none (inl less) =
    let low : p.x ≤ℤ q.x = none X 0 (omega arith) in
    omega (arith, ints, low, less)
not_behind (p ∷ ps) (q ∷ qs) long none (inr (same, inl less)) =
    let low : p.y ≤ℤ q.y = none Y 0 (omega arith) in
    omega (arith, ints, low, less)
not_behind (p ∷ ps) (q ∷ qs) long none (inr (same, inr (again, before))) =
    not_behind ps qs (omega (arith, long)) (rest_none_above p q ps qs none) before

module _ (objective : Objective) (shape : Shape) (choices : List Choice) where
  -- no solution from zero comes before the least key
  pub not_before_least : (key : Key) (places : Places) → IsLeastKey objective shape choices key →
      Solves shape choices places → IsFromZero places → IsBefore (key_of objective shape places) key → ⊥
  not_before_least key places least solves from_zero (inl less) =
      let low = least.none_less places solves in
      omega (arith, ints, low, less)
  not_before_least key places least solves from_zero (inr (same, before)) =
      not_behind key.places.xy places.xy (least.solves.places_fit ∙ sym solves.places_fit)
      (least.lowest places solves same (λ axis. (from_zero axis).none_below)) before

  -- a least key is the key of its places
  least_is : (key : Key) → IsLeastKey objective shape choices key → key_of objective shape key.places ≡ key
  least_is key least = same_key (key_of objective shape key.places) key (sym least.worth) (λ i. key.places)

  least_not_before : (k l : Key) → IsLeastKey objective shape choices k → IsLeastKey objective shape choices l → IsBefore k l → ⊥
  least_not_before k l first second before =
      not_before_least l k.places second first.solves first.from_zero
      (subst (λ (m : Key). IsBefore m l) (sym (least_is k first)) before)

  -- there is at most one least key
  pub one_least : (k l : Key) → IsLeastKey objective shape choices k → IsLeastKey objective shape choices l → k ≡ l
  one_least k l first second =
      by_order (before_or_equal k l (first.solves.places_fit ∙ sym second.solves.places_fit))
    where
      by_order : IsBefore k l ⊎ ((k ≡ l) ⊎ IsBefore l k) → k ≡ l
      by_order (inl before) = absurd (least_not_before k l first second before)
      by_order (inr (inl same)) = same
      by_order (inr (inr after)) = absurd (least_not_before l k second first after)

  -- two least keys are worth the same
  one_worth : (k l : Key) → IsLeastKey objective shape choices k → IsLeastKey objective shape choices l → k.worth ≤ℤ l.worth
  one_worth k l first second =
      let low = first.none_less l.places second.solves in
      let is = second.worth in
      omega (arith, ints, low, is)

  -- some graph has a cycle
  abbrev pub SomeCycle : Type 0
  SomeCycle = (axis : Axis) × HasCycle (arcs_of axis shape choices)

  -- no graph has a cycle, and every least key is worth more than the stop
  abbrev pub AllAbove : ℤ → Type 0
  AllAbove stop = HaveNoCycle shape choices × ((key : Key) → IsLeastKey objective shape choices key → stop <ℤ key.worth)

  -- no graph has a cycle, and a least key is worth at most the stop
  abbrev pub SomeLeast : ℤ → Type 0
  SomeLeast stop = HaveNoCycle shape choices × ((key : Key) × IsLeastKey objective shape choices key × (key.worth ≤ℤ stop))

  -- the case of the verdict is settled by the choices and the stop
  abbrev pub IsSettled : {P : Type 0} → ℤ → Verdict P → Type 0
  IsSettled stop verdict =
      (MatchVerdict verdict (Unit {0}) ⊥ ⊥ ↔ SomeCycle)
      × (MatchVerdict verdict ⊥ (Unit {0}) ⊥ ↔ AllAbove stop)
      × (MatchVerdict verdict ⊥ ⊥ (Unit {0}) ↔ SomeLeast stop)

  pub exact : {P : Type 0} (stop : ℤ) (verdict : Verdict P) → IsRight objective shape choices verdict → IsAsked stop verdict → IsSettled stop verdict
  exact stop (Cyclic axis cycle) right asked =
      let found : HasCycle (arcs_of axis shape choices) = cycle_is_one (arcs_of axis shape choices) cycle.arcs right.cycle in (
        (λ here. (axis, found), λ some. tt),
        (λ here. absurd here, λ all. all.0 axis found),
        (λ here. absurd here, λ some. some.0 axis found),
      )
  exact stop (Above bound at proof) right asked =
      let above = right.above in
      let none : (key : Key) → IsLeastKey objective shape choices key → stop <ℤ key.worth =
      λ key least.
      let low = right.none_less key.places least.solves in
      let is = least.worth in
      omega (arith, ints, low, is, above, asked) in (
        (λ here. absurd here, λ some. right.no_cycle some.0 some.1),
        (λ here. (right.no_cycle, none), λ all. tt),
        (
          λ here. absurd here,
          λ some.
              let more = none some.1.0 some.1.1 in
              let low = some.1.2 in
              omega (arith, ints, more, low),
        ),
      )
  exact stop (Least key proof) right asked = (
    (λ here. absurd here, λ some. right.no_cycle some.0 some.1),
    (
      λ here. absurd here,
      λ all.
          let more = all.1 key right.least in
          omega (arith, ints, more, asked),
    ),
    (λ here. (right.no_cycle, (key, right.least, asked)), λ some. tt),
  )
