-- Tight numbers as numbers that meet steps, and without gaps.
use Rattle.std.proofs.Common.{◌≡◌, ℕ, zero, suc, ◌+◌, ◌-◌, ◌*◌, ◌<◌, inl, inr, List, [], ◌∷◌, length, map, refl, ap, arith, ℤ, pos}
use Rattle.std.specs.Prelude.{◌≤ℤ◌, ◌-ℤ◌, negsuc}
use Rattle.std.proofs.lemmas.Int.{ints}
use Rattle.std.proofs.lemmas.Bool.{cases_lt}
use Rattle.shape_graphs.specs.declared.graph.Arc.{Arc}
use Rattle.shape_graphs.specs.Arcs.{arc_at, EndsAreNodes, AreArcsWithin}
use Rattle.shape_graphs.specs.Flows.{amount_at, over}
use Rattle.shape_graphs.specs.Flows.{number_at}
use Rattle.diff_flow.specs.Tight.{AreTight, AreLeastTight}
use Rattle.diff_flow.specs.declared.steps.ResidualArc.{ResidualArc}
use Rattle.diff_flow.specs.inner.Steps.{step_at, along_at, against_at, IsAlongArc, IsAgainstArc, AreStepsOf, IsResidual, MeetsStep, AreMet}
use Rattle.diff_flow.specs.inner.Numbers.{height, AreLeastMet, NoneMeet}
use Rattle.diff_flow.proofs.StepLemmas.{by_direction}
use Rattle.diff_flow.proofs.Gaps.{closed, closed_most, closed_keeps, all_covered}

-- a number that is not negative
pub nat : ℤ → ℕ
nat (pos n) = n
nat (negsuc n) = 0

pub nat_is : (z : ℤ) → pos 0 ≤ℤ z → pos (nat z) ≡ z
unfolding nat
nat_is (pos n) h = refl
nat_is (negsuc n) h = absurd (omega (arith, ints))

pub nat_some : (z : ℤ) → 0 < nat z → pos 1 ≤ℤ z
unfolding nat
nat_some (pos n) some = omega (arith, ints, some)
nat_some (negsuc n) some = absurd (omega (arith, some))

-- tight numbers meet the steps
module _ (nodes : ℕ) (arcs : List Arc) (steps : List ResidualArc) (amounts : List ℕ) (ends : EndsAreNodes nodes arcs) (are : AreStepsOf arcs steps) where
  pub met_where_tight : (p : ℕ → ℤ) → AreTight nodes arcs amounts p → AreMet steps amounts (λ v. nat (p v))
  met_where_tight p tight k inside opens =
      by_direction (λ j. IsResidual amounts (step_at steps j) → MeetsStep (λ v. nat (p v)) (step_at steps j)) (length arcs) k (omega (arith, are.two_for_each))
      (λ i front _. along (are.along i front) (tight.solution i front)
      (tight.from_zero _ (ends i front).0) (tight.from_zero _ (ends i front).1))
      (λ i back some. against (are.against i back) (λ more. tight.tight i back more)
      (tight.from_zero _ (ends i back).0) (tight.from_zero _ (ends i back).1) some)
      opens
    where
      along : {arc : Arc} {i : ℕ} {step : ResidualArc} → IsAlongArc arc i step → arc.least ≤ℤ (p arc.to -ℤ p arc.from) →
          pos 0 ≤ℤ p arc.from → pos 0 ≤ℤ p arc.to → MeetsStep (λ v. nat (p v)) step
      along {arc} {i} {step} is kept from to =
          let a : nat (p step.from) ≡ nat (p arc.from) = ap (λ v. nat (p v)) is.from in
          let b : nat (p step.to) ≡ nat (p arc.to) = ap (λ v. nat (p v)) is.to in
          let c = nat_is (p arc.from) from in
          let d = nat_is (p arc.to) to in
          omega (arith, ints, a, b, c, d, kept, is.up, is.down)

      against : {arc : Arc} {i : ℕ} {step : ResidualArc} → IsAgainstArc arc i step → (0 < amount_at amounts i → p arc.to -ℤ p arc.from ≡ arc.least) →
          pos 0 ≤ℤ p arc.from → pos 0 ≤ℤ p arc.to → IsResidual amounts step → MeetsStep (λ v. nat (p v)) step
      against {arc} {i} {step} is kept from to opens =
          let same : amount_at amounts step.arc ≡ amount_at amounts i = ap (amount_at amounts) is.number in
          let just = kept (omega (arith, opens, same, is.up)) in
          let a : nat (p step.from) ≡ nat (p arc.to) = ap (λ v. nat (p v)) is.from in
          let b : nat (p step.to) ≡ nat (p arc.from) = ap (λ v. nat (p v)) is.to in
          let c = nat_is (p arc.from) from in
          let d = nat_is (p arc.to) to in
          omega (arith, ints, a, b, c, d, just, is.up, is.down)

  -- and numbers that meet them are tight
  pub tight_where_met : AreArcsWithin arcs → (h : ℕ → ℕ) → AreMet steps amounts h → AreTight nodes arcs amounts (λ v. pos (h v))
  tight_where_met within h met = record {
    from_zero = λ v inside. omega (arith, ints);
    solution = λ i inside. solved i inside;
    tight = λ i inside some.
        let least = solved i inside in
        let step = against_at steps i in
        let is = are.against i inside in
        let same : amount_at amounts (against_at steps i).arc ≡ amount_at amounts i = ap (amount_at amounts) is.number in
        let kept = met (2 * i + 1) (omega (arith, are.two_for_each)) (omega (arith, same, some)) in
        let a : h (against_at steps i).from ≡ h (arc_at arcs i).to = ap h is.from in
        let b : h (against_at steps i).to ≡ h (arc_at arcs i).from = ap h is.to in
        omega (arith, ints, kept, a, b, is.up, is.down, least);
  }
    where
      solved : (i : ℕ) → i < length arcs → (arc_at arcs i).least ≤ℤ over arcs (λ v. pos (h v)) i
      solved i inside =
          let is = are.along i inside in
          let some = (within i inside).some_least in
          let kept = met (2 * i) (omega (arith, are.two_for_each)) (omega (arith, ints, is.up, some)) in
          let a : h (along_at steps i).from ≡ h (arc_at arcs i).from = ap h is.from in
          let b : h (along_at steps i).to ≡ h (arc_at arcs i).to = ap h is.to in
          omega (arith, ints, kept, a, b, is.up, is.down)

  pub none_tight : NoneMeet steps amounts → (p : ℕ → ℤ) → AreTight nodes arcs amounts p → ⊥
  none_tight none p tight = none (λ v. nat (p v)) (met_where_tight p tight)

  pub least_where_met : AreArcsWithin arcs → (limit : ℕ) (numbers : List ℕ) → AreLeastMet nodes steps amounts limit numbers →
      AreLeastTight nodes arcs amounts (λ v. pos (height numbers v))
  least_where_met within limit numbers least = record {
    tight = tight_where_met within (height numbers) least.met;
    least = λ others tight v inside.
        let low = least.low.below (λ u. nat (others u)) (met_where_tight others tight) v inside in
        let is = nat_is (others v) (tight.from_zero v inside) in
        omega (arith, ints, low, is);
  }

-- the same numbers at every node
pub least_same : (nodes : ℕ) (arcs : List Arc) (amounts : List ℕ) (p q : ℕ → ℤ) → ((v : ℕ) → q v ≡ p v) →
    AreLeastTight nodes arcs amounts p → AreLeastTight nodes arcs amounts q
least_same nodes arcs amounts p q same least = record {
  tight = record {
    from_zero = λ v inside. let is = same v in let low = least.tight.from_zero v inside in omega (arith, ints, is, low);
    solution = λ i inside. let kept = least.tight.solution i inside in
        let a = same (arc_at arcs i).from in let b = same (arc_at arcs i).to in omega (arith, ints, kept, a, b);
    tight = λ i inside some. let kept = least.tight.tight i inside some in
        let a = same (arc_at arcs i).from in let b = same (arc_at arcs i).to in omega (arith, ints, kept, a, b);
  };
  least = λ others tight v inside. let low = least.least others tight v inside in let is = same v in omega (arith, ints, low, is);
}

pub number_signed : (numbers : List ℕ) (v : ℕ) → number_at (map pos numbers) v ≡ pos (height numbers v)
number_signed [] v = refl
number_signed (x ∷ xs) zero = refl
number_signed (x ∷ xs) (suc v) = number_signed xs v

-- tight numbers without gaps
pub tight_without_gaps : (nodes reach : ℕ) (arcs : List Arc) (amounts : List ℕ) (p : ℕ → ℤ) → EndsAreNodes nodes arcs → AreArcsWithin arcs →
    ((i : ℕ) → i < length arcs → (arc_at arcs i).least ≤ℤ pos reach) → AreTight nodes arcs amounts p →
    AreTight nodes arcs amounts (λ v. pos (closed reach (λ u. nat (p u)) nodes (nat (p v))))
tight_without_gaps nodes reach arcs amounts p ends within low tight = record {
  from_zero = λ v inside. omega (arith, ints);
  solution = λ i inside. solved i inside;
  tight = λ i inside some.
      let least = solved i inside in
      let just = tight.tight i inside some in
      let one = (within i inside).some_least in
      let most = low i inside in
      let l = nat_is (arc_at arcs i).least (omega (arith, ints, one)) in
      let a = nat_is (p (arc_at arcs i).from) (tight.from_zero _ (ends i inside).0) in
      let b = nat_is (p (arc_at arcs i).to) (tight.from_zero _ (ends i inside).1) in
      let kept = closed_keeps reach (λ u. nat (p u)) nodes (arc_at arcs i).to (arc_at arcs i).from 0 (nat (arc_at arcs i).least)
      (ends i inside).1 (ends i inside).0 (omega arith) (omega (arith, ints, l, most)) (omega (arith, ints, a, b, l, just)) in
      omega (arith, ints, kept, least, l);
}
  where
    solved : (i : ℕ) → i < length arcs → (arc_at arcs i).least ≤ℤ over arcs (λ v. pos (closed reach (λ u. nat (p u)) nodes (nat (p v)))) i
    solved i inside =
        let met = tight.solution i inside in
        let one = (within i inside).some_least in
        let most = low i inside in
        let l = nat_is (arc_at arcs i).least (omega (arith, ints, one)) in
        let a = nat_is (p (arc_at arcs i).from) (tight.from_zero _ (ends i inside).0) in
        let b = nat_is (p (arc_at arcs i).to) (tight.from_zero _ (ends i inside).1) in
        let kept = closed_keeps reach (λ u. nat (p u)) nodes (arc_at arcs i).from (arc_at arcs i).to (nat (arc_at arcs i).least) 0
        (ends i inside).0 (ends i inside).1 (omega (arith, ints, l, most)) (omega arith) (omega (arith, ints, a, b, l, met)) in
        omega (arith, ints, kept, l)

pub least_low : (nodes : ℕ) (arcs : List Arc) (amounts : List ℕ) (p : ℕ → ℤ) (reach : ℕ) → EndsAreNodes nodes arcs → AreArcsWithin arcs →
    ((i : ℕ) → i < length arcs → (arc_at arcs i).least ≤ℤ pos reach) → AreLeastTight nodes arcs amounts p →
    (v : ℕ) → v < nodes → p v ≤ℤ pos (reach * (nodes - 1))
least_low nodes arcs amounts p reach ends within low least v inside =
    let gapless = tight_without_gaps nodes reach arcs amounts p ends within low least.tight in
    let below = least.least _ gapless v inside in
    let most = closed_most reach (λ u. nat (p u)) nodes v inside in
    omega (arith, ints, below, most)

pub least_taken : (nodes : ℕ) (arcs : List Arc) (amounts : List ℕ) (p : ℕ → ℤ) → EndsAreNodes nodes arcs → AreArcsWithin arcs →
    ((i : ℕ) → i < length arcs → (arc_at arcs i).least ≡ pos 1) → AreLeastTight nodes arcs amounts p →
    (x v : ℕ) → v < nodes → pos x ≤ℤ p v → (u : ℕ) × (u < nodes) × (p u ≡ pos x)
least_taken nodes arcs amounts p ends within ones least x v inside high =
    let is = nat_is (p v) (least.tight.from_zero v inside) in
    elim (cases_lt x (nat (p v))) [
      | inl below ↦
          let gapless = tight_without_gaps nodes 1 arcs amounts p ends within (λ i i_in. let one = ones i i_in in omega (arith, ints, one)) least.tight in
          let all = least.least _ gapless v inside in
          let found = all_covered 1 (λ u. nat (p u)) nodes (nat (p v)) x below (omega (arith, ints, all, is)) in
          let at = nat_is (p found.0) (least.tight.from_zero found.0 found.1) in
          (found.0, found.1, omega (arith, ints, at, found.2, found.3))
      | inr up ↦ (v, inside, omega (arith, ints, is, high, up))
    ]
