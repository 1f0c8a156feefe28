-- Amounts that have arrived are a best flow.
use Rattle.std.proofs.Common.{◌≡◌, ℕ, zero, suc, ◌+◌, ◌*◌, ◌^◌, ◌<◌, ◌≤◌, inl, inr, ℤ, pos, List, length, get_or, replicate, refl, sym, ap, ◌∙◌, arith, sum}
use Rattle.std.specs.Prelude.{◌-ℤ◌, ◌*ℤ◌, ◌≤ℤ◌}
use Rattle.std.proofs.lemmas.Int.{ints}
use Rattle.std.proofs.lemmas.Bool.{cases_lt}
use Rattle.std.proofs.lemmas.List.{get_or-replicate, length-replicate}
use Rattle.std.proofs.lemmas.List.Sums.{get_or-le-sum_by}
use lib.IntN.{*ℤ-zero, zero-*ℤ}
use Rattle.compact_types.specs.Sums.{sum_to}
use Rattle.compact_types.proofs.Laws.{sum_to-same, sum_to-not_greater}
use Rattle.shape_graphs.specs.declared.graph.Arc.{Arc}
use Rattle.shape_graphs.specs.declared.graph.TheConstants.{MOST_ARCS}
use Rattle.shape_graphs.specs.Arcs.{arc_at, EndsAreNodes, AreArcsWithin}
use Rattle.shape_graphs.specs.Flows.{amount_at, at_node, net, Balances, bound_of, IsBestFlow}
use Rattle.shape_graphs.specs.declared.graph.TheConstants.{MOST_AMOUNT}
use Rattle.diff_flow.specs.declared.steps.ResidualArc.{ResidualArc}
use Rattle.diff_flow.specs.Amounts.{IsFlowOn}
use Rattle.diff_flow.specs.Tight.{AreTight}
use Rattle.diff_flow.specs.Improving.{IsBestByNumbers, IsRaised}
use Rattle.diff_flow.specs.inner.Steps.{step_at, along_at, AreStepsOf, ArePaired, IsResidual, AreMet}
use Rattle.diff_flow.specs.inner.Numbers.{height, AreLeastMet}
use Rattle.diff_flow.specs.inner.Routing.{net_by, IsSpread, IsRouting, AreDropped, AreGiven, AreFirst}
use Rattle.compact_types.proofs.Laws.{times-le_pos}
use Rattle.diff_flow.proofs.SignedLemmas.{times_suc}
use Rattle.diff_flow.proofs.SetLemmas.{sum_most}
use Rattle.diff_flow.proofs.TightLemmas.{nat, nat_is, tight_where_met}
use Rattle.diff_flow.proofs.LowLemmas.{sum_low, amounts_low}
use Rattle.diff_flow.proofs.RouteLemmas.{along_number, against_number}
use Rattle.diff_flow.proofs.RoundLemmas.{rises_along}

pub zero_at : (n v : ℕ) → get_or (replicate {A = ℕ} n 0) v 0 ≡ 0
zero_at n v =
    elim (cases_lt v n) [
      | inl inside ↦ get_or-replicate {A = ℕ} n v 0 0 inside
      | inr beyond ↦ Rattle.std.proofs.lemmas.List.get_or_past (replicate {A = ℕ} n 0) v 0 (omega (arith, length-replicate {A = ℕ} n 0))
    ]

no_sum : (n : ℕ) → sum (replicate {A = ℕ} n 0) ≡ 0
no_sum n =
    let most = sum_most (replicate {A = ℕ} n 0) n 0 (length-replicate {A = ℕ} n 0) (λ v inside. omega (arith, zero_at n v)) in
    omega (arith, most)

-- least numbers that meet steps are first ones
pub walks_meet : (nodes arcs limit : ℕ) (steps : List ResidualArc) (amounts numbers : List ℕ) → ArePaired arcs steps →
    AreLeastMet nodes steps amounts limit numbers → AreFirst nodes arcs limit steps numbers
walks_meet nodes arcs limit steps amounts numbers paired least = record {
  one_for_each = least.low.one_for_each;
  low = least.low.inside;
  met = rises_along arcs steps amounts (height numbers) paired least.met;
}

-- nothing is dropped yet
pub dropped_first : (nodes arcs : ℕ) (steps : List ResidualArc) (numbers given : List ℕ) → length given ≡ arcs →
    ((i : ℕ) → i < arcs → amount_at given i ≤ 2 ^ 50) →
    AreDropped nodes arcs 0 steps numbers given (replicate {A = ℕ} nodes 0) (replicate {A = ℕ} nodes 0)
dropped_first nodes arcs steps numbers given all low = record {
  even = record {
    amounts_for_each = all;
    over_for_each = length-replicate {A = ℕ} nodes 0;
    want_for_each = length-replicate {A = ℕ} nodes 0;
    even = refl;
    few = omega (arith, no_sum nodes);
  };
  low = omega (arith, no_sum nodes);
  rest = λ i from inside. low i inside;
  tight = λ i before. absurd (omega arith);
}

pub spread_first : (nodes arcs : ℕ) (steps : List ResidualArc) (given : List ℕ) →
    IsSpread nodes arcs steps given given (replicate {A = ℕ} nodes 0) (replicate {A = ℕ} nodes 0)
spread_first nodes arcs steps given v inside = refl

-- numbers that meet all arcs, and just meet those with an amount, meet all open steps
pub met_where_just : (arcs : ℕ) (steps : List ResidualArc) (amounts numbers : List ℕ) → ArePaired arcs steps →
    ((k : ℕ) → k < arcs → height numbers (along_at steps k).from + (along_at steps k).up ≤ height numbers (along_at steps k).to) →
    ((k : ℕ) → k < arcs → 0 < amount_at amounts k →
    height numbers (along_at steps k).to ≤ height numbers (along_at steps k).from + (along_at steps k).up) →
    AreMet steps amounts (height numbers)
met_where_just arcs steps amounts numbers paired met just k inside opens =
    elim (cases_lt 0 (step_at steps k).up) [
      | inl up ↦
          let number = along_number arcs steps paired k inside up in
          let is = met number.0 number.1 in
          let from : height numbers (step_at steps k).from ≡ height numbers (along_at steps number.0).from =
          ap (λ j. height numbers (step_at steps j).from) number.2 in
          let to : height numbers (step_at steps k).to ≡ height numbers (along_at steps number.0).to =
          ap (λ j. height numbers (step_at steps j).to) number.2 in
          let same : (step_at steps k).up ≡ (along_at steps number.0).up = ap (λ j. (step_at steps j).up) number.2 in
          omega (arith, is, from, to, same)
      | inr none ↦
          let up : (step_at steps k).up ≡ 0 = omega arith in
          let number = against_number arcs steps paired k inside up in
          let some : 0 < amount_at amounts number.0 = rw number.3 at (some_at k up opens) in
          let is = just number.0 number.1 some in
          let back = paired.back number.0 number.1 in
          let from : height numbers (step_at steps k).from ≡ height numbers (along_at steps number.0).to =
          ap (λ j. height numbers (step_at steps j).from) number.2 ∙ ap (height numbers) back.from in
          let to : height numbers (step_at steps k).to ≡ height numbers (along_at steps number.0).from =
          ap (λ j. height numbers (step_at steps j).to) number.2 ∙ ap (height numbers) back.to in
          let down : (step_at steps k).down ≡ (along_at steps number.0).up = ap (λ j. (step_at steps j).down) number.2 ∙ back.down in
          omega (arith, is, from, to, down, up)
    ]
  where
    some_at : (k : ℕ) → (step_at steps k).up ≡ 0 → IsResidual amounts (step_at steps k) → 0 < amount_at amounts (step_at steps k).arc
    some_at k up opens = omega (arith, up, opens)

-- all amounts that are left are tight
pub routing_first : (nodes arcs limit : ℕ) (steps : List ResidualArc) (given amounts numbers over want : List ℕ) → ArePaired arcs steps →
    length numbers ≡ nodes → ((v : ℕ) → v < nodes → height numbers v ≤ limit) →
    ((k : ℕ) → k < arcs → height numbers (along_at steps k).from + (along_at steps k).up ≤ height numbers (along_at steps k).to) →
    AreGiven arcs given → AreDropped nodes arcs arcs steps numbers amounts over want → IsSpread nodes arcs steps given amounts over want →
    IsRouting nodes arcs limit steps amounts numbers over want
routing_first nodes arcs limit steps given amounts numbers over want paired one_for_each low met few dropped spread = record {
  even = dropped.even;
  fit = record {
    one_for_each = one_for_each;
    met = met_where_just arcs steps amounts numbers paired met (λ k inside some. let just = dropped.tight k inside inside some in omega (arith, just));
    low = λ v inside. omega (arith, low v inside);
    lacking = λ v inside some. low v inside;
  };
  given = (given, few, spread);
}

-- without excess nothing lacks, and the amounts balance as the given ones do
pub arrived : (nodes arcs limit : ℕ) (steps : List ResidualArc) (given amounts numbers over want : List ℕ) →
    IsRouting nodes arcs limit steps amounts numbers over want → IsSpread nodes arcs steps given amounts over want →
    ((v : ℕ) → v < nodes → get_or over v 0 ≡ 0) →
    (v : ℕ) → v < nodes → net_by steps arcs amounts v ≡ net_by steps arcs given v
arrived nodes arcs limit steps given amounts numbers over want routing spread none v inside =
    let is = spread v inside in
    let no_over = sum_most over nodes 0 routing.even.over_for_each (λ u u_in. omega (arith, none u u_in)) in
    let no_want = get_or-le-sum_by (λ x. x) want v 0 (omega (arith, inside, routing.even.want_for_each)) in
    let here = none v inside in
    let lacks : get_or want v 0 ≡ 0 = omega (arith, no_over, no_want, routing.even.even) in
    omega (arith, ints, is, here, lacks)

-- steps and arcs give one net
pub net_same : (arcs : List Arc) (steps : List ResidualArc) (amounts : List ℕ) (v : ℕ) → AreStepsOf arcs steps →
    net_by steps (length arcs) amounts v ≡ net arcs (λ i. pos (amount_at amounts i)) v
net_same arcs steps amounts v are = sum_to-same _ _ (length arcs) (λ i inside. let is = are.along i inside in
    two (pos (amount_at amounts i)) is.from is.to)
  where
    two : (z : ℤ) {a b a' b' : ℕ} → a ≡ a' → b ≡ b' → at_node b v z -ℤ at_node a v z ≡ at_node b' v z -ℤ at_node a' v z
    two z {a} {b} {a'} {b'} e f =
        let p : at_node a v z ≡ at_node a' v z = ap (λ w. at_node w v z) e in
        let q : at_node b v z ≡ at_node b' v z = ap (λ w. at_node w v z) f in
        omega (arith, ints, p, q)

pub pulls_few : (arcs : List Arc) → AreArcsWithin arcs → length arcs ≤ MOST_ARCS →
    sum_to (λ j. (arc_at arcs j).pull) (length arcs) ≤ℤ pos MOST_AMOUNT
pulls_few arcs within few =
    let same = sum_to-same (λ j. pos (nat (arc_at arcs j).pull)) (λ j. (arc_at arcs j).pull) (length arcs)
    (λ j inside. nat_is (arc_at arcs j).pull (within j inside).some_pull) in
    let low = sum_low (λ j. nat (arc_at arcs j).pull) (length arcs) 1000
    (λ j inside. let is = nat_is (arc_at arcs j).pull (within j inside).some_pull in
    let most = (within j inside).most_pull in omega (arith, ints, is, most)) in
    omega (arith, ints, same, low, few)

module _ (nodes : ℕ) (arcs : List Arc) (steps : List ResidualArc) (given amounts : List ℕ) (h : ℕ → ℕ) (ends : EndsAreNodes nodes arcs)
    (within : AreArcsWithin arcs) (few : length arcs ≤ MOST_ARCS) (are : AreStepsOf arcs steps) (balances : Balances nodes arcs given)
    (all : length amounts ≡ length arcs)
    (net_kept : (v : ℕ) → v < nodes → net_by steps (length arcs) amounts v ≡ net_by steps (length arcs) given v) where
  pub balances_kept : Balances nodes arcs amounts
  balances_kept = record {
    one_for_each = all;
    each = λ v inside. sym (net_same arcs steps amounts v are) ∙ net_kept v inside ∙ net_same arcs steps given v are ∙ balances.each v inside;
  }

  module _ (met : AreMet steps amounts h) where
    is_tight : AreTight nodes arcs amounts (λ v. pos (h v))
    is_tight = tight_where_met nodes arcs steps amounts ends are within h met

    pub best_low : (i : ℕ) → i < length arcs → amount_at amounts i ≤ MOST_AMOUNT
    best_low i inside =
        let low = amounts_low nodes arcs amounts (λ v. pos (h v)) ends within balances_kept is_tight.solution i inside in
        let pulls = pulls_few arcs within few in
        omega (arith, ints, low, pulls)

    pub best_by_numbers : IsBestByNumbers nodes arcs amounts
    best_by_numbers = record {
      flow = record { one_for_each = all; most = best_low };
      balances = balances_kept;
      tight = ((λ v. pos (h v)), is_tight);
    }

-- a flow whose bound was raised was not best
pub raised_not_best : (nodes : ℕ) (arcs : List Arc) (amounts amounts' : List ℕ) (by : ℤ) → IsRaised nodes arcs amounts amounts' by →
    IsBestFlow nodes arcs amounts → ⊥
raised_not_best nodes arcs amounts amounts' by raised best =
    let most = best.best amounts' raised.balances in
    omega (arith, ints, most, raised.some, raised.rise)

times_nat : (x k : ℕ) → pos x *ℤ pos k ≡ pos (x * k)
times_nat zero k = omega (arith, ints, zero-*ℤ (pos k))
times_nat (suc x) k = omega (arith, ints, times_suc x (pos k), times_nat x k)

-- the bound of a flow is far from what a number can hold
pub bound_within : (arcs : List Arc) (amounts : List ℕ) → AreArcsWithin arcs → length arcs ≤ MOST_ARCS → IsFlowOn arcs amounts →
    (pos 0 ≤ℤ bound_of arcs amounts) × (bound_of arcs amounts ≤ℤ pos (2 ^ 90))
bound_within arcs amounts within few flow =
    let low = sum_to-not_greater (λ i. pos 0) (λ i. pos (amount_at amounts i) *ℤ (arc_at arcs i).least) (length arcs)
    (λ i inside. let one = (within i inside).some_least in
    let less = times-le_pos (amount_at amounts i) (pos 0) (arc_at arcs i).least (omega (arith, ints, one)) in
    let none = *ℤ-zero (pos (amount_at amounts i)) in
    omega (arith, ints, less, none)) in
    let nothing = Rattle.compact_types.proofs.Laws.sum_to-nothing (length arcs) in
    let high = sum_to-not_greater (λ i. pos (amount_at amounts i) *ℤ (arc_at arcs i).least) (λ i. pos (2 ^ 60)) (length arcs)
    (λ i inside. let most = (within i inside).most_least in
    let less = times-le_pos (amount_at amounts i) (arc_at arcs i).least (pos 1000) most in
    let is = times_nat (amount_at amounts i) 1000 in
    let amount = flow.most i inside in
    omega (arith, ints, less, is, amount)) in
    let total = sum_low (λ i. 2 ^ 60) (length arcs) (2 ^ 60) (λ i inside. omega arith) in
    (omega (arith, ints, low, nothing), omega (arith, ints, high, total, few))
