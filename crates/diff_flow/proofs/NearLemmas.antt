-- The bound of a flow with a unit on another way.
use Rattle.std.proofs.Common.{◌≡◌, ℕ, zero, suc, ◌^◌, ◌<◌, ◌≤◌, inl, inr, ℤ, pos, List, length, sym, ap, ◌∙◌, arith}
use Rattle.std.specs.Prelude.{◌+ℤ◌, ◌-ℤ◌, ◌*ℤ◌, ◌≤ℤ◌}
use Rattle.std.proofs.lemmas.Int.{ints}
use Rattle.std.proofs.lemmas.Bool.{cases_lt}
use lib.IntN.{*ℤ-zero}
use Rattle.compact_types.specs.Sums.{sum_to}
use Rattle.compact_types.proofs.Laws.{sum_to-same, sum_to-add, sum_to-not_greater}
use Rattle.shape_graphs.specs.declared.graph.Arc.{Arc}
use Rattle.shape_graphs.specs.declared.graph.TheConstants.{MOST_ARCS}
use Rattle.shape_graphs.specs.Arcs.{arc_at, EndsAreNodes, AreArcsWithin}
use Rattle.shape_graphs.specs.Flows.{amount_at, Balances, bound_of, IsSolution, length_over, over}
use Rattle.diff_flow.specs.declared.steps.ResidualArc.{ResidualArc}
use Rattle.diff_flow.specs.Amounts.{IsFlowOn}
use Rattle.diff_flow.specs.inner.Steps.{along_at, AreStepsOf, AreMet}
use Rattle.diff_flow.specs.inner.Numbers.{height}
use Rattle.diff_flow.specs.inner.Routing.{IsSlack, IsDetour, IsNear, net_by}
use Rattle.compact_types.proofs.Laws.{times-sub}
use Rattle.diff_flow.proofs.SignedLemmas.{times_suc, same_terms}
use Rattle.diff_flow.proofs.Duality.{carried_length}
use Rattle.diff_flow.proofs.TightLemmas.{tight_where_met}
use Rattle.diff_flow.proofs.LowLemmas.{sum_low, amounts_low}
use Rattle.diff_flow.proofs.BestLemmas.{balances_kept, pulls_few, net_same}

times-more : (x y : ℕ) (l : ℤ) → x ≤ y → pos 0 ≤ℤ l → (pos x *ℤ l) ≤ℤ (pos y *ℤ l)
times-more x zero l le low = let e : x ≡ 0 = omega arith in rw e (omega (arith, ints))
times-more x (suc y) l le low =
    elim (cases_lt x (suc y)) [
      | inl less ↦ omega (arith, ints, times_suc y l, times-more x y l (omega arith) low, low)
      | inr same ↦ let e : x ≡ suc y = omega arith in rw e (omega (arith, ints))
    ]

-- a sum of terms of which none is greater and one is less
less_sum : (f g : ℕ → ℤ) (n i : ℕ) → i < n → ((j : ℕ) → j < n → (f j) ≤ℤ (g j)) → (f i +ℤ pos 1) ≤ℤ (g i) →
    (sum_to f n +ℤ pos 1) ≤ℤ (sum_to g n)
less_sum f g n i inside each less =
    strict (sum_to f n) (sum_to g n) (sum_to-not_greater f g n each)
    (λ same. let e = same_terms f g n each same i inside in omega (arith, ints, e, less))
  where
    strict : (a b : ℤ) → a ≤ℤ b → (a ≡ b → ⊥) → (a +ℤ pos 1) ≤ℤ b
    strict a b le apart = omega (arith, ints, le, apart)

module _ (nodes : ℕ) (arcs : List Arc) (steps : List ResidualArc) (given near best numbers : List ℕ) (i : ℕ) (ends : EndsAreNodes nodes arcs)
    (within : AreArcsWithin arcs) (few : length arcs ≤ MOST_ARCS) (are : AreStepsOf arcs steps) (balances : Balances nodes arcs given)
    (slack : IsSlack (length arcs) steps given numbers i) (is : IsDetour nodes (length arcs) steps numbers given near i)
    (met : AreMet steps best (height numbers)) where
  solution : IsSolution arcs (λ v. pos (height numbers v))
  solution = (tight_where_met nodes arcs steps best ends are within (height numbers) met).solution

  near_balances : Balances nodes arcs near
  near_balances = balances_kept nodes arcs steps given near (height numbers) ends within few are balances
      (is.one_for_each ∙ balances.one_for_each) is.net

  near_flow : IsFlowOn arcs near
  near_flow = record {
    one_for_each = is.one_for_each ∙ balances.one_for_each;
    most = λ k inside.
        let low = amounts_low nodes arcs near (λ v. pos (height numbers v)) ends within near_balances solution k inside in
        let pulls = pulls_few arcs within few in
        omega (arith, ints, low, pulls);
  }

  -- what the amounts carry above the leasts, and the bound, are the length of the numbers
  above_sum : (amounts : List ℕ) → Balances nodes arcs amounts →
      sum_to (λ k. pos (amount_at amounts k) *ℤ (over arcs (λ v. pos (height numbers v)) k -ℤ (arc_at arcs k).least)) (length arcs)
      +ℤ bound_of arcs amounts ≡ length_over arcs (λ v. pos (height numbers v))
  above_sum amounts balance =
      let parts = sum_to-add (λ k. pos (amount_at amounts k) *ℤ (over arcs (λ v. pos (height numbers v)) k -ℤ (arc_at arcs k).least))
      (λ k. pos (amount_at amounts k) *ℤ (arc_at arcs k).least) (length arcs) in
      let whole = sum_to-same
      (λ k. pos (amount_at amounts k) *ℤ (over arcs (λ v. pos (height numbers v)) k -ℤ (arc_at arcs k).least)
      +ℤ pos (amount_at amounts k) *ℤ (arc_at arcs k).least)
      (λ k. pos (amount_at amounts k) *ℤ over arcs (λ v. pos (height numbers v)) k) (length arcs)
      (λ k inside. let e = times-sub (pos (amount_at amounts k)) (over arcs (λ v. pos (height numbers v)) k) (arc_at arcs k).least in
      omega (arith, ints, e)) in
      let length_is = carried_length nodes arcs amounts (λ v. pos (height numbers v)) ends balance in
      omega (arith, ints, parts, whole, length_is)

  tight_over : (k : ℕ) → k < length arcs → amount_at given k < amount_at near k →
      over arcs (λ v. pos (height numbers v)) k -ℤ (arc_at arcs k).least ≡ pos 0
  tight_over k inside more =
      let along = are.along k inside in
      let just = is.tight k inside more in
      let a : height numbers (along_at steps k).from ≡ height numbers (arc_at arcs k).from = ap (height numbers) along.from in
      let b : height numbers (along_at steps k).to ≡ height numbers (arc_at arcs k).to = ap (height numbers) along.to in
      omega (arith, ints, just, a, b, along.up)

  near_higher : (bound_of arcs given +ℤ pos 1) ≤ℤ bound_of arcs near
  near_higher =
      let less = less_sum _ _ (length arcs) i slack.inside each strict_here in
      let old = above_sum given balances in
      let new = above_sum near near_balances in
      omega (arith, ints, less, old, new)
    where
      each : (k : ℕ) → k < length arcs → (pos (amount_at near k) *ℤ (over arcs (λ v. pos (height numbers v)) k -ℤ (arc_at arcs k).least))
          ≤ℤ (pos (amount_at given k) *ℤ (over arcs (λ v. pos (height numbers v)) k -ℤ (arc_at arcs k).least))
      each k inside =
          elim (cases_lt (amount_at given k) (amount_at near k)) [
            | inl more ↦
                let none = tight_over k inside more in
                let a : pos (amount_at near k) *ℤ (over arcs (λ v. pos (height numbers v)) k -ℤ (arc_at arcs k).least) ≡ pos 0 =
                ap (λ (z : ℤ). pos (amount_at near k) *ℤ z) none ∙ *ℤ-zero (pos (amount_at near k)) in
                let b : pos (amount_at given k) *ℤ (over arcs (λ v. pos (height numbers v)) k -ℤ (arc_at arcs k).least) ≡ pos 0 =
                ap (λ (z : ℤ). pos (amount_at given k) *ℤ z) none ∙ *ℤ-zero (pos (amount_at given k)) in
                omega (arith, ints, a, b)
            | inr most ↦
                let solved = solution k inside in
                times-more (amount_at near k) (amount_at given k) _ most (omega (arith, ints, solved))
          ]

      strict_here : (pos (amount_at near i) *ℤ (over arcs (λ v. pos (height numbers v)) i -ℤ (arc_at arcs i).least) +ℤ pos 1)
          ≤ℤ (pos (amount_at given i) *ℤ (over arcs (λ v. pos (height numbers v)) i -ℤ (arc_at arcs i).least))
      strict_here =
          let along = are.along i slack.inside in
          let a : height numbers (along_at steps i).from ≡ height numbers (arc_at arcs i).from = ap (height numbers) along.from in
          let b : height numbers (along_at steps i).to ≡ height numbers (arc_at arcs i).to = ap (height numbers) along.to in
          let some : pos 1 ≤ℤ (over arcs (λ v. pos (height numbers v)) i -ℤ (arc_at arcs i).least) =
          omega (arith, ints, slack.more, a, b, along.up) in
          let more = times-more (suc (amount_at near i)) (amount_at given i) (over arcs (λ v. pos (height numbers v)) i -ℤ (arc_at arcs i).least)
          (omega (arith, is.less)) (omega (arith, ints, some)) in
          let one = times_suc (amount_at near i) (over arcs (λ v. pos (height numbers v)) i -ℤ (arc_at arcs i).least) in
          omega (arith, ints, more, one, some)

  near_most : bound_of arcs near ≤ℤ (bound_of arcs given +ℤ pos (2 ^ 60))
  near_most =
      let each = sum_to-not_greater (λ k. pos (amount_at near k) *ℤ (arc_at arcs k).least)
      (λ k. pos (amount_at given k) *ℤ (arc_at arcs k).least +ℤ pos 1000) (length arcs) term in
      let parts = sum_to-add (λ k. pos (amount_at given k) *ℤ (arc_at arcs k).least) (λ k. pos 1000) (length arcs) in
      let total = sum_low (λ k. 1000) (length arcs) 1000 (λ k inside. omega arith) in
      omega (arith, ints, each, parts, total, few)
    where
      term : (k : ℕ) → k < length arcs → (pos (amount_at near k) *ℤ (arc_at arcs k).least)
          ≤ℤ (pos (amount_at given k) *ℤ (arc_at arcs k).least +ℤ pos 1000)
      term k inside =
          let one = (within k inside).some_least in
          let most = (within k inside).most_least in
          let more = times-more (amount_at near k) (suc (amount_at given k)) (arc_at arcs k).least
          (omega (arith, is.most k inside)) (omega (arith, ints, one)) in
          let next = times_suc (amount_at given k) (arc_at arcs k).least in
          omega (arith, ints, more, next, most)

  pub is_near : IsNear nodes arcs given near
  is_near = record { flow = near_flow; balances = near_balances; higher = near_higher; most = near_most }

-- what balances as the pulls has one net
pub balances_alike : (nodes : ℕ) (arcs : List Arc) (steps : List ResidualArc) (amounts others : List ℕ) → AreStepsOf arcs steps →
    Balances nodes arcs amounts → Balances nodes arcs others →
    (v : ℕ) → v < nodes → net_by steps (length arcs) others v ≡ net_by steps (length arcs) amounts v
balances_alike nodes arcs steps amounts others are balances balance v inside =
    net_same arcs steps others v are ∙ balance.each v inside ∙ sym (balances.each v inside) ∙ sym (net_same arcs steps amounts v are)
