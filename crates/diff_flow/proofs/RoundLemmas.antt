-- One round: some excess is sent along a way.
use Rattle.std.proofs.Common.{◌≡◌, ℕ, ◌+◌, ◌-◌, ◌*◌, ◌^◌, ◌<◌, ◌≤◌, inl, inr, pos, List, get_or, set, sym, ap, subst, ◌∙◌, arith, sum}
use Rattle.std.proofs.lemmas.Int.{ints}
use Rattle.std.proofs.lemmas.Bool.{cases_lt}
use Rattle.std.proofs.lemmas.List.{length-set}
use Rattle.std.proofs.lemmas.List.Sums.{sum_by-set}
use Rattle.compact_types.specs.Sums.{sum_to}
use Rattle.shape_graphs.specs.Flows.{amount_at}
use Rattle.diff_flow.specs.declared.steps.ResidualArc.{ResidualArc}
use Rattle.diff_flow.specs.inner.Steps.{step_at, along_at, AreStepsWithin, ArePaired, IsResidual, AreMet}
use Rattle.diff_flow.specs.inner.Numbers.{height}
use Rattle.diff_flow.specs.inner.Search.{AreFit, IsTrap}
use Rattle.diff_flow.specs.inner.Routing.{IsMoved, IsRouting, KeepsBalance}
use Rattle.diff_flow.proofs.SetLemmas.{by_write}
use Rattle.diff_flow.proofs.CutLemmas.{cut, carried}
use Rattle.diff_flow.proofs.LowLemmas.{sum_low, list_sum}
use Rattle.diff_flow.proofs.RouteLemmas.{kept_moved, against_number}

-- along an arc the numbers rise
pub rises_along : (arcs : ℕ) (steps : List ResidualArc) (amounts : List ℕ) (h : ℕ → ℕ) → ArePaired arcs steps → AreMet steps amounts h →
    (i : ℕ) → i < arcs → h (along_at steps i).from + (along_at steps i).up ≤ h (along_at steps i).to
rises_along arcs steps amounts h paired met i inside =
    let some = paired.up i inside in
    let is = met (2 * i) (omega (arith, paired.two_for_each)) (omega (arith, some)) in
    omega (arith, is, paired.level i inside)

module _ (nodes arcs reach limit : ℕ) (steps : List ResidualArc) (amounts numbers over want : List ℕ)
    (within : AreStepsWithin nodes arcs reach steps) (paired : ArePaired arcs steps)
    (routing : IsRouting nodes arcs limit steps amounts numbers over want) where
  ends : (i : ℕ) → i < arcs → ((along_at steps i).from < nodes) × ((along_at steps i).to < nodes)
  ends i inside = let is = within (2 * i) (omega (arith, paired.two_for_each)) in (is.from, is.to)

  -- excess is never trapped
  pub not_trapped : (start : ℕ) (marks : ℕ → ℕ) → start < nodes → 0 < get_or over start 0 → IsTrap nodes arcs steps amounts want start marks → ⊥
  not_trapped start marks inside some trap =
      cut nodes arcs (λ i. (along_at steps i).from) (λ i. (along_at steps i).to) ends (amount_at amounts) (amount_at routing.given.0)
      (λ v. get_or over v 0) (λ v. get_or want v 0) marks start routing.given.2 inside trap.begins some trap.none_lacks trap.none_leaves trap.none_enters

  -- no amount is above what was given, and the excess
  pub amounts_few : arcs ≤ 2 ^ 30 → (i : ℕ) → i < arcs → amount_at amounts i ≤ 2 ^ 91
  amounts_few few i inside =
      let low = carried nodes arcs (λ j. (along_at steps j).from) (λ j. (along_at steps j).to) ends (amount_at amounts) (amount_at routing.given.0)
      (λ v. get_or over v 0) (λ v. height numbers v - height numbers (along_at steps i).from) i
      (λ v v_in. let is = routing.given.2 v v_in in omega (arith, ints, is))
      inside (omega arith)
      (let up = rise i inside in omega (arith, up))
      (λ j j_in some. let up = rise j j_in in omega (arith, up, some)) in
      let given = sum_low (amount_at routing.given.0) arcs (2 ^ 50) routing.given.1 in
      let excess : sum_to (λ v. pos (get_or over v 0)) nodes ≡ pos (sum over) =
      subst (λ n. sum_to (λ v. pos (get_or over v 0)) n ≡ pos (sum over)) routing.even.over_for_each (list_sum over) in
      omega (arith, ints, low, given, excess, routing.even.few, few)
    where
      rise : (j : ℕ) → j < arcs → height numbers (along_at steps j).from < height numbers (along_at steps j).to
      rise j j_in =
          let up = rises_along arcs steps amounts (height numbers) paired routing.fit.met j j_in in
          omega (arith, up, paired.up j j_in)

  -- the state after the round
  module _ (start goal amount : ℕ) (amounts' numbers' : List ℕ) (fit : AreFit nodes limit steps amounts numbers' want)
      (moved : IsMoved nodes arcs steps amount start goal numbers' amounts amounts') (start_in : start < nodes) (goal_in : goal < nodes)
      (start_some : amount ≤ get_or over start 0) (goal_some : amount ≤ get_or want goal 0) where
    pub round_kept : KeepsBalance nodes arcs steps amounts over want amounts' (set over start (get_or over start 0 - amount))
        (set want goal (get_or want goal 0 - amount))
    round_kept given spread =
        kept_moved nodes arcs steps amount start goal numbers' given amounts amounts' over want moved
        (omega (arith, start_in, routing.even.over_for_each)) start_some (omega (arith, goal_in, routing.even.want_for_each)) goal_some spread

    round_met : AreMet steps amounts' (height numbers')
    round_met k inside opens =
        elim (cases_lt 0 ((step_at steps k).up + amount_at amounts (step_at steps k).arc)) [
          | inl was ↦ fit.met k inside was
          | inr closed ↦
              let up : (step_at steps k).up ≡ 0 = omega (arith, closed) in
              let number = against_number arcs steps paired k inside up in
              let none : amount_at amounts number.0 ≡ 0 = rw number.3 at (none_at k closed) in
              let some : 0 < amount_at amounts' number.0 = rw number.3 at (some_at k up opens) in
              let just = moved.tight number.0 number.1 (omega (arith, none, some)) in
              let back = paired.back number.0 number.1 in
              let from : height numbers' (step_at steps k).from ≡ height numbers' (along_at steps number.0).to =
              ap (λ j. height numbers' (step_at steps j).from) number.2 ∙ ap (height numbers') back.from in
              let to : height numbers' (step_at steps k).to ≡ height numbers' (along_at steps number.0).from =
              ap (λ j. height numbers' (step_at steps j).to) number.2 ∙ ap (height numbers') back.to in
              let down : (step_at steps k).down ≡ (along_at steps number.0).up = ap (λ j. (step_at steps j).down) number.2 ∙ back.down in
              omega (arith, just, from, to, down, up)
        ]
      where
        none_at : (k : ℕ) → (step_at steps k).up + amount_at amounts (step_at steps k).arc ≤ 0 → amount_at amounts (step_at steps k).arc ≡ 0
        none_at k closed = omega arith

        some_at : (k : ℕ) → (step_at steps k).up ≡ 0 → IsResidual amounts' (step_at steps k) → 0 < amount_at amounts' (step_at steps k).arc
        some_at k up opens = omega (arith, up, opens)

    pub round_done : IsRouting nodes arcs limit steps amounts' numbers' (set over start (get_or over start 0 - amount))
        (set want goal (get_or want goal 0 - amount))
    round_done = record {
      even = record {
        amounts_for_each = moved.one_for_each ∙ routing.even.amounts_for_each;
        over_for_each = length-set over start _ ∙ routing.even.over_for_each;
        want_for_each = length-set want goal _ ∙ routing.even.want_for_each;
        even = omega (arith, less_over, less_want, start_some, goal_some, routing.even.even);
        few = omega (arith, less_over, start_some, routing.even.few);
      };
      fit = record {
        one_for_each = fit.one_for_each;
        met = round_met;
        low = fit.low;
        lacking = λ v v_in some. fit.lacking v v_in (by_write (λ x. 0 < x → 0 < get_or want v 0) want goal v (get_or want goal 0 - amount)
            (omega (arith, goal_in, routing.even.want_for_each))
            (λ same more. subst (λ w. 0 < get_or want w 0) (sym same) (omega (arith, more))) (λ _ more. more) some);
      };
      given = (routing.given.0, routing.given.1, round_kept routing.given.0 routing.given.2);
    }
      where
        less_over : sum (set over start (get_or over start 0 - amount)) + get_or over start 0 ≡ sum over + (get_or over start 0 - amount)
        less_over = sum_by-set (λ x. x) over start (get_or over start 0 - amount) 0 (omega (arith, start_in, routing.even.over_for_each))

        less_want : sum (set want goal (get_or want goal 0 - amount)) + get_or want goal 0 ≡ sum want + (get_or want goal 0 - amount)
        less_want = sum_by-set (λ x. x) want goal (get_or want goal 0 - amount) 0 (omega (arith, goal_in, routing.even.want_for_each))
