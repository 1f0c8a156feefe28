use Rattle.std.proofs.Common.{◌≡◌, ◌≤◌, ◌^◌, ℕ, List, length, arith, ap, subst, sym, ◌∙◌}
use Rattle.diff_flow.specs.Improving.{IsBestByNumbers}
use Rattle.diff_flow.specs.inner.Steps.{AreMet}
use Rattle.diff_flow.specs.inner.Numbers.{height}
use Rattle.diff_flow.proofs.SetLemmas.{written_whole}
use Rattle.diff_flow.proofs.RoundLemmas.{rises_along}
use Rattle.diff_flow.proofs.BestLemmas.{best_low, best_by_numbers}
use Rattle.diff_flow.proofs.BetterLemmas.{best_where_met}
use Rattle.diff_flow.proofs.better.find_better.Goals as goal

pub returns-in_default : goal.returns-in_default
returns-in_default c =
    best_where_met c.args.graph.now.value c.args.steps.now c.args.flow.now.amounts (height c.args.first.now) c.requires.steps c.requires.balances
    (rw c.as_slice-amounts.ensures at c.in_default.ensures)

pub slack_arc-requires-2-clause-met : goal.slack_arc-requires-2-clause-met
slack_arc-requires-2-clause-met c =
    let steps = c.args.steps.now in
    let whole = c.as_slice.ensures.value ∙ written_whole c.route.new.numbers c.in_ok-numbers.numbers.items c.in_ok-numbers.numbers.len
    (omega (
      arith,
      c.in_ok-routed.ensures.one_for_each,
      c.as_mut_slice.ensures.len,
      ap length c.as_mut_slice.ensures.value,
      ap length c.in_ok-numbers.ensures.items,
      c.requires.first.one_for_each,
    )) in
    rises_along steps.arcs steps.list.items c.in_ok-routed.routed.items (height c.as_slice.result.now) steps.paired
    (subst (λ (ns : List ℕ). AreMet steps.list.items c.in_ok-routed.routed.items (height ns)) (sym whole) c.in_ok-routed.ensures.met)

pub returns-in_default-slack_arc : goal.returns-in_default-slack_arc
returns-in_default-slack_arc c =
    best_where_met c.args.graph.now.value c.args.steps.now c.args.flow.now.amounts (height c.as_slice.result.now) c.requires.steps c.requires.balances
    (rw c.as_slice-amounts.ensures at c.in_default-slack_arc.ensures)

pub narrowed-requires : goal.narrowed-requires
narrowed-requires c = λ i inside.
    let steps = c.args.steps.now in
    let graph = c.args.graph.now.value in
    let all : length c.in_ok-routed.routed.items ≡ length graph.arcs = c.in_ok-routed.ensures.len ∙ c.requires.arcs in
    let low = best_low graph.nodes graph.arcs steps.list.items c.args.flow.now.amounts c.in_ok-routed.routed.items (height c.route.new.numbers)
    graph.ends graph.within graph.few c.requires.steps c.requires.balances all
    (λ v v_in. rw (c.requires.arcs, c.as_slice-amounts.ensures) at (c.in_ok-routed.ensures.net v (omega (arith, v_in, c.requires.nodes))))
    c.in_ok-routed.ensures.met i
    (omega (arith, inside, ap length c.as_slice-2.ensures.value, all)) in
    rw c.as_slice-2.ensures.value low

pub returns : goal.returns
returns c =
    let steps = c.args.steps.now in
    let graph = c.args.graph.now.value in
    let numbers = c.in_ok-numbers.numbers in
    let routed = c.in_ok-routed.routed.items in
    let all : length routed ≡ length graph.arcs = c.in_ok-routed.ensures.len ∙ c.requires.arcs in
    let whole = written_whole c.route.new.numbers numbers.items numbers.len
    (omega (
      arith,
      c.in_ok-routed.ensures.one_for_each,
      c.as_mut_slice.ensures.len,
      ap length c.as_mut_slice.ensures.value,
      ap length c.in_ok-numbers.ensures.items,
      c.requires.first.one_for_each,
    )) in
    let same = c.in_ok-amounts.ensures ∙ c.as_slice-2.ensures.value in
    record {
      best = subst (IsBestByNumbers graph.nodes graph.arcs) (sym same)
          (best_by_numbers graph.nodes graph.arcs steps.list.items c.args.flow.now.amounts routed (height c.route.new.numbers)
          graph.ends graph.within graph.few c.requires.steps c.requires.balances all
          (λ v v_in. rw (c.requires.arcs, c.as_slice-amounts.ensures) at (c.in_ok-routed.ensures.net v (omega (arith, v_in, c.requires.nodes))))
          c.in_ok-routed.ensures.met);
      one_for_each = ap length whole ∙ c.in_ok-routed.ensures.one_for_each;
      low = λ v inside. subst (λ (ns : List ℕ). height ns v ≤ 2 ^ 60) (sym whole) (c.in_ok-routed.ensures.low v inside);
      met = subst (λ (ns : List ℕ). AreMet steps.list.items c.in_ok-amounts.amounts (height ns)) (sym whole)
          (subst (λ (xs : List ℕ). AreMet steps.list.items xs (height c.route.new.numbers)) (sym same) c.in_ok-routed.ensures.met);
      slack = rw (c.as_slice-amounts.ensures, c.as_slice.ensures.value) at c.in-Some-slack_arc.ensures;
    }
