use Rattle.std.proofs.Common.{◌≡◌, ◌∙◌, ◌<◌, ◌≤◌, ℕ, List, length, sym, subst, arith}
use Rattle.shape_graphs.specs.Flows.{amount_at}
use Rattle.shape_graphs.specs.declared.graph.TheConstants.{MOST_AMOUNT}
use Rattle.diff_flow.specs.inner.Routing.{IsNear}
use Rattle.diff_flow.proofs.SetLemmas.{written_whole}
use Rattle.diff_flow.proofs.NearLemmas.{is_near, balances_alike}
use Rattle.diff_flow.proofs.improving.near_flow.Goals as goal

pub detour-requires-clause-slack : goal.detour-requires-clause-slack
detour-requires-clause-slack c =
    let given_is : c.as_mut_slice.result.now ≡ c.args.flow.now.amounts = c.as_mut_slice.ensures.value ∙ c.in_ok-amounts.ensures ∙ c.as_slice.ensures in
    rw (given_is, c.as_slice-2.ensures.value) c.requires.better.slack

pub detour-requires-clause-best : goal.detour-requires-clause-best
detour-requires-clause-best c =
    let graph = c.args.graph.now in
    let steps = c.args.steps.now in
    let better = c.args.better.now in
    let is = c.requires.better in
    let given_is : c.as_mut_slice.result.now ≡ c.args.flow.now.amounts = c.as_mut_slice.ensures.value ∙ c.in_ok-amounts.ensures ∙ c.as_slice.ensures in (
      better.flow.amounts,
      (λ v inside. rw (given_is, c.requires.arcs)
          (balances_alike graph.nodes graph.arcs steps.list.items c.args.flow.now.amounts better.flow.amounts c.requires.steps c.requires.balances
          is.best.balances v (omega (arith, inside, c.requires.nodes)))),
      rw c.as_slice-2.ensures.value is.met,
    )

pub narrowed-requires : goal.narrowed-requires
narrowed-requires c =
    let graph = c.args.graph.now in
    let steps = c.args.steps.now in
    let better = c.args.better.now in
    let is = c.requires.better in
    let given_is : c.as_mut_slice.result.now ≡ c.args.flow.now.amounts = c.as_mut_slice.ensures.value ∙ c.in_ok-amounts.ensures ∙ c.as_slice.ensures in
    let detour = rw (c.requires.nodes, c.requires.arcs, given_is, c.as_slice-2.ensures.value) at c.in_ok-detour.ensures in
    let slack = rw c.requires.arcs at is.slack in
    let near = is_near graph.nodes graph.arcs steps.list.items c.args.flow.now.amounts c.detour.new.amounts better.flow.amounts better.numbers.items
    better.slack graph.ends graph.within graph.few c.requires.steps c.requires.balances slack detour is.met in
    let whole = c.as_slice-3.ensures.value ∙ written_whole c.detour.new.amounts c.in_ok-amounts.amounts.items c.in_ok-amounts.amounts.len
    (omega (arith, c.in_ok-detour.ensures.one_for_each, c.as_mut_slice.ensures.len)) in
    subst (λ (xs : List ℕ). (i : ℕ) → i < length xs → amount_at xs i ≤ MOST_AMOUNT) (sym whole)
    (λ i inside. near.flow.most i (omega (arith, inside, near.flow.one_for_each)))

pub returns : goal.returns
returns c =
    let graph = c.args.graph.now in
    let steps = c.args.steps.now in
    let better = c.args.better.now in
    let is = c.requires.better in
    let given_is : c.as_mut_slice.result.now ≡ c.args.flow.now.amounts = c.as_mut_slice.ensures.value ∙ c.in_ok-amounts.ensures ∙ c.as_slice.ensures in
    let detour = rw (c.requires.nodes, c.requires.arcs, given_is, c.as_slice-2.ensures.value) at c.in_ok-detour.ensures in
    let slack = rw c.requires.arcs at is.slack in
    let near = is_near graph.nodes graph.arcs steps.list.items c.args.flow.now.amounts c.detour.new.amounts better.flow.amounts better.numbers.items
    better.slack graph.ends graph.within graph.few c.requires.steps c.requires.balances slack detour is.met in
    let whole = c.as_slice-3.ensures.value ∙ written_whole c.detour.new.amounts c.in_ok-amounts.amounts.items c.in_ok-amounts.amounts.len
    (omega (arith, c.in_ok-detour.ensures.one_for_each, c.as_mut_slice.ensures.len)) in
    subst (IsNear graph.nodes graph.arcs c.args.flow.now.amounts) (sym (c.in_ok-narrowed.ensures ∙ whole)) near
