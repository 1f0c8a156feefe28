use Rattle.std.proofs.Common.{◌≡◌, ◌+◌, ◌-◌, ◌<◌, ◌^◌, ◌∙◌, ℕ, List, length, get_or, set, replicate, sym, ap, subst, arith}
use Rattle.diff_flow.specs.declared.tree.Reached.{Reached}
use Rattle.diff_flow.specs.declared.steps.ResidualArc.{ResidualArc}
use Rattle.diff_flow.specs.inner.Steps.{along_at}
use Rattle.diff_flow.specs.inner.Search.{entry_at, NoneLacks}
use Rattle.diff_flow.proofs.SetLemmas.{by_true, by_write}
use Rattle.diff_flow.proofs.TreeLemmas.{by_false}
use Rattle.diff_flow.proofs.DetourLemmas.{way_open, detour_done, lacking_is, other_has, ends_apart}
use Rattle.diff_flow.proofs.detour.detour.Goals as goal

pub spread-requires-clause-tree : goal.spread-requires-clause-tree
spread-requires-clause-tree c = c.in_ok-plant.ensures.tree c.args.steps.now.list.items _ c.args.numbers.now

pub spread-requires-clause-none : goal.spread-requires-clause-none
spread-requires-clause-none c = λ v some.
    let steps = c.args.steps.now in
    let zeros = c.in_ok-want.ensures.items_if_clones_equal (λ y is. is) in
    let is : v ≡ (along_at steps.list.items c.args.i).from = c.in_ok-plant.ensures.places v some ∙ ap (λ (s : ResidualArc). s.from) c.along-step.ensures.is in
    let to : c.along-step.result.to ≡ (along_at steps.list.items c.args.i).to = ap (λ (s : ResidualArc). s.to) c.along-step.ensures.is in
    let none = other_has steps.nodes c.along-step.result.to v
    (λ same. ends_apart steps.arcs steps.list.items c.args.amounts.now c.args.numbers.now c.args.i c.requires.slack (sym is ∙ same ∙ to)) in
    ap (λ (xs : List ℕ). get_or xs v 0) c.as_slice.ensures.value
    ∙ ap (λ (xs : List ℕ). get_or (set xs c.along-step.result.to 1) v 0) zeros ∙ none

pub unreachable-requires : goal.unreachable-requires
unreachable-requires c =
    let steps = c.args.steps.now in
    let best = c.requires.best in
    let zeros = c.in_ok-want.ensures.items_if_clones_equal (λ y is. is) in
    let from : c.along-step.result.from ≡ (along_at steps.list.items c.args.i).from = ap (λ (s : ResidualArc). s.from) c.along-step.ensures.is in
    let to : c.along-step.result.to ≡ (along_at steps.list.items c.args.i).to = ap (λ (s : ResidualArc). s.to) c.along-step.ensures.is in
    let kept = c.in_ok-spread.ensures.grows.kept 0 (omega (arith, c.in_ok-plant.ensures.one)) in
    let first : (entry_at c.spread.new.tree.entries.items 0).node ≡ (along_at steps.list.items c.args.i).from =
    ap (λ (e : Reached). e.node) kept ∙ c.in_ok-plant.ensures.start ∙ from in
    let lacks = by_false _ _ _ c.if-not-branch.true c.in_ok-spread.ensures.found in
    way_open steps.nodes steps.arcs steps.reach steps.list.items c.args.amounts.now c.args.numbers.now c.args.i steps.within steps.paired
    c.requires.amounts c.requires.slack best.0 c.spread.new.tree.entries.items c.spread.new.tree.places.items best.1 best.2
    c.in_ok-spread.ensures.tree first
    (subst (λ (xs : List ℕ). NoneLacks xs c.spread.new.tree.places.items)
    (c.as_slice.ensures.value ∙ ap (λ (xs : List ℕ). set xs c.along-step.result.to 1) zeros
    ∙ ap (λ w. set (replicate {A = ℕ} steps.nodes 0) w 1) to) lacks)
    (by_false _ _ _ c.if-not-branch.true c.in_ok-spread.ensures.passed)

pub send-requires-clause-low : goal.send-requires-clause-low
send-requires-clause-low c = λ k inside.
    let few = c.requires.few k inside in
    let here = c.requires.few c.args.i c.requires.slack.inside in
    by_write (λ x. x + 1 < 2 ^ 128) c.args.amounts.now c.args.i k (get_or c.args.amounts.now c.args.i 0 - 1)
    (omega (arith, c.requires.amounts, c.requires.slack.inside)) (λ _. omega (arith, here)) (λ _. omega (arith, few))

pub returns : goal.returns
returns c =
    let steps = c.args.steps.now in
    let zeros = c.in_ok-want.ensures.items_if_clones_equal (λ y is. is) in
    let from : c.along-step.result.from ≡ (along_at steps.list.items c.args.i).from = ap (λ (s : ResidualArc). s.from) c.along-step.ensures.is in
    let to : c.along-step.result.to ≡ (along_at steps.list.items c.args.i).to = ap (λ (s : ResidualArc). s.to) c.along-step.ensures.is in
    let kept = c.in_ok-spread.ensures.grows.kept 0 (omega (arith, c.in_ok-plant.ensures.one)) in
    let first : (entry_at c.spread.new.tree.entries.items 0).node ≡ (along_at steps.list.items c.args.i).from =
    ap (λ (e : Reached). e.node) kept ∙ c.in_ok-plant.ensures.start ∙ from in
    let found = by_true _ _ _ c.if-not-branch.false c.in_ok-spread.ensures.found in
    let wants = c.as_slice.ensures.value ∙ ap (λ (xs : List ℕ). set xs c.along-step.result.to 1) zeros in
    let last : (entry_at c.spread.new.tree.entries.items (length c.spread.new.tree.entries.items - 1)).node ≡ (along_at steps.list.items c.args.i).to =
    lacking_is steps.nodes c.along-step.result.to _
    (subst (λ (xs : List ℕ). 0 < get_or xs (entry_at c.spread.new.tree.entries.items (length c.spread.new.tree.entries.items - 1)).node 0)
    wants found.lacks) ∙ to in
    detour_done steps.nodes steps.arcs steps.reach steps.list.items c.args.amounts.now c.args.numbers.now c.args.i steps.within steps.paired
    c.requires.amounts c.requires.slack c.send.new.amounts
    (rw (first, last) at c.send.ensures)
