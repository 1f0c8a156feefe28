use Rattle.std.proofs.Common.{◌≡◌, ◌+◌, ◌-◌, ◌≤◌, length, take, ap, sym, ◌∙◌, List, ℕ, arith}
use Rattle.std.proofs.lemmas.List.{length-take-le, take_all}
use Rattle.compact_types.specs.declared.search.Choice.{Choice}
use Rattle.potentials.proofs.WorkspaceLemmas.{one_less_taken}
use Rattle.potentials.proofs.workspace.FlowWorkspace.go_back.Goals as goal

pub loop-init : goal.loop-init
loop-init c = (
  c.requires.workspace,
  sym (take_all _ c.args.self.now.graphs.choices (omega (arith, c.len-end.ensures))),
)

pub pop-requires-clause-workspace : goal.pop-requires-clause-workspace
pop-requires-clause-workspace c = c.loop.invariant.0

pub pop-requires-clause-some : goal.pop-requires-clause-some
pop-requires-clause-some c =
    let within : (c.len-end.result + c.args.kept) - c.loop.counter ≤ length c.args.self.now.graphs.choices =
    omega (arith, c.len-end.ensures, c.loop.auto.counter) in
    let count = ap (λ (l : List Choice). length l) c.loop.invariant.1 in
    let taken = length-take-le ((c.len-end.result + c.args.kept) - c.loop.counter) c.args.self.now.graphs.choices within in
    omega (arith, count, taken, c.loop-test.true, c.loop.auto.counter)

pub loop-preserved : goal.loop-preserved
loop-preserved c = (
  c.pop.ensures.workspace,
  one_less_taken c.args.self.now.graphs.choices c.loop.self.graphs.choices c.pop.new.self.graphs.choices
      ((c.len-end.result + c.args.kept) - (c.loop.counter + 1)) ((c.len-end.result + c.args.kept) - c.loop.counter)
      (omega (arith, c.loop-test.true, c.loop.auto.counter)) (omega (arith, c.len-end.ensures, c.loop.auto.counter))
      c.loop.invariant.1 c.pop.ensures.choices,
)

pub returns-clause-workspace : goal.returns-clause-workspace
returns-clause-workspace c = c.loop.invariant.0

pub returns-clause-choices : goal.returns-clause-choices
returns-clause-choices c =
    let within : c.args.kept ≤ c.len-end.result = omega (arith, c.requires.within, c.len-end.ensures) in
    let over = c.loop.auto.counter-end within in
    let left : (c.len-end.result + c.args.kept) - c.loop.counter ≡ c.args.kept = omega (arith, c.loop-test.false, over) in
    c.loop.invariant.1 ∙ ap (λ (n : ℕ). take n c.args.self.now.graphs.choices) left
