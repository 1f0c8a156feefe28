use Rattle.std.proofs.Common.{◌≡◌, arith, ap, length, List, None, subst, sym}
use Rattle.std.proofs.lemmas.List.{length_push}
use Rattle.potentials.specs.declared.reached.Level.{Level}
use Rattle.potentials.specs.declared.reached.FoundFlow.{FoundFlow}
use Rattle.potentials.proofs.SolverLemmas.{solver_more}
use Rattle.potentials.proofs.solver.AxisSolver.add.Goals as goal

pub returns : goal.returns
returns c =
    let added = rw c.in-Some.is at c.in_ok-walks.ensures.added in
    let pushed = c.in_ok-push.ensures.ok in
    let longer = ap (λ (l : List Level). length l) pushed in (
      solver_more c.args.self.now c.args.graph.now c.requires.solver c.requires.more c.add.new.self c.replace-reached.new.dest c.push.new.self
          (record { walks = c.in-Some.walks; reached = c.replace-reached.result })
          added.0 added.1 added.2 c.replace-reached.ensures.value
          (subst (λ (r : FoundFlow). r.best ≡ None) (sym c.replace-reached.ensures.after) c.nothing.ensures.best)
          (subst (λ (r : FoundFlow). r.numbers ≡ None) (sym c.replace-reached.ensures.after) c.nothing.ensures.numbers) pushed,
      added.0,
      omega (arith, longer, length_push c.args.self.now.levels (record { walks = c.in-Some.walks; reached = c.replace-reached.result })),
    )
