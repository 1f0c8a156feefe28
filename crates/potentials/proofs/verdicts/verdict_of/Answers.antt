use Rattle.std.proofs.Common.{Option, sym, subst, ◌∙◌}
use Rattle.std.specs.Prelude.{MatchOption}
use Rattle.std.proofs.lemmas.Result.{IfOk-weaker}
use Rattle.compact_types.specs.declared.search.Flows.{Flows}
use Rattle.shape_graphs.specs.declared.graph.DiffGraph.{DiffGraph}
use Rattle.shape_graphs.specs.declared.measure.Verdict.{Verdict}
use Rattle.potentials.specs.declared.reached.Bounded.{Bounded}
use Rattle.potentials.specs.inner.Solving.{AreLeastNumbers}
use Rattle.potentials.specs.inner.Solvers.{IsSame, IsSolverFor}
use Rattle.potentials.proofs.VerdictLemmas.{is_above, is_least, same_some, still_low}
use Rattle.potentials.proofs.verdicts.verdict_of.Goals as goal

pub returns-in-Some-clause-right : goal.returns-in-Some-clause-right
returns-in-Some-clause-right c =
    let found = rw c.in-Some.is at c.in_ok-verdict.ensures in
    (is_above c.args.bars.now c.args.extension.now.choices c.requires.sound c.requires.fit
    c.args.columns.now c.args.rows.now c.requires.columns c.requires.rows c.args.across.now c.args.up.now
    c.requires.across.solver_for c.requires.up.solver_for
    c.best.result.now c.best-2.result.now c.best.ensures.best c.best-2.ensures.best
    _ found.0 c.in-Some.verdict found.1).right

pub returns-clause-right : goal.returns-clause-right
returns-clause-right c =
    let low = rw c.in_default.is at c.in_ok-verdict.ensures in
    let across = c.find_numbers.new.self in
    let up = c.find_numbers-2.new.self in
    let x = c.best-3.result.now in
    let y = c.best-4.result.now in
    let for_columns : IsSolverFor c.args.columns.now across = record {
      solver_is = c.in_ok-find_numbers.ensures.solver;
      same = subst (λ (g : DiffGraph). IsSame g c.args.columns.now) (sym c.find_numbers.ensures.network) c.requires.across.solver_for.same;
    } in
    let for_rows : IsSolverFor c.args.rows.now up = record {
      solver_is = c.in_ok-find_numbers-2.ensures.solver;
      same = subst (λ (g : DiffGraph). IsSame g c.args.rows.now) (sym c.find_numbers-2.ensures.network) c.requires.up.solver_for.same;
    } in
    let same_x = same_some c.best.result.now x c.args.across.now.reached.best c.best.ensures.is (sym c.find_numbers.ensures.best ∙ c.best-3.ensures.is) in
    let same_y = same_some c.best-2.result.now y c.args.up.now.reached.best c.best-2.ensures.is (sym c.find_numbers-2.ensures.best ∙ c.best-4.ensures.is) in
    let low_here = still_low c.best.result.now c.best-2.result.now x y _ same_x same_y low in
    let x_numbers = subst (λ (o : Option Bounded). MatchOption o ⊥ (λ best. AreLeastNumbers across.network best.flow c.numbers.result.now)) c.best-3.ensures.is c.numbers.ensures in
    let y_numbers = subst (λ (o : Option Bounded). MatchOption o ⊥ (λ best. AreLeastNumbers up.network best.flow c.numbers-2.result.now)) c.best-4.ensures.is c.numbers-2.ensures in
    IfOk-weaker c.least.result _ _
    (λ (verdict : Verdict Flows) is.
    (is_least c.args.bars.now c.args.extension.now.choices c.requires.sound c.requires.fit
    c.args.columns.now c.args.rows.now c.requires.columns c.requires.rows across up for_columns for_rows
    x y c.best-3.ensures.best c.best-4.ensures.best _ low_here c.numbers.result.now c.numbers-2.result.now c.in_ok-places.places
    c.in_ok-places.ensures x_numbers y_numbers verdict is).right)
    c.least.ensures
