use Rattle.std.proofs.Common.{◌≡◌, ◌∙◌}
use Rattle.diff_flow.proofs.BestLemmas.{raised_not_best}
use Rattle.diff_flow.proofs.BetterLemmas.{shown_by}
use Rattle.diff_flow.proofs.improving.improve.Goals as goal

pub returns-in_default-2-clause-improved : goal.returns-in_default-2-clause-improved
returns-in_default-2-clause-improved c =
    let is = rw c.in-Some.is at c.in_ok-network.ensures in
    let same : c.network.inside.graph.value ≡ c.args.graph.now = c.network.view_is ∙ is.0 in
    shown_by c.args.graph.now _ (rw (same, c.in_default-2.is) at c.in_ok-better.ensures)

pub returns-clause-exact : goal.returns-clause-exact
returns-clause-exact c = λ best.
    absurd (raised_not_best _ _ _ _ _ c.in_ok-raise.ensures best)
