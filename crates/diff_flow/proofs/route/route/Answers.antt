use Rattle.std.proofs.Common.{sym, subst}
use Rattle.diff_flow.specs.inner.Steps.{AreMet}
use Rattle.diff_flow.specs.inner.Numbers.{height}
use Rattle.diff_flow.proofs.SetLemmas.{written_whole}
use Rattle.diff_flow.proofs.route.route.Goals as goal

pub returns-clause-met : goal.returns-clause-met
returns-clause-met c =
    let amounts = c.in_ok-amounts.amounts in
    subst (λ (xs : _). AreMet c.args.steps.now.list.items xs (height c.reroute.new.numbers))
    (sym (written_whole c.reroute.new.amounts amounts.items amounts.len (cc)))
    c.in_ok-reroute.ensures.met
