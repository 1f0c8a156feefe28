use Rattle.std.proofs.Common.{◌≡◌, refl, sym, subst, ◌∙◌}
use Rattle.shape_graphs.specs.Flows.{number_at}
use Rattle.compact_types.specs.declared.search.Flow.{Flow}
use Rattle.potentials.specs.inner.Solving.{AreLeastNumbers}
use Rattle.potentials.proofs.SolverLemmas.{balances_longer, balances_there, bounded_there, numbers_longer, numbers_there, tight_there}
use Rattle.potentials.proofs.begin.from_before.Goals as goal

pub with_bound-requires-clause-flow : goal.with_bound-requires-clause-flow
with_bound-requires-clause-flow c =
    balances_longer c.args.graph.now c.args.best.now.flow c.args.numbers.now c.requires.before c.in_ok-flow.flow c.in_ok-flow.ensures

pub returns-then-meets_last-clause-reached : goal.returns-then-meets_last-clause-reached
returns-then-meets_last-clause-reached c =
    let best = c.with_bound.result in
    let is_flow : best.flow.amounts ≡ _ = subst (λ (f : Flow). f.amounts ≡ c.in_ok-flow.flow.amounts) (sym c.with_bound.ensures.flow) refl ∙ c.in_ok-flow.ensures in
    let least = numbers_longer c.args.graph.now c.args.best.now.flow c.args.numbers.now c.requires.before
    c.least_numbers_that_meet_an_arc.ensures (rw c.as_slice.ensures at c.if-meets_last.ensures) best.flow is_flow in
    record {
      best = record {
        bounded = bounded_there c.args.network.now c.args.graph.now c.requires.graph best.flow best.bound c.with_bound.ensures.bounded;
        tight = tight_there c.args.network.now c.args.graph.now c.requires.graph best.flow (number_at c.args.numbers.now, least.least.tight);
      };
      numbers = subst (AreLeastNumbers c.args.network.now best.flow) (sym c.in_ok-numbers.ensures)
          (numbers_there c.args.network.now c.args.graph.now c.requires.graph best.flow c.args.numbers.now least);
    }

pub make_best_from-requires-clause-flow : goal.make_best_from-requires-clause-flow
make_best_from-requires-clause-flow c =
    (balances_there c.args.network.now c.args.graph.now c.requires.graph c.in_ok-flow.flow
    (balances_longer c.args.graph.now c.args.best.now.flow c.args.numbers.now c.requires.before c.in_ok-flow.flow c.in_ok-flow.ensures)).amounts

pub make_best_from-requires-clause-balances : goal.make_best_from-requires-clause-balances
make_best_from-requires-clause-balances c =
    (balances_there c.args.network.now c.args.graph.now c.requires.graph c.in_ok-flow.flow
    (balances_longer c.args.graph.now c.args.best.now.flow c.args.numbers.now c.requires.before c.in_ok-flow.flow c.in_ok-flow.ensures)).balances
