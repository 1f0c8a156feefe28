use Rattle.std.proofs.Common.{arith}
use Rattle.std.proofs.lemmas.Int.{ints}
use Rattle.diff_flow.proofs.BetterLemmas.{better_is_higher}
use Rattle.diff_flow.proofs.improving.raise_to.Goals as goal

pub narrow-requires-clause-low : goal.narrow-requires-clause-low
narrow-requires-clause-low c =
    let higher = better_is_higher c.args.graph.now c.args.steps.now c.args.flow.now.amounts c.args.better c.requires.steps c.requires.arcs
    c.requires.balances c.requires.better in
    omega (arith, ints, higher, c.rise-by.ensures)

pub returns-then-fits : goal.returns-then-fits
returns-then-fits c =
    let best = c.requires.better.best in
    let higher = better_is_higher c.args.graph.now c.args.steps.now c.args.flow.now.amounts c.args.better c.requires.steps c.requires.arcs
    c.requires.balances c.requires.better in
    record {
      some = omega (arith, ints, higher, c.rise-by.ensures, c.narrow.ensures);
      flow = best.flow;
      balances = best.balances;
      rise = omega (arith, ints, c.rise-by.ensures, c.narrow.ensures);
    }

pub returns : goal.returns
returns c =
    let near = c.in_ok-near.ensures in
    record {
      some = omega (arith, ints, near.higher, c.rise.ensures, c.narrow-by.ensures);
      flow = near.flow;
      balances = near.balances;
      rise = omega (arith, ints, c.rise.ensures, c.narrow-by.ensures);
    }
