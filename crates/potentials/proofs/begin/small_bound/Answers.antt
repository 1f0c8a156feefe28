use Rattle.std.proofs.Common.{arith}
use Rattle.std.proofs.lemmas.Int.{ints}
use Rattle.potentials.proofs.SolvingLemmas.{small}
use Rattle.potentials.proofs.begin.small_bound.Goals as goal

pub overflow_cast-result : goal.overflow_cast-result
overflow_cast-result c =
    let is = small c.args.graph.now c.args.flow.now c.requires.graph c.requires.flow in
    omega (arith, ints, is.low, is.high, c.bound.ensures)

pub returns-clause-value : goal.returns-clause-value
returns-clause-value c =
    let is = small c.args.graph.now c.args.flow.now c.requires.graph c.requires.flow in
    omega (arith, ints, is.low, is.high, c.bound.ensures)

pub returns-clause-low : goal.returns-clause-low
returns-clause-low c =
    let is = small c.args.graph.now c.args.flow.now c.requires.graph c.requires.flow in
    omega (arith, ints, is.low, is.high, c.bound.ensures)

pub returns-clause-high : goal.returns-clause-high
returns-clause-high c =
    let is = small c.args.graph.now c.args.flow.now c.requires.graph c.requires.flow in
    omega (arith, ints, is.low, is.high, c.bound.ensures)
