use Rattle.std.proofs.Common.{arith}
use Rattle.std.proofs.lemmas.Int.{ints}
use Rattle.compact_types.proofs.Laws.{plain_length-moved}
use Rattle.workers.proofs.tests.several.RefusedMeasure.worth.Goals as goal

pub returns-clause-moved : goal.returns-clause-moved
returns-clause-moved c = λ dx dy.
    let same = plain_length-moved c.args.bars.now.plan c.args.places.now dx dy c.requires.fit in
    let is = c.worth.ensures.value in
    omega (arith, ints, same, is)
