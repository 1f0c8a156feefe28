use Rattle.std.proofs.Common.{arith}
use Rattle.std.proofs.lemmas.Int.{ints}
use Rattle.compact_types.proofs.Laws.{plain_length-moved}
use Rattle.potentials.proofs.PieceLemmas.{few_pieces, length_from_zero}
use Rattle.potentials.proofs.total_length.TotalLengthMeasure.worth.Goals as goal

pub plain_length-requires-clause-few : goal.plain_length-requires-clause-few
plain_length-requires-clause-few c =
    let sound = c.shape.ensures.sound in
    let few = few_pieces c.args.bars.now sound.drawable in
    rw c.shape.ensures.shape (omega (arith, few, sound.few_vertices))

pub returns-clause-not_negative : goal.returns-clause-not_negative
returns-clause-not_negative c =
    let low = length_from_zero c.shape.result.now.plan c.args.places.now in
    omega (arith, ints, low, c.plain_length.ensures)

pub returns-clause-moved : goal.returns-clause-moved
returns-clause-moved c = λ dx dy.
    let same = plain_length-moved c.args.bars.now.plan c.args.places.now dx dy c.requires.fit in
    let is = rw c.shape.ensures.shape at c.plain_length.ensures in
    omega (arith, ints, same, is)
