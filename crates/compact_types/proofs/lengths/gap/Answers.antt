use Rattle.std.proofs.Common.{arith}
use Rattle.std.proofs.lemmas.Int.{ints, clamps}
use Rattle.compact_types.proofs.lengths.gap.Goals as goal

pub returns-clause-is : goal.returns-clause-is
returns-clause-is c = omega (arith, ints, clamps)

pub returns-clause-low : goal.returns-clause-low
returns-clause-low c = omega (arith, ints, clamps)

pub returns-clause-high : goal.returns-clause-high
returns-clause-high c = omega (arith, ints, clamps)
