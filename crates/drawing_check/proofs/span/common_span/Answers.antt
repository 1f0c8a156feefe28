use Rattle.std.proofs.Common.{arith}
use Rattle.std.proofs.lemmas.Int.{ints, clamps}
use Rattle.drawing_check.proofs.span.common_span.Goals as goal

pub returns : goal.returns
returns c = λ z. (
  (λ both. (omega (arith, ints, clamps), omega (arith, ints, clamps))),
  λ inside. ((omega (arith, ints, clamps), omega (arith, ints, clamps)), (omega (arith, ints, clamps), omega (arith, ints, clamps))),
)
