use Rattle.std.proofs.Common.{inr, refl}
use Rattle.separation.proofs.PairOrder.{turned_pair}
use Rattle.separation.proofs.sweep.in_order.Goals as goal

pub returns-else-a-b : goal.returns-else-a-b
returns-else-a-b c = (
  turned_pair c.args.bars.now c.args.a c.args.b c.requires.a c.requires.b c.if-a-b.false c.requires.apart,
  inr (refl, refl),
)
