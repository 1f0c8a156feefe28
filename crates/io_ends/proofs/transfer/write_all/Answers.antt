use Rattle.std.proofs.Common.{arith}
use Rattle.io_ends.proofs.AddedBytes.{Appends-further}
use Rattle.io_ends.proofs.transfer.write_all.Goals as goal

pub loop-at-preserved : goal.loop-at-preserved
loop-at-preserved g c = (
  grind arith,
  Appends-further _ _ _ c.loop-at.at c.in-Ok.count c.args.bytes.now c.loop-at.invariant.1 c.in-Ok.ensures.moved.taken,
  grind arith,
)
