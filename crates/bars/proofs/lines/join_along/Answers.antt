use Rattle.std.proofs.Common.{arith}
use Rattle.bars.proofs.LineTables.{leads_one_more}
use Rattle.bars.proofs.lines.join_along.Goals as goal

pub loop-i-preserved : goal.loop-i-preserved
loop-i-preserved c =
    leads_one_more c.args.axis c.args.shape.now c.loop-i.i c.loop-i.leads c.join_if.new.leads c.goes_along.result _ _
    c.as_slice-pieces.ensures c.as_slice-ways.ensures c.goes_along.ensures c.loop-i.invariant (omega arith) c.join_if.ensures.down c.join_if.ensures.labels
