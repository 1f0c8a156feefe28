use Rattle.std.proofs.Common.{◌+◌, arith}
use Rattle.reach_rows.proofs.RowLemmas.{one_more_done}
use Rattle.reach_rows.proofs.adding.take_all.Goals as goal

pub loop-x-preserved : goal.loop-x-preserved
loop-x-preserved c =
    one_more_done c.args.words c.args.nodes c.args.a c.args.b c.loop-x.x c.args.bits.now c.loop-x.bits c.take_if.new.bits
    c.requires.wide c.requires.begins c.requires.ends c.loop-x.invariant c.take_if.ensures.stay c.take_if.ensures.take (c.loop-x.x + 1) (omega arith)
