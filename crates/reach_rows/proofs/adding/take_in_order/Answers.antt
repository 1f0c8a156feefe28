use Rattle.std.proofs.Common.{arith}
use Rattle.reach_rows.proofs.RowLemmas.{in_order_more, bits_of_order}
use Rattle.reach_rows.proofs.adding.take_in_order.Goals as goal

pub loop-k-preserved : goal.loop-k-preserved
loop-k-preserved c = record {
  within = omega (arith, c.loop-k.invariant.within);
  bits = in_order_more c.args.words c.args.nodes c.loop-k.k c.loop-k.bits c.take_row.new.bits c.args.arcs.now c.args.order.now c.requires.wide
      c.requires.ends c.requires.order (omega arith) c.loop-k.invariant.within c.loop-k.invariant.bits c.take_row.ensures;
}

pub returns : goal.returns
returns c =
    bits_of_order c.args.words c.args.nodes c.loop-k.k c.loop-k.bits c.args.arcs.now c.args.order.now c.requires.order (omega arith) c.loop-k.invariant.bits
