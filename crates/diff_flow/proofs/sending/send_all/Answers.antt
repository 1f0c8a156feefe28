use Rattle.std.proofs.Common.{arith, below_more}
use Rattle.diff_flow.proofs.sending.send_all.Goals as goal

pub loop-node-preserved : goal.loop-node-preserved
loop-node-preserved c = record {
  blank = c.in_ok-send_from.ensures.blank;
  routing = c.in_ok-send_from.ensures.routing;
  kept = λ given spread. c.in_ok-send_from.ensures.kept given (c.loop-node.invariant.kept given spread);
  none = below_more _ _ (λ v inside. omega (arith, c.in_ok-send_from.ensures.less v, c.loop-node.invariant.none v inside))
      c.in_ok-send_from.ensures.none;
}
