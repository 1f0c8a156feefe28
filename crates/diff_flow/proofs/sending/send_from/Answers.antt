use Rattle.std.proofs.Common.{arith}
use Rattle.diff_flow.proofs.sending.send_from.Goals as goal

pub loop-over-preserved : goal.loop-over-preserved
loop-over-preserved c = record {
  blank = c.in_ok-send_once.ensures.blank;
  routing = c.in_ok-send_once.ensures.routing;
  kept = λ given spread. c.in_ok-send_once.ensures.kept given (c.loop-over.invariant.kept given spread);
  less = λ v. omega (arith, c.in_ok-send_once.ensures.less v, c.loop-over.invariant.less v);
}
