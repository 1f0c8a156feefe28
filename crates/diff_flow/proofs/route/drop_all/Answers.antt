use Rattle.diff_flow.proofs.route.drop_all.Goals as goal

pub loop-i-preserved : goal.loop-i-preserved
loop-i-preserved c = record {
  dropped = c.drop_slack.ensures.dropped;
  kept = λ given spread. c.drop_slack.ensures.kept given (c.loop-i.invariant.kept given spread);
}
