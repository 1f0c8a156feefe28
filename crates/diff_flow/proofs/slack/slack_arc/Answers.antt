use Rattle.std.proofs.Common.{arith}
use Rattle.diff_flow.proofs.BestLemmas.{met_where_just}
use Rattle.diff_flow.proofs.slack.slack_arc.Goals as goal

pub returns : goal.returns
returns c =
    let steps = c.args.steps.now in
    met_where_just steps.arcs steps.list.items c.args.amounts.now c.args.numbers.now steps.paired c.requires.met
    (λ k inside. c.loop-i.invariant k (omega arith))
