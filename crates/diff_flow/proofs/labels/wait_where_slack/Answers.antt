use Rattle.std.proofs.lemmas.Bool.{false≢true}
use Rattle.diff_flow.proofs.LabelLemmas.{looked_just, looked_slack}
use Rattle.diff_flow.proofs.labels.wait_where_slack.Goals as goal

pub returns-else-is_slack : goal.returns-else-is_slack
returns-else-is_slack c =
    let steps = c.args.steps.now in
    record {
      rises = looked_just steps.nodes steps.arcs steps.list.items c.args.amounts.now _ c.args.walks.now c.args.waits.now c.args.queue.now.items
          c.args.i c.along-step.result steps.paired c.requires.inside c.along-step.ensures.is
          (λ some more. absurd (false≢true (c.if-is_slack.ensures.1 (some, more)))) c.requires.rises;
    }

pub returns-in_ok-wait : goal.returns-in_ok-wait
returns-in_ok-wait c =
    let steps = c.args.steps.now in
    record {
      rises = looked_slack steps.nodes steps.arcs steps.list.items c.args.amounts.now _ c.args.walks.now c.args.waits.now c.args.queue.now.items _ _
          c.args.i c.along-step.result steps.paired c.requires.inside c.along-step.ensures.is
          (rw c.requires.rises.lists.flags at c.in_ok-wait.ensures.waits) c.requires.rises;
    }
