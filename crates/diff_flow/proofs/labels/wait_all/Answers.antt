use Rattle.diff_flow.proofs.LabelLemmas.{rises_first}
use Rattle.diff_flow.proofs.labels.wait_all.Goals as goal

pub loop-i-init : goal.loop-i-init
loop-i-init c =
    let steps = c.args.steps.now in
    rises_first steps.nodes steps.arcs steps.list.items c.args.amounts.now _ c.args.walks.now c.args.waits.now c.args.queue.now.items
    steps.paired c.requires.walks c.requires.waits c.requires.queue
