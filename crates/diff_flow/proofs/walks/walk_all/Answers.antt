use Rattle.std.proofs.Common.{arith}
use Rattle.diff_flow.proofs.WalkLemmas.{walked_all}
use Rattle.diff_flow.proofs.walks.walk_all.Goals as goal

pub returns : goal.returns
returns c =
    let steps = c.args.steps.now in
    walked_all steps.nodes steps.arcs c.args.limit steps.list.items c.args.order.now _ c.loop-at.at steps.paired c.requires.order (omega arith)
    c.loop-at.invariant
