use Rattle.std.proofs.Common.{◌<◌, length, take, sym, arith}
use Rattle.std.proofs.lemmas.List.{length-take-le, take_more}
use Rattle.shape_graphs.specs.Arcs.{no_arc}
use Rattle.diff_flow.proofs.StepLemmas.{steps_more}
use Rattle.diff_flow.proofs.steps.list_of.Goals as goal

pub loop-i-preserved : goal.loop-i-preserved
loop-i-preserved c =
    let i_in : c.loop-i.i < length c.args.arcs.now = omega arith in
    rw (take_more c.args.arcs.now c.loop-i.i no_arc i_in)
    (steps_more (take c.loop-i.i c.args.arcs.now) _ c.loop-i.i c.loop-i.list.items c.push_steps.new.list.items
    (sym (length-take-le c.loop-i.i c.args.arcs.now (omega arith))) c.loop-i.invariant c.in_ok-push_steps.ensures.ok)
