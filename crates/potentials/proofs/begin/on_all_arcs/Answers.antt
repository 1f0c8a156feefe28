use Rattle.std.proofs.Common.{arith, ◌<◌, length}
use Rattle.std.proofs.lemmas.Result.{IfOk-weaker}
use Rattle.compact_types.specs.declared.search.Flow.{Flow}
use Rattle.potentials.proofs.StartLemmas.{begun_longer}
use Rattle.potentials.proofs.begin.on_all_arcs.Goals as goal

pub returns : goal.returns
returns c =
    let less : length c.args.start.now.amounts < length c.args.graph.now.arcs = omega (arith, c.if-len.false, c.len.ensures, c.len-2.ensures) in
    IfOk-weaker c.longer.result _ _ (λ (flow : Flow) is. begun_longer c.args.graph.now c.args.start.now c.requires less flow is) c.longer.ensures
