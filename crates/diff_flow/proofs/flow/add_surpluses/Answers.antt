use Rattle.std.proofs.Common.{◌+◌, ◌<◌, length, arith}
use Rattle.std.proofs.lemmas.Int.{ints}
use Rattle.shape_graphs.specs.Flows.{number_at}
use Rattle.diff_flow.proofs.FlowLemmas.{surplus_is}
use Rattle.diff_flow.proofs.SurplusLemmas.{one_more}
use Rattle.diff_flow.proofs.flow.add_surpluses.Goals as goal

pub loop-i-preserved : goal.loop-i-preserved
loop-i-preserved c = λ k within.
    let inside : k < length c.loop-i.sums = omega (arith, within, c.add_arc.ensures.len) in
    one_more c.args.arcs.now c.args.amounts.now (c.args.first + k) c.loop-i.i (c.loop-i.i + 1) (number_at c.loop-i.sums k) (number_at c.add_arc.new.sums k)
    _ (omega arith) (omega (arith, ints)) (record { low = omega (arith, ints); high = omega (arith, ints) }) (c.loop-i.invariant k inside) (c.add_arc.ensures.values k inside)

pub returns-clause-surpluses : goal.returns-clause-surpluses
returns-clause-surpluses c = λ k within.
    surplus_is c.args.arcs.now c.args.amounts.now (c.args.first + k) c.loop-i.i (number_at c.loop-i.sums k) (omega arith) (c.loop-i.invariant k within).so_far
