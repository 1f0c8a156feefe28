use Rattle.std.proofs.Common.{◌≡◌, suc, ◌+◌, ◌<◌, length, ap, arith}
use Rattle.shape_graphs.proofs.LinkLemmas.{more_last, more_linked}
use Rattle.shape_graphs.proofs.trail.arcs_into.Goals as goal

pub loop-i-preserved : goal.loop-i-preserved
loop-i-preserved c =
    let arcs = c.args.graph.now.arcs in
    let i = c.loop-i.i in
    let last = c.loop-i.last in
    let before = c.loop-i.before in
    let within : i < length arcs = omega (arith, ap length c.as_slice-arcs.ensures) in
    let n : i + 1 ≡ suc i = omega arith in
    record {
      last = more_last c.args.graph.now.nodes arcs i last before within c.args.graph.now.ends c.loop-i.invariant.last c.loop-i.invariant.before
          c.set.new.self (i + 1) n (cc (c.set.ensures, c.as_slice-arcs.ensures, n));
      before = more_linked c.args.graph.now.nodes arcs i last before within c.args.graph.now.ends c.loop-i.invariant.last c.loop-i.invariant.before
          c.push.new.self (i + 1) n (cc (c.in_ok-push.ensures.ok, c.as_slice-arcs.ensures, c.as_slice.ensures));
    }
