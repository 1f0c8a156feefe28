use Rattle.std.proofs.Common.{arith}
use Rattle.shape_graphs.proofs.RoundLemmas.{each_more, long_more, not_met_more, round_at}
use Rattle.shape_graphs.proofs.trail.round.Goals as goal

pub returns-then-walk-k : goal.returns-then-walk-k
returns-then-walk-k c =
    round_at _ _ _ _ c.loop-k.k _ _ _ _ c.requires c.as_slice-walk.ensures c.as_slice-next.ensures (omega arith)
    c.loop-k.invariant.long c.loop-k.invariant.each c.if-walk-k.true c.in_ok-push.ensures.ok

pub loop-k-preserved : goal.loop-k-preserved
loop-k-preserved c =
    let walk = c.as_slice-walk.result.now in
    let next = c.as_slice-next.result.now in
    let k = c.loop-k.k in
    rw c.in_ok-push.ensures.ok (record {
      within = omega (arith, c.loop-k.invariant.within);
      long = long_more walk c.loop-k.arcs _ k (omega arith) c.loop-k.invariant.long;
      each = each_more walk next c.loop-k.arcs k (omega arith) c.loop-k.invariant.long c.loop-k.invariant.each;
      not_met = not_met_more walk c.args.met k (omega arith) c.if-walk-k.false c.loop-k.invariant.not_met;
    })
