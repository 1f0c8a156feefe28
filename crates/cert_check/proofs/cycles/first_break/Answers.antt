use Rattle.std.proofs.Common.{arith}
use Rattle.cert_check.proofs.CycleLemmas.{cycle_from, first_break_at, some_walk}
use Rattle.cert_check.proofs.cycles.first_break.Goals as goal

pub returns-then-is_broken : goal.returns-then-is_broken
returns-then-is_broken c =
    first_break_at c.args.arcs.now c.args.walk.now (some_walk c.args.walk.now c.is_empty.result c.is_empty.ensures c.if-is_empty.false)
    c.loop-place.place (c.is_broken.ensures.0 c.if-is_broken.true) c.loop-place.invariant

pub returns : goal.returns
returns c =
    let end = c.loop-place-test.false in
    cycle_from c.args.arcs.now c.args.walk.now (some_walk c.args.walk.now c.is_empty.result c.is_empty.ensures c.if-is_empty.false)
    (λ place inside. c.loop-place.invariant place (omega (arith, end, inside)))
