use Rattle.std.proofs.Common.{arith}
use Rattle.drawing_check.proofs.SeatLemmas.{apart_from_rest, apart_one_later}
use Rattle.drawing_check.proofs.sweep.count_apart_at.Goals as goal

pub loop-later-preserved : goal.loop-later-preserved
loop-later-preserved c =
    apart_one_later c.args.points.now c.args.seats.now c.args.place c.loop-later.later c.lowered-count.result c.loop-later.count
    c.lowered-count.ensures.at_most c.loop-later.invariant c.lowered-count.ensures.apart

pub returns-then-ends_before : goal.returns-then-ends_before
returns-then-ends_before c =
    apart_from_rest c.args.points.now c.args.seats.now c.args.place c.loop-later.later c.loop-later.count c.requires.can_sweep c.requires.place
    c.loop-later-test.true (c.ends_before.ensures.0 c.if-ends_before.true) c.loop-later.invariant

pub returns : goal.returns
returns c = λ k after inside. c.loop-later.invariant k after (omega arith)
