use Rattle.std.proofs.Common.{refl, sym, ◌∙◌, inr, arith}
use Rattle.separation.proofs.SweepLemmas.{first_in_row, none_past, row_one_more}
use Rattle.separation.proofs.sweep.next_in_row.Goals as goal

pub loop-j-init : goal.loop-j-init
loop-j-init c = λ axis places drawing ways are in_order s t seen pair share. seen

pub loop-j-preserved : goal.loop-j-preserved
loop-j-preserved c = λ axis places drawing ways are in_order.
    row_one_more c.args.bars.now places c.args.extents.now c.args.from.first c.loop-j.j _ _ refl
    (c.loop-j.invariant axis places drawing ways are in_order)
    (c.in_default.ensures.share axis places drawing ways (are c.args.from.first c.requires.first) (are c.loop-j.j c.loop-j-test.true))

pub returns-then-ends_west-clause-next : goal.returns-then-ends_west-clause-next
returns-then-ends_west-clause-next c = λ axis places drawing ways are in_order s t seen pair share.
    c.loop-j.invariant axis places drawing ways are in_order s t
    (none_past c.args.bars.now places c.args.extents.now axis drawing ways c.args.from.first c.loop-j.j s t are in_order
    c.requires.first c.loop-j-test.true (sym c.ends_west.ensures ∙ c.if-ends_west.true) seen share) pair share

pub returns-in-Some-clause-meeting : goal.returns-in-Some-clause-meeting
returns-in-Some-clause-meeting c = record {
  pair = c.in-Some.ensures.pair.0;
  these = c.in-Some.ensures.pair.1;
  first_inside = c.requires.first;
  second_inside = c.loop-j-test.true;
  later = inr (refl, omega arith);
}

pub returns-in-Some-clause-next : goal.returns-in-Some-clause-next
returns-in-Some-clause-next c = λ axis places drawing ways are in_order.
    first_in_row c.args.bars.now places c.args.extents.now c.args.from _ refl
    (c.in-Some.ensures.share axis places drawing ways (are c.args.from.first c.requires.first) (are c.loop-j.j c.loop-j-test.true))
    (c.loop-j.invariant axis places drawing ways are in_order)

pub returns-clause-next : goal.returns-clause-next
returns-clause-next c = λ axis places drawing ways are in_order s t seen pair share.
    c.loop-j.invariant axis places drawing ways are in_order s t
    (seen.0, seen.1, (let last = seen.2 in let done = c.loop-j-test.false in omega (arith, last, done)), seen.3) pair share
