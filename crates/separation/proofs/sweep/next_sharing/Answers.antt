use Rattle.std.proofs.Common.{refl, inl, inr, arith}
use Rattle.separation.proofs.SweepLemmas.{first_through, meeting_from, not_before_trans, rows_end, rows_one_more}
use Rattle.separation.proofs.sweep.next_sharing.Goals as goal

pub loop-at-init : goal.loop-at-init
loop-at-init c = record {
  order = inr (refl, omega arith);
  none = λ axis places drawing ways are in_order s t swept pair share. swept;
}

pub loop-at-preserved : goal.loop-at-preserved
loop-at-preserved c = record {
  order = not_before_trans c.args.from c.loop-at.at _ c.loop-at.invariant.order (inl (omega arith));
  none = λ axis places drawing ways are in_order.
      rows_one_more c.args.bars.now places c.args.extents.now c.args.from c.loop-at.at _ refl refl
      (c.loop-at.invariant.none axis places drawing ways are in_order) (c.in_default.ensures.next axis places drawing ways are in_order);
}

pub returns-in-Some-clause-meeting : goal.returns-in-Some-clause-meeting
returns-in-Some-clause-meeting c =
    meeting_from c.args.bars.now c.args.extents.now c.args.from c.loop-at.at c.in-Some.found c.loop-at.invariant.order c.in-Some.ensures.meeting

pub returns-in-Some-clause-next : goal.returns-in-Some-clause-next
returns-in-Some-clause-next c = λ axis places drawing ways are in_order.
    first_through c.args.bars.now places c.args.extents.now c.args.from c.loop-at.at c.in-Some.found
    (c.loop-at.invariant.none axis places drawing ways are in_order) (c.in-Some.ensures.next axis places drawing ways are in_order)

pub returns-clause-next : goal.returns-clause-next
returns-clause-next c = λ axis places drawing ways are in_order.
    rows_end c.args.bars.now places c.args.extents.now c.args.from c.loop-at.at c.loop-at-test.false
    (c.loop-at.invariant.none axis places drawing ways are in_order)
