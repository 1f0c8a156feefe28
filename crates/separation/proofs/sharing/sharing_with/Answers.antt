use Rattle.separation.proofs.SortedSegments.{drawing_from_none}
use Rattle.separation.proofs.SweepLemmas.{told_by_numbers}
use Rattle.separation.proofs.sharing.sharing_with.Goals as goal

pub returns : goal.returns
returns c = λ choices drawing solves.
    (let are = c.put_in_order.ensures.extents solves.ways in
    told_by_numbers c.args.bars.now c.args.places.now c.put_in_order.new.extents _ _ c.next_sharing.result c.segments_of_pair.result c.segments_of_pair.ensures
    c.next_sharing.ensures.meeting
    (c.next_sharing.ensures.next are.0 c.args.places.now drawing solves.ways are.1 c.put_in_order.ensures.in_order)
    (λ none. drawing_from_none c.args.bars.now choices c.args.places.now c.put_in_order.new.extents c.put_in_order.ensures.seen drawing solves none))
