use Rattle.separation.proofs.SortedSegments.{drawing_from_none, pair_from_best}
use Rattle.separation.proofs.branching.pair_with.Goals as goal

pub returns-in_default : goal.returns-in_default
returns-in_default c = λ choices drawing reach solves.
    (let are = c.put_in_order.ensures.extents solves.ways in
    drawing_from_none c.args.bars.now choices c.args.places.now c.put_in_order.new.extents c.put_in_order.ensures.seen drawing solves
    (c.in_default.ensures.next are.0 c.args.places.now drawing solves.ways are.1 c.put_in_order.ensures.in_order))

pub returns : goal.returns
returns c = λ choices drawing reach solves.
    (let are = c.put_in_order.ensures.extents solves.ways in
    pair_from_best c.args.bars.now choices c.args.places.now c.put_in_order.new.extents c.put_in_order.ensures.seen c.fewest_open-found.result
    (c.fewest_open-found.ensures are.0 choices c.args.places.now (record { drawing = drawing; reach_of = reach; ways = solves.ways }) are.1
    c.put_in_order.ensures.in_order
    (c.in-Some.ensures.next are.0 c.args.places.now drawing solves.ways are.1 c.put_in_order.ensures.in_order)))
