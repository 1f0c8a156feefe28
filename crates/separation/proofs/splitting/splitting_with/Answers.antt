use Rattle.compact_types.specs.declared.places.Axis.TheVariants as axes
use Rattle.separation.specs.inner.Candidates.{IsSetting}
use Rattle.separation.proofs.EndLemmas.{coordinates_solve}
use Rattle.separation.proofs.SortedSegments.{drawing_from_none, pair_from_best}
use Rattle.separation.proofs.splitting.splitting_with.Goals as goal

pub returns-in_default : goal.returns-in_default
returns-in_default c =
    let solves = c.requires.solves in
    let are = c.put_in_order.ensures.extents solves.ways in
    drawing_from_none c.args.bars.now c.args.extension.now.choices c.args.places.now c.put_in_order.new.extents c.put_in_order.ensures.seen
    c.requires.drawing solves
    (c.in_default.ensures.next are.0 c.args.places.now c.requires.drawing solves.ways are.1 c.put_in_order.ensures.in_order)

pub reach_by_coordinates-requires-clause-columns : goal.reach_by_coordinates-requires-clause-columns
reach_by_coordinates-requires-clause-columns c =
    coordinates_solve axes.X c.args.bars.now c.args.extension.now.choices c.args.places.now c.put_in_order.new.xs c.requires.drawing c.requires.fit c.requires.solves
    (c.put_in_order.ensures.xs c.requires.solves.ways)

pub reach_by_coordinates-requires-clause-rows : goal.reach_by_coordinates-requires-clause-rows
reach_by_coordinates-requires-clause-rows c =
    coordinates_solve axes.Y c.args.bars.now c.args.extension.now.choices c.args.places.now c.put_in_order.new.ys c.requires.drawing c.requires.fit c.requires.solves
    (c.put_in_order.ensures.ys c.requires.solves.ways)

pub returns : goal.returns
returns c =
    let solves = c.requires.solves in
    let are = c.put_in_order.ensures.extents solves.ways in
    let setting : IsSetting c.args.bars.now c.args.extension.now.choices c.args.places.now c.in_ok-reach.reach =
    record { drawing = c.requires.drawing; reach_of = c.in_ok-reach.ensures; ways = solves.ways } in
    pair_from_best c.args.bars.now c.args.extension.now.choices c.args.places.now c.put_in_order.new.extents c.put_in_order.ensures.seen
    c.fewest_open-found.result
    (c.fewest_open-found.ensures are.0 c.args.extension.now.choices c.args.places.now setting are.1 c.put_in_order.ensures.in_order
    (c.in-Some.ensures.next are.0 c.args.places.now c.requires.drawing solves.ways are.1 c.put_in_order.ensures.in_order))
