use Rattle.compact_types.proofs.AxisLemmas.{some_way, way_differs, one_way, straight_from_way, way_from_straight}
use Rattle.compact_types.proofs.axes.ways_by_axes.Goals as goal

pub returns-clause-some : goal.returns-clause-some
returns-clause-some c = λ a b. (some_way a b, λ goes. way_differs a b goes.0 goes.1)

pub returns-clause-only : goal.returns-clause-only
returns-clause-only c = λ v w a b. one_way a b v w

pub returns-clause-ends : goal.returns-clause-ends
returns-clause-ends c = λ way piece places. (straight_from_way way piece places, way_from_straight way piece places)
