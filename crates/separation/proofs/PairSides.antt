-- The nodes that the arcs of the sides of a pair join.
use Rattle.std.proofs.Common.{ℕ, ◌<◌}
use Rattle.compact_types.specs.declared.plan.Shape.{Shape}
use Rattle.bars.specs.Segments.{segment_count, node_count, IsPair, low_node, high_node}
use Rattle.bars.specs.Sides.{side_axis, first_at_side, second_at_side}
use Rattle.bars.proofs.Laws.{low_below, high_below}
use Rattle.shape_graphs.proofs.Laws.{first_below}
use Rattle.separation.proofs.CompleteExtensions.{first_there}

module _ (shape : Shape) (s t side : ℕ) (pair : IsPair shape s t) where
  -- the arc of a side begins and ends at nodes of its graph
  pub side_begins : high_node (side_axis side) shape (first_at_side side s t) < node_count (side_axis side) shape
  side_begins = high_below (side_axis side) shape (first_at_side side s t) (first_below side s t (segment_count shape) (first_there shape s t pair) pair.in_shape)

  pub side_stops : low_node (side_axis side) shape (second_at_side side s t) < node_count (side_axis side) shape
  side_stops = low_below (side_axis side) shape (second_at_side side s t) (first_below side t s (segment_count shape) pair.in_shape (first_there shape s t pair))
