-- The laws of this crate as plain lemmas. The proofs of the crates above import this module alone.

-- lines and their numbers
pub use Rattle.bars.proofs.LineVertices.{joined_through, joined_back, is_axis_same, is_axis_other, least_below, least_own, least_joins, least_of_joined, joined_from_least}
pub use Rattle.bars.proofs.LineNumbers.{count_below, counted, least_from_line, line_from_least, line_below, line_taken, lines_in_order}
pub use Rattle.bars.proofs.LineNumbers.{count_below_bound}
pub use Rattle.bars.proofs.LineEnds.{is_axis_at, end_is_vertex, low_is_vertex, high_is_vertex, in_line_from_number, number_from_in_line, ends_in_line, line_of_low, line_of_high}
-- pieces along an axis, in places with the ways
pub use Rattle.bars.proofs.LinePositions.{GoesAlong, low_of, high_of, coordinate, point_at, along_point, across_point, same_point, other_twice, Spans, low_and_high, end_is, low_is_end, high_is_end, straight, rises, spans_on, on_spans, level_line}
-- the order of the vertices and the pieces of a line, in a shape that has a drawing
pub use Rattle.bars.proofs.PieceChains.{Climbs, climb_rises, climb_grows, beside, one_behind}
pub use Rattle.bars.proofs.LinePositions.{ClimbsAlong, one_from, one_to, compared}
pub use Rattle.bars.proofs.LineOrder.{strict_order, first_stands, last_stands}
-- segments
pub use Rattle.bars.proofs.SegmentLists.{segments_differ, row_before_column}
pub use Rattle.bars.proofs.LineOrder.{of_some_segment, two_on, row_and_column, low_is_low, high_is_high}
pub use Rattle.bars.proofs.SegmentEnds.{axis_or_other, level_node, vertex_on, piece_low_on, piece_high_on, piece_on, low_vertex, high_vertex, low_stands, high_stands, low_at, high_at, low_bounds, high_bounds, IsInBounds, on_from_bounds, bounds_from_on, stands_before, nodes_apart}
pub use Rattle.bars.proofs.NodeBounds.{low_below, high_below}
pub use Rattle.bars.proofs.FewSegments.{few_segments, few_lines}
-- searches over ranges of numbers
pub use Rattle.bars.proofs.RangeSearches.{Passes, any_range, any_range_at, found_passes, some_or_none}
