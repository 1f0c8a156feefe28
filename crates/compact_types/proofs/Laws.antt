-- The laws of this crate as plain lemmas. The proofs of the crates above import this module alone.

-- exact answers: from two right halves, in other words, and in two stages
pub use Rattle.compact_types.proofs.AnswerLemmas.{decides_by_one_answer, one_answer_alike, one_answer_in_two_stages}
-- plans, shapes, points and places with the same parts
pub use Rattle.compact_types.proofs.PlanLemmas.{plan_of, shape_of, same_plan, same_shape}
pub use Rattle.compact_types.proofs.OneBest.{same_point, same_places}
-- the ends of pieces
pub use Rattle.compact_types.proofs.EndLemmas.{end_is_vertex, read_ends}
-- the one way to make a drawing
pub use Rattle.compact_types.proofs.DrawingLemmas.{drawing_of_crossing_free}
-- ways and axes
pub use Rattle.compact_types.proofs.AxisLemmas.{SomeWay, some_way, way_differs, one_way, straight_from_way, way_from_straight}
-- sums
pub use Rattle.compact_types.proofs.SumLemmas.{sum_to-split, sum_to-add, sum_to-scale, sum_to-same, sum_to-changed, sum_to-nothing, sum_to-exchange, sum_to-not_greater}
-- products with a number
pub use Rattle.compact_types.proofs.SumLemmas.{times-add}
pub use Rattle.compact_types.proofs.Multiples.{times-sub, times-le_pos, times-le, times-lt, factor-le, factor-lt, same_factor, grows_up, grows_down, multiple_without_rest, no_rest}
-- ranges of numbers
pub use Rattle.compact_types.proofs.RangeLemmas.{range_push}
-- labels of groups
pub use Rattle.compact_types.proofs.GroupLemmas.{relabelled, relabelled_is, relabelled_same, max_and_min}
-- the order of keys, and the best drawing
pub use Rattle.compact_types.proofs.OneBest.{compare_numbers, one_best}
pub use Rattle.compact_types.proofs.OrderLemmas.{list_not_before_itself, list_before_trans, not_before_itself, before_trans, same_key, before_or_equal}
-- moves
pub use Rattle.compact_types.proofs.MoveLemmas.{length-moved, place-moved, moved_back, moved_there, places_moved_back, places_moved_twice, begin-moved, end-moved, crossing_free-moved, drawing-moved, gap-moved, distance-moved, plain_length-moved, difference-moved, distance_places-moved, some_from_zero, one_shift, one_from_zero}
-- places that are scaled down, and up
pub use Rattle.compact_types.proofs.ScalingLemmas.{coordinate-scaled, ways-scaled, ways_of_scaled, crossing_free-scaled, drawing-scaled, length-scaled, from_zero-scaled, from_zero_of_scaled, within-scaled, one_scaled, scaled_not_off, one_first_off}
pub use Rattle.compact_types.proofs.ScaledDrawings.{crossing_free_of_scaled, drawing_of_scaled, two_ends, same_end}
pub use Rattle.compact_types.proofs.GridLemmas.{some_scaled_or_off}
