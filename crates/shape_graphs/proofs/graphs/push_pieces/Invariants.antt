use Rattle.std.proofs.Common.{◌≡◌, ◌++◌}
use Rattle.std.specs.List.{filter_map, range_with_len}
use Rattle.compact_types.specs.declared.places.Axis.TheVariants.{X, Y}
use Rattle.shape_graphs.specs.Graphs.{piece_arc_along}
use Rattle.shape_graphs.proofs.graphs.push_pieces.Given as goal

abbrev pub invariant-loop-i : goal.invariant-loop-i
invariant-loop-i l =
    (l.columns ≡ l.initial.columns ++ filter_map (piece_arc_along X l.bars) (range_with_len 0 l.i))
    × (l.rows ≡ l.initial.rows ++ filter_map (piece_arc_along Y l.bars) (range_with_len 0 l.i))
