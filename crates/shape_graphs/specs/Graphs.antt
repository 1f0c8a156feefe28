-- The constraint graph of an axis: its nodes are the lines across the axis, and its arcs say which
-- stands before which, by the pieces and by the choices.
use Rattle.std.specs.Prelude.{◌≡◌, ℕ, pos, List, ◌++◌, length, Option, None, Some, if◌then◌else◌}
use Rattle.std.specs.List.{filter_map, range_with_len}
use Rattle.compact_types.specs.declared.places.Axis.{Axis}
use Rattle.compact_types.specs.declared.search.Choice.{Choice}
use Rattle.compact_types.specs.declared.plan.Shape.{Shape}
use Rattle.compact_types.specs.Axes.{low_end, high_end}
use Rattle.compact_types.specs.Lookups.{piece_at, way_at}
use Rattle.bars.specs.Lines.{is_axis, is_along}
use Rattle.bars.specs.Segments.{node_of, node_count, low_node, high_node}
use Rattle.bars.specs.Sides.{side_axis, first_at_side, second_at_side}
use Rattle.shape_graphs.specs.declared.graph.Arc.{Arc}
use Rattle.shape_graphs.specs.declared.graph.DiffGraph.{DiffGraph}

-- the arc of a piece along the axis, from the node of its low end to that of its high end; its
-- length counts
abbrev pub piece_arc : Axis → Shape → ℕ → Arc
piece_arc axis shape i = record {
  from = node_of axis shape (low_end (way_at shape.ways i) (piece_at shape.plan.pieces i));
  to = node_of axis shape (high_end (way_at shape.ways i) (piece_at shape.plan.pieces i));
  least = pos 1;
  pull = pos 1;
}

-- the arc of a side of two segments, from the last node of the one that stands first to the first
-- node of the other; its length does not count
abbrev pub side_arc : Shape → ℕ → ℕ → ℕ → Arc
side_arc shape s t side = record {
  from = high_node (side_axis side) shape (first_at_side side s t);
  to = low_node (side_axis side) shape (second_at_side side s t);
  least = pos 1;
  pull = pos 0;
}

-- the arc of a piece, where it goes along the axis
abbrev pub piece_arc_along : Axis → Shape → ℕ → Option Arc
piece_arc_along axis shape i = if is_along axis shape i then Some (piece_arc axis shape i) else None

-- the arc of a choice, where its side keeps apart along the axis
abbrev pub choice_arc_along : Axis → Shape → Choice → Option Arc
choice_arc_along axis shape choice =
    if is_axis (side_axis choice.side) axis then Some (side_arc shape choice.s choice.t choice.side)
    else None

-- the arcs of the pieces along the axis, in the order of the pieces
abbrev pub piece_arcs : Axis → Shape → List Arc
piece_arcs axis shape = filter_map (piece_arc_along axis shape) (range_with_len 0 (length shape.plan.pieces))

-- the arcs of the choices whose sides keep apart along the axis, in the order of the choices
abbrev pub choice_arcs : Axis → Shape → List Choice → List Arc
choice_arcs axis shape choices = filter_map (choice_arc_along axis shape) choices

-- the arcs of the graph of the axis: those of the pieces, and then those of the choices
abbrev pub arcs_of : Axis → Shape → List Choice → List Arc
arcs_of axis shape choices = piece_arcs axis shape ++ choice_arcs axis shape choices

-- the constraint graph of the axis: the column graph for X, the row graph for Y
pub record IsGraphOf (axis : Axis) (shape : Shape) (choices : List Choice) (graph : DiffGraph) : Type 0 where
  pub nodes : graph.nodes ≡ node_count axis shape
  pub arcs : graph.arcs ≡ arcs_of axis shape choices
