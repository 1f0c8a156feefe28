-- The low and the high node of a segment are nodes.
use Rattle.std.proofs.Common.{◌≡◌, ℕ, ◌<◌, false, ◌⊎◌, inl, inr, subst, arith}
use Rattle.std.proofs.lemmas.Bool.{cond_both}
use Rattle.compact_types.specs.declared.places.Axis.{Axis}
use Rattle.compact_types.specs.declared.plan.Shape.{Shape}
use Rattle.compact_types.specs.Lookups.{other_axis}
use Rattle.bars.specs.Lines.{is_axis, line_count}
use Rattle.bars.specs.Segments.{segment_count, segment_at, first_vertex, last_vertex, node_of, node_count, low_node, high_node}
use Rattle.bars.proofs.RangeSearches.{found_below}
use Rattle.bars.proofs.LineNumbers.{line_below}
use Rattle.bars.proofs.LineVertices.{is_axis_other}
use Rattle.bars.proofs.LineEnds.{low_is_vertex}
use Rattle.bars.proofs.SegmentLists.{segment_line}
use Rattle.bars.proofs.SegmentEnds.{axis_or_other}

module _ (axis : Axis) (shape : Shape) (s : ℕ) (within : s < segment_count shape) where
  some_vertex : 0 < shape.plan.vertices
  some_vertex =
      let some = (segment_line shape s within).some_piece in
      let vertex = low_is_vertex shape some.0 some.1.inside in
      omega (arith, vertex)

  line_is_node : is_axis (segment_at shape s).axis axis ≡ false → (segment_at shape s).line < node_count axis shape
  line_is_node other = by_axis (axis_or_other (segment_at shape s).axis axis)
    where
      by_axis : ((segment_at shape s).axis ≡ axis) ⊎ ((segment_at shape s).axis ≡ other_axis axis) → (segment_at shape s).line < node_count axis shape
      by_axis (inl same) = absurd (is_axis_other _ _ other same)
      by_axis (inr across) = subst (λ (a : Axis). (segment_at shape s).line < line_count a shape) across (segment_line shape s within).below

  -- the low node of a segment is one of the nodes
  pub low_below : low_node axis shape s < node_count axis shape
  low_below =
      cond_both (is_axis (segment_at shape s).axis axis) (node_of axis shape (first_vertex axis shape (segment_at shape s).line)) (segment_at shape s).line
      (λ (node : ℕ). node < node_count axis shape)
      (λ along. line_below (other_axis axis) shape (first_vertex axis shape (segment_at shape s).line) (found_below _ 0 shape.plan.vertices shape.plan.vertices some_vertex (omega arith)))
      line_is_node

  -- and so is the high node
  pub high_below : high_node axis shape s < node_count axis shape
  high_below =
      cond_both (is_axis (segment_at shape s).axis axis) (node_of axis shape (last_vertex axis shape (segment_at shape s).line)) (segment_at shape s).line
      (λ (node : ℕ). node < node_count axis shape)
      (λ along. line_below (other_axis axis) shape (last_vertex axis shape (segment_at shape s).line) (found_below _ 0 shape.plan.vertices shape.plan.vertices some_vertex (omega arith)))
      line_is_node
