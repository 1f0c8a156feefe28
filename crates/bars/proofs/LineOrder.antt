-- The order of the vertices of a line, and what low and high nodes are.
use Rattle.std.proofs.Common.{◌≡◌, ℕ, ◌<◌, ◌<ℤ◌, ◌≤ℤ◌, length, ◌⊎◌, inl, inr, subst, sym, ap, refl, ◌∙◌, arith}
use Rattle.std.proofs.lemmas.Int.{ints}
use Rattle.compact_types.specs.declared.places.Axis.{Axis}
use Rattle.compact_types.specs.declared.places.Axis.TheVariants.{X, Y}
use Rattle.compact_types.specs.declared.places.Places.{Places}
use Rattle.compact_types.specs.declared.plan.Shape.{Shape}
use Rattle.compact_types.specs.Connected.{AreInLine}
use Rattle.compact_types.specs.Drawings.{HasWays}
use Rattle.compact_types.specs.Lookups.{piece_at, way_at, axis_of, other_axis}
use Rattle.bars.specs.Ends.{StandsFirst, StandsLast, IsLowNode, IsHighNode}
use Rattle.bars.specs.Lines.{line_of, line_count}
use Rattle.bars.specs.Segments.{segment_count, segment_at, IsOnSegment, IsPieceOf, ShareVertex, first_vertex, last_vertex, low_node, high_node}
use Rattle.bars.specs.Solutions.{HasDrawing}
use Rattle.bars.proofs.PieceChains.{climb_rises, climb_grows}
use Rattle.bars.proofs.LinePositions.{GoesAlong, ClimbsAlong, low_of, high_of, coordinate, rises, compared}
use Rattle.bars.proofs.LineEnds.{first_is_first, last_is_last, line_of_low}
use Rattle.bars.proofs.SegmentLists.{segment_of_piece, segments_differ, row_before_column}
use Rattle.bars.proofs.SegmentEnds.{axis_or_other, low_vertex, high_vertex, low_stands, high_stands, piece_on, piece_low_on, piece_high_on}

module _ (axis : Axis) (shape : Shape) (drawing : HasDrawing shape) where
  -- the first stands before the second in all places with the ways
  abbrev AlwaysBefore : ℕ → ℕ → Type 0
  AlwaysBefore v w = (places : Places) → HasWays shape places → coordinate axis places v <ℤ coordinate axis places w

  always_before : (v w : ℕ) → ClimbsAlong axis shape v w → (v ≡ w → ⊥) → AlwaysBefore v w
  always_before v w up differ places ways = by_rise (climb_rises _ _ _ (coordinate axis places) (rises axis shape places ways) v w up)
    where
      by_rise : (v ≡ w) ⊎ (coordinate axis places v <ℤ coordinate axis places w) → coordinate axis places v <ℤ coordinate axis places w
      by_rise (inl same) = absurd (differ same)
      by_rise (inr less) = less

  -- different vertices of a line have one order
  pub strict_order : (v w : ℕ) → AreInLine axis shape v w → (v ≡ w → ⊥) → AlwaysBefore v w ⊎ AlwaysBefore w v
  strict_order v w in_line differ = by_order (compared axis shape drawing v w in_line)
    where
      by_order : ClimbsAlong axis shape v w ⊎ ClimbsAlong axis shape w v → AlwaysBefore v w ⊎ AlwaysBefore w v
      by_order (inl up) = inl (always_before v w up differ)
      by_order (inr down) = inr (always_before w v down (λ same. differ (sym same)))

  module _ (places : Places) (ways : HasWays shape places) (line : ℕ) (within : line < line_count axis shape) where
    grows : (v w : ℕ) → ClimbsAlong axis shape v w → coordinate axis places v ≤ℤ coordinate axis places w
    grows v w up = climb_grows _ _ _ (coordinate axis places) (rises axis shape places ways) v w up

    pub first_stands : StandsFirst axis shape places line (first_vertex axis shape line)
    first_stands =
        let first = first_is_first axis shape drawing line within in
        record { is_vertex = first.vertex; in_line = first.in_line; least = λ w vertex at. grows _ w (first.leads w at) }

    pub last_stands : StandsLast axis shape places line (last_vertex axis shape line)
    last_stands =
        let last = last_is_last axis shape drawing line within in
        record { is_vertex = last.vertex; in_line = last.in_line; greatest = λ w vertex at. grows w _ (last.led w at) }

module _ (shape : Shape) (s : ℕ) (within : s < segment_count shape) (drawing : HasDrawing shape) (axis : Axis) (places : Places) (ways : HasWays shape places) where
  pub low_is_low : IsLowNode axis shape places s (low_node axis shape s)
  low_is_low = record { taken = low_vertex shape s within drawing axis; least = λ v w vertex at on. low_stands shape s within drawing places ways axis v w at on }

  pub high_is_high : IsHighNode axis shape places s (high_node axis shape s)
  high_is_high = record { taken = high_vertex shape s within drawing axis; greatest = λ v w vertex at on. high_stands shape s within drawing places ways axis v w at on }

-- a segment has two vertices
pub two_on : (shape : Shape) (s : ℕ) → HasDrawing shape → s < segment_count shape → (v w : ℕ) × IsOnSegment shape s v × IsOnSegment shape s w × (v ≡ w → ⊥)
two_on shape s drawing within =
    let some = piece_on shape s within in
    let axis = (segment_at shape s).axis in
    let rise = rises axis shape drawing.0 drawing.1.crossing_free.ways some.0 (record { inside = some.1.inside; along = some.1.along }) in (
      low_of shape some.0,
      high_of shape some.0,
      piece_low_on shape s within some.0 some.1,
      piece_high_on shape s within some.0 some.1,
      λ same. (let equal : coordinate axis drawing.0 (low_of shape some.0) ≡ coordinate axis drawing.0 (high_of shape some.0) = ap (coordinate axis drawing.0) same in omega (arith, ints, rise, equal)),
    )

-- each piece is one of a segment
pub of_some_segment : (shape : Shape) (i : ℕ) → i < length shape.plan.pieces → (s : ℕ) × (s < segment_count shape) × IsPieceOf shape s i
of_some_segment shape i inside =
    let axis = axis_of (way_at shape.ways i) in
    let goes : GoesAlong axis shape i = record { inside = inside; along = refl } in
    let found = segment_of_piece shape axis i goes in (
      found.0,
      found.1.within,
      record {
        inside = inside;
        along = sym found.1.along;
        on_segment = record {
          is_vertex = (shape.plan.ends i inside).0;
          in_line =
              subst (λ (a : Axis). line_of a shape (piece_at shape.plan.pieces i).from ≡ (segment_at shape found.0).line) (sym found.1.along)
              (sym (line_of_low axis shape i goes) ∙ sym found.1.in_line);
        };
      },
    )

-- two segments that share a vertex are a row and a column
pub row_and_column : (shape : Shape) (s t : ℕ) → s < t → t < segment_count shape → ShareVertex shape s t →
    ((segment_at shape s).axis ≡ X) × ((segment_at shape t).axis ≡ Y)
row_and_column shape s t less within share = by_axes (axis_or_other (segment_at shape s).axis (segment_at shape t).axis)
  where
    by_axes : ((segment_at shape s).axis ≡ (segment_at shape t).axis) ⊎ ((segment_at shape s).axis ≡ other_axis (segment_at shape t).axis) →
        ((segment_at shape s).axis ≡ X) × ((segment_at shape t).axis ≡ Y)
    by_axes (inl same) =
        let on_t = subst (λ (a : Axis). line_of a shape share.0 ≡ (segment_at shape t).line) (sym same) share.2.in_line in
        absurd (segments_differ shape s t less within same (sym share.1.in_line ∙ on_t))
    by_axes (inr across) = row_before_column shape s t less within across
