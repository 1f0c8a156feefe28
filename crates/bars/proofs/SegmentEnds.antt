-- Where the ends of a segment stand in every places with the ways of a shape that has a drawing.
use Rattle.std.proofs.Common.{◌≡◌, ℕ, ℤ, ◌<◌, ◌<ℤ◌, ◌≤ℤ◌, false, ◌⊎◌, inl, inr, subst, sym, ap, refl, ◌∙◌, arith}
use Rattle.std.proofs.lemmas.Int.{ints}
use Rattle.std.proofs.lemmas.Bool.{cond-true, cond-false}
use Rattle.compact_types.specs.declared.places.Axis.{Axis}
use Rattle.compact_types.specs.declared.places.Axis.TheVariants.{X, Y}
use Rattle.compact_types.specs.declared.places.Point.{Point}
use Rattle.compact_types.specs.declared.places.Places.{Places}
use Rattle.compact_types.specs.declared.plan.Shape.{Shape}
use Rattle.compact_types.specs.Drawings.{HasWays, OnPiece}
use Rattle.compact_types.specs.Lookups.{place, along, other_axis}
use Rattle.bars.specs.Lines.{is_axis, line_of, line_count}
use Rattle.bars.specs.Segments.{segment_count, segment_at, IsOnSegment, IsPieceOf, first_vertex, last_vertex, node_of, low_node, high_node}
use Rattle.bars.specs.Sides.{StandsBefore}
use Rattle.bars.specs.Solutions.{HasDrawing}
use Rattle.bars.proofs.LineNumbers.{line_taken}
use Rattle.bars.proofs.PieceChains.{climbs_through, climb_grows, covered}
use Rattle.bars.proofs.PieceChains.Climbs.{stays, steps}
use Rattle.bars.proofs.LinePositions.{GoesAlong, ClimbsAlong, low_of, high_of, coordinate, other_twice, rises, level_line, spans_on, on_spans, Spans}
use Rattle.bars.proofs.LineEnds.{is_axis_at, in_line_from_number, line_of_low, line_of_high, low_is_vertex, high_is_vertex, IsFirst, IsLast, first_is_first, last_is_last}
use Rattle.bars.proofs.SegmentLists.{IsLineWithPiece, segment_line}

-- an axis is another one or the one across it
pub axis_or_other : (a b : Axis) → (a ≡ b) ⊎ (a ≡ other_axis b)
axis_or_other X X = inl refl
axis_or_other X Y = inr refl
axis_or_other Y X = inr refl
axis_or_other Y Y = inl refl

across_is_no : (a b : Axis) → a ≡ other_axis b → is_axis a b ≡ false
across_is_no X X same = cc
across_is_no X Y same = refl
across_is_no Y X same = refl
across_is_no Y Y same = cc

module _ (shape : Shape) (places : Places) (ways : HasWays shape places) where
  -- the vertices of a node are level
  pub level_node : (axis : Axis) (v w : ℕ) → node_of axis shape v ≡ node_of axis shape w → coordinate axis places v ≡ coordinate axis places w
  level_node axis v w same =
      subst (λ (a : Axis). coordinate a places v ≡ coordinate a places w) (other_twice axis)
      (level_line (other_axis axis) shape places ways v w (in_line_from_number (other_axis axis) shape v w same))

module _ (shape : Shape) (s : ℕ) (within : s < segment_count shape) where
  abbrev its_axis : Axis
  its_axis = (segment_at shape s).axis

  abbrev its_line : ℕ
  its_line = (segment_at shape s).line

  abbrev line_is : IsLineWithPiece shape its_axis its_line
  line_is = segment_line shape s within

  -- some vertex lies on the segment
  pub vertex_on : (v : ℕ) × IsOnSegment shape s v
  vertex_on =
      let taken = line_taken its_axis shape its_line line_is.below in
      (taken.0, record { is_vertex = taken.1; in_line = taken.3 })

  -- the ends of one of its pieces lie on it
  pub piece_low_on : (i : ℕ) → IsPieceOf shape s i → IsOnSegment shape s (low_of shape i)
  piece_low_on i of =
      record { is_vertex = low_is_vertex shape i of.inside; in_line = line_of_low its_axis shape i (record { inside = of.inside; along = of.along }) ∙ of.on_segment.in_line }

  pub piece_high_on : (i : ℕ) → IsPieceOf shape s i → IsOnSegment shape s (high_of shape i)
  piece_high_on i of =
      record { is_vertex = high_is_vertex shape i of.inside; in_line = line_of_high its_axis shape i (record { inside = of.inside; along = of.along }) ∙ of.on_segment.in_line }

  -- a piece along its axis in its line is one of its pieces
  pub piece_of_low : (i : ℕ) → GoesAlong its_axis shape i → line_of its_axis shape (low_of shape i) ≡ its_line → IsPieceOf shape s i
  piece_of_low i goes at =
      record { inside = goes.inside; along = goes.along; on_segment = record { is_vertex = (shape.plan.ends i goes.inside).0; in_line = sym (line_of_low its_axis shape i goes) ∙ at } }

  -- it has a piece
  pub piece_on : (i : ℕ) × IsPieceOf shape s i
  piece_on = let some = line_is.some_piece in (some.0, piece_of_low some.0 some.1 some.2)

  low_along : (axis : Axis) → its_axis ≡ axis → low_node axis shape s ≡ node_of axis shape (first_vertex axis shape its_line)
  low_along axis same = cond-true (is_axis its_axis axis) _ _ (is_axis_at _ _ same)

  low_across : (axis : Axis) → its_axis ≡ other_axis axis → low_node axis shape s ≡ its_line
  low_across axis same = cond-false (is_axis its_axis axis) _ _ (across_is_no _ _ same)

  high_along : (axis : Axis) → its_axis ≡ axis → high_node axis shape s ≡ node_of axis shape (last_vertex axis shape its_line)
  high_along axis same = cond-true (is_axis its_axis axis) _ _ (is_axis_at _ _ same)

  high_across : (axis : Axis) → its_axis ≡ other_axis axis → high_node axis shape s ≡ its_line
  high_across axis same = cond-false (is_axis its_axis axis) _ _ (across_is_no _ _ same)

  -- the node of a vertex on a segment that goes across is the segment itself
  node_across : (axis : Axis) → its_axis ≡ other_axis axis → (v : ℕ) → IsOnSegment shape s v → node_of axis shape v ≡ its_line
  node_across axis same v on = subst (λ (a : Axis). line_of a shape v ≡ its_line) same on.in_line

  module _ (drawing : HasDrawing shape) where
    line_below_along : (axis : Axis) → its_axis ≡ axis → its_line < line_count axis shape
    line_below_along axis same = subst (λ (a : Axis). its_line < line_count a shape) same line_is.below

    first_is : (axis : Axis) → its_axis ≡ axis → IsFirst axis shape its_line (first_vertex axis shape its_line)
    first_is axis same = first_is_first axis shape drawing its_line (line_below_along axis same)

    last_is : (axis : Axis) → its_axis ≡ axis → IsLast axis shape its_line (last_vertex axis shape its_line)
    last_is axis same = last_is_last axis shape drawing its_line (line_below_along axis same)

    on_along : (axis : Axis) → its_axis ≡ axis → (v : ℕ) → v < shape.plan.vertices → line_of axis shape v ≡ its_line → IsOnSegment shape s v
    on_along axis same v vertex at = record { is_vertex = vertex; in_line = subst (λ (a : Axis). line_of a shape v ≡ its_line) (sym same) at }

    along_on : (axis : Axis) → its_axis ≡ axis → (v : ℕ) → IsOnSegment shape s v → line_of axis shape v ≡ its_line
    along_on axis same v on = subst (λ (a : Axis). line_of a shape v ≡ its_line) same on.in_line

    -- a vertex of the segment in its low node, and one in its high node
    pub low_vertex : (axis : Axis) → (u : ℕ) × IsOnSegment shape s u × (node_of axis shape u ≡ low_node axis shape s)
    low_vertex axis = by_axis (axis_or_other its_axis axis)
      where
        by_axis : (its_axis ≡ axis) ⊎ (its_axis ≡ other_axis axis) → (u : ℕ) × IsOnSegment shape s u × (node_of axis shape u ≡ low_node axis shape s)
        by_axis (inl same) =
            let first = first_is axis same in
            (first_vertex axis shape its_line, on_along axis same _ first.vertex first.in_line, sym (low_along axis same))
        by_axis (inr across) = (vertex_on.0, vertex_on.1, node_across axis across _ vertex_on.1 ∙ sym (low_across axis across))

    pub high_vertex : (axis : Axis) → (u : ℕ) × IsOnSegment shape s u × (node_of axis shape u ≡ high_node axis shape s)
    high_vertex axis = by_axis (axis_or_other its_axis axis)
      where
        by_axis : (its_axis ≡ axis) ⊎ (its_axis ≡ other_axis axis) → (u : ℕ) × IsOnSegment shape s u × (node_of axis shape u ≡ high_node axis shape s)
        by_axis (inl same) =
            let last = last_is axis same in
            (last_vertex axis shape its_line, on_along axis same _ last.vertex last.in_line, sym (high_along axis same))
        by_axis (inr across) = (vertex_on.0, vertex_on.1, node_across axis across _ vertex_on.1 ∙ sym (high_across axis across))

    module _ (places : Places) (ways : HasWays shape places) where
      climb_not_falls : (axis : Axis) (v w : ℕ) → ClimbsAlong axis shape v w → coordinate axis places v ≤ℤ coordinate axis places w
      climb_not_falls axis v w up = climb_grows _ _ _ (coordinate axis places) (rises axis shape places ways) v w up

      -- no vertex of the segment stands before its low node
      pub low_stands : (axis : Axis) (u v : ℕ) → node_of axis shape u ≡ low_node axis shape s → IsOnSegment shape s v →
          coordinate axis places u ≤ℤ coordinate axis places v
      low_stands axis u v at on = by_axis (axis_or_other its_axis axis)
        where
          by_axis : (its_axis ≡ axis) ⊎ (its_axis ≡ other_axis axis) → coordinate axis places u ≤ℤ coordinate axis places v
          by_axis (inl same) =
              let first = first_vertex axis shape its_line in
              let level = level_node shape places ways axis u first (at ∙ low_along axis same) in
              let grows = climb_not_falls axis first v ((first_is axis same).leads v (along_on axis same v on)) in
              omega (arith, ints, level, grows)
          by_axis (inr across) =
              let level = level_node shape places ways axis u v (at ∙ low_across axis across ∙ sym (node_across axis across v on)) in
              omega (arith, ints, level)

      -- none stands behind its high node
      pub high_stands : (axis : Axis) (u v : ℕ) → node_of axis shape u ≡ high_node axis shape s → IsOnSegment shape s v →
          coordinate axis places v ≤ℤ coordinate axis places u
      high_stands axis u v at on = by_axis (axis_or_other its_axis axis)
        where
          by_axis : (its_axis ≡ axis) ⊎ (its_axis ≡ other_axis axis) → coordinate axis places v ≤ℤ coordinate axis places u
          by_axis (inl same) =
              let last = last_vertex axis shape its_line in
              let level = level_node shape places ways axis u last (at ∙ high_along axis same) in
              let grows = climb_not_falls axis v last ((last_is axis same).led v (along_on axis same v on)) in
              omega (arith, ints, level, grows)
          by_axis (inr across) =
              let level = level_node shape places ways axis u v (at ∙ high_across axis across ∙ sym (node_across axis across v on)) in
              omega (arith, ints, level)

      -- the coordinates of its low and of its high node
      abbrev pub low_at : Axis → ℤ
      low_at axis = coordinate axis places (low_vertex axis).0

      abbrev pub high_at : Axis → ℤ
      high_at axis = coordinate axis places (high_vertex axis).0

      pub low_bounds : (axis : Axis) (v : ℕ) → IsOnSegment shape s v → low_at axis ≤ℤ coordinate axis places v
      low_bounds axis v on = low_stands axis (low_vertex axis).0 v (low_vertex axis).2 on

      pub high_bounds : (axis : Axis) (v : ℕ) → IsOnSegment shape s v → coordinate axis places v ≤ℤ high_at axis
      high_bounds axis v on = high_stands axis (high_vertex axis).0 v (high_vertex axis).2 on

      -- across its axis it is level
      pub level_across : (v w : ℕ) → IsOnSegment shape s v → IsOnSegment shape s w → coordinate (other_axis its_axis) places v ≡ coordinate (other_axis its_axis) places w
      level_across v w on_v on_w = level_line its_axis shape places ways v w (in_line_from_number its_axis shape v w (on_v.in_line ∙ sym on_w.in_line))

      -- a point is within the bounds of the segment, along both axes
      pub record IsInBounds (z : Point) : Type 0 where
        pub above : (axis : Axis) → low_at axis ≤ℤ along axis z
        pub below : (axis : Axis) → along axis z ≤ℤ high_at axis

      -- each point within its bounds lies on one of its pieces
      pub on_from_bounds : (z : Point) → IsInBounds z → (i : ℕ) × IsPieceOf shape s i × OnPiece shape.plan places i z
      on_from_bounds z bounds =
          let low = low_vertex its_axis in
          let first = first_is its_axis refl in
          let last = last_is its_axis refl in
          let f = first_vertex its_axis shape its_line in
          let l = last_vertex its_axis shape its_line in
          let some = piece_on in
          let some_goes : GoesAlong its_axis shape some.0 = record { inside = some.1.inside; along = some.1.along } in
          let up_low = first.leads (low_of shape some.0) (piece_low_on some.0 some.1).in_line in
          let up_high = last.led (high_of shape some.0) (piece_high_on some.0 some.1).in_line in
          let f_low = climb_not_falls its_axis f (low_of shape some.0) up_low in
          let high_l = climb_not_falls its_axis (high_of shape some.0) l up_high in
          let rise = rises its_axis shape places ways some.0 some_goes in
          let f_on = on_along its_axis refl f first.vertex first.in_line in
          let l_on = on_along its_axis refl l last.vertex last.in_line in
          let from = bounds.above its_axis in
          let to = bounds.below its_axis in
          let f_level = level_node shape places ways its_axis (low_vertex its_axis).0 f ((low_vertex its_axis).2 ∙ low_along its_axis refl) in
          let l_level = level_node shape places ways its_axis (high_vertex its_axis).0 l ((high_vertex its_axis).2 ∙ high_along its_axis refl) in
          by_covered f l first.leads (f_on) (climbs_through _ _ _ f (low_of shape some.0) l up_low (climbs_through _ _ _ (low_of shape some.0) (high_of shape some.0) l (steps some.0 some_goes stays) up_high))
          (omega (arith, ints, f_low, high_l, rise)) (omega (arith, ints, from, f_level)) (omega (arith, ints, to, l_level))
        where
          level_z : (v : ℕ) → IsOnSegment shape s v → along (other_axis its_axis) z ≡ coordinate (other_axis its_axis) places v
          level_z v on =
              let across = other_axis its_axis in
              let low_level = level_across (low_vertex across).0 v (low_vertex across).1 on in
              let high_level = level_across (high_vertex across).0 v (high_vertex across).1 on in
              let from = bounds.above across in
              let to = bounds.below across in
              omega (arith, ints, low_level, high_level, from, to)

          by_covered : (f l : ℕ) → ((w : ℕ) → line_of its_axis shape w ≡ its_line → ClimbsAlong its_axis shape f w) → IsOnSegment shape s f → ClimbsAlong its_axis shape f l →
              coordinate its_axis places f <ℤ coordinate its_axis places l →
              coordinate its_axis places f ≤ℤ along its_axis z → along its_axis z ≤ℤ coordinate its_axis places l →
              (i : ℕ) × IsPieceOf shape s i × OnPiece shape.plan places i z
          by_covered f l leads on up less from to =
              by_piece (covered _ _ _ (coordinate its_axis places) (rises its_axis shape places ways) f l (along its_axis z) up from to)
            where
              climbs_in_line : (v w : ℕ) → ClimbsAlong its_axis shape v w → line_of its_axis shape v ≡ line_of its_axis shape w
              climbs_in_line v w stays = refl
              climbs_in_line v w (steps i goes before) =
                  climbs_in_line v (low_of shape i) before ∙ line_of_low its_axis shape i goes ∙ sym (line_of_high its_axis shape i goes)

              by_piece : (f ≡ l) ⊎ ((i : ℕ) × GoesAlong its_axis shape i × (coordinate its_axis places (low_of shape i) ≤ℤ along its_axis z) × (along its_axis z ≤ℤ coordinate its_axis places (high_of shape i)) × ClimbsAlong its_axis shape f (low_of shape i)) →
                  (i : ℕ) × IsPieceOf shape s i × OnPiece shape.plan places i z
              by_piece (inl same) = let equal : coordinate its_axis places f ≡ coordinate its_axis places l = ap (coordinate its_axis places) same in absurd (omega (arith, ints, less, equal))
              by_piece (inr found) =
                  let number = sym (climbs_in_line f (low_of shape found.0) found.4) ∙ on.in_line in
                  let of = piece_of_low found.0 found.1 number in
                  (found.0, of, on_spans its_axis shape places ways found.0 z found.1 (record { from = found.2; to = found.3; level = level_z (low_of shape found.0) (piece_low_on found.0 of) }))

      -- each point of one of its pieces is within its bounds
      pub bounds_from_on : (z : Point) (i : ℕ) → IsPieceOf shape s i → OnPiece shape.plan places i z → IsInBounds z
      bounds_from_on z i of on =
          let goes : GoesAlong its_axis shape i = record { inside = of.inside; along = of.along } in
          let spans = spans_on its_axis shape places ways i z goes on in
          record { above = λ axis. above axis spans (axis_or_other its_axis axis); below = λ axis. below axis spans (axis_or_other its_axis axis) }
        where
          low_on : IsOnSegment shape s (low_of shape i)
          low_on = piece_low_on i of

          high_on : IsOnSegment shape s (high_of shape i)
          high_on = piece_high_on i of

          across_level : (axis : Axis) → its_axis ≡ other_axis axis → Spans its_axis (place places.xy (low_of shape i)) (place places.xy (high_of shape i)) z →
              along axis z ≡ coordinate axis places (low_of shape i)
          across_level axis across spans =
              subst (λ (a : Axis). along a z ≡ coordinate a places (low_of shape i)) (ap other_axis across ∙ other_twice axis) spans.level

          above : (axis : Axis) → Spans its_axis (place places.xy (low_of shape i)) (place places.xy (high_of shape i)) z →
              (its_axis ≡ axis) ⊎ (its_axis ≡ other_axis axis) → low_at axis ≤ℤ along axis z
          above axis spans (inl same) =
              let bound = low_bounds its_axis (low_of shape i) low_on in
              let from = spans.from in
              subst (λ (a : Axis). low_at a ≤ℤ along a z) same (omega (arith, ints, bound, from))
          above axis spans (inr across) =
              let bound = low_bounds axis (low_of shape i) low_on in
              let level = across_level axis across spans in
              omega (arith, ints, bound, level)

          below : (axis : Axis) → Spans its_axis (place places.xy (low_of shape i)) (place places.xy (high_of shape i)) z →
              (its_axis ≡ axis) ⊎ (its_axis ≡ other_axis axis) → along axis z ≤ℤ high_at axis
          below axis spans (inl same) =
              let bound = high_bounds its_axis (high_of shape i) high_on in
              let to = spans.to in
              subst (λ (a : Axis). along a z ≤ℤ high_at a) same (omega (arith, ints, bound, to))
          below axis spans (inr across) =
              let bound = high_bounds axis (low_of shape i) low_on in
              let level = across_level axis across spans in
              omega (arith, ints, bound, level)

-- a segment whose high node stands before the low node of another stands before it
pub stands_before : (shape : Shape) (drawing : HasDrawing shape) (places : Places) (ways : HasWays shape places) (axis : Axis) (s t : ℕ)
    (s_within : s < segment_count shape) (t_within : t < segment_count shape) →
    high_at shape s s_within drawing places ways axis <ℤ low_at shape t t_within drawing places ways axis → StandsBefore axis shape places s t
stands_before shape drawing places ways axis s t s_within t_within less v w on_v on_w =
    let high = high_bounds shape s s_within drawing places ways axis v on_v in
    let low = low_bounds shape t t_within drawing places ways axis w on_w in
    omega (arith, ints, high, low, less)

-- and the reverse
pub nodes_apart : (shape : Shape) (drawing : HasDrawing shape) (places : Places) (ways : HasWays shape places) (axis : Axis) (s t : ℕ)
    (s_within : s < segment_count shape) (t_within : t < segment_count shape) →
    StandsBefore axis shape places s t → high_at shape s s_within drawing places ways axis <ℤ low_at shape t t_within drawing places ways axis
nodes_apart shape drawing places ways axis s t s_within t_within before =
    let step = before _ _ (high_vertex shape s s_within drawing axis).1 (low_vertex shape t t_within drawing axis).1 in
    omega (arith, ints, step)
