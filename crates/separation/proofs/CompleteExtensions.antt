-- The law of the centre: drawings are the solutions of complete extensions.
use Rattle.std.proofs.Common.{◌≡◌, ℕ, ℤ, zero, suc, ◌<◌, ◌<ℤ◌, ◌≤ℤ◌, ◌==◌, ◌&&◌, List, [], ◌∷◌, length, true, ◌⊎◌, inl, inr, subst, sym, ap, refl, ◌∙◌, ◌≤◌, arith, length-append}
use Rattle.std.proofs.lemmas.Int.{ints, by_lt_z}
use Rattle.std.proofs.Math.Seq.{get_or-append_seam}
use Rattle.std.proofs.lemmas.List.{get_or_append_left}
use Rattle.std.proofs.lemmas.Bool.{cases_lt, cases_order, and_parts, and_from, eq-eqb, eqb-true}
use Rattle.compact_types.specs.declared.places.Axis.{Axis}
use Rattle.compact_types.specs.declared.places.Axis.TheVariants.{X, Y}
use Rattle.compact_types.specs.declared.places.Point.{Point}
use Rattle.compact_types.specs.declared.places.Places.{Places}
use Rattle.compact_types.specs.declared.plan.Shape.{Shape}
use Rattle.compact_types.specs.declared.search.Choice.{Choice}
use Rattle.compact_types.proofs.Laws.{drawing_of_crossing_free}
use Rattle.compact_types.specs.Connected.{IsAlong}
use Rattle.compact_types.specs.Drawings.{HasWays, IsDrawing, MayShare, OnPiece}
use Rattle.compact_types.specs.Lookups.{place, piece_at, way_at, along, other_axis, axis_of, IsEnd, HaveSameEnds}
use Rattle.bars.specs.Lines.{line_of}
use Rattle.bars.specs.Segments.{segment_count, segment_at, IsOnSegment, IsPieceOf, ShareVertex, IsPair}
use Rattle.bars.specs.Sides.{StandsBefore, SideHolds}
use Rattle.bars.specs.Solutions.{HasDrawing, Fit, Solves, choice_at, with_choice}
use Rattle.bars.proofs.Laws.{GoesAlong, low_of, high_of, coordinate, same_point, other_twice, axis_or_other, low_and_high, end_is, low_is_end, high_is_end, straight, rises, spans_on, Spans, level_line, in_line_from_number, ClimbsAlong, climb_rises, climb_grows, beside, one_behind, one_from, one_to, compared, of_some_segment, piece_low_on, piece_high_on, low_at, high_at, low_bounds, high_vertex, IsInBounds, on_from_bounds, bounds_from_on, stands_before, nodes_apart, some_or_none}
use Rattle.shape_graphs.specs.Separation.{IsSeparated, IsComplete}
use Rattle.shape_graphs.proofs.Laws.{side_from_path}
use Rattle.separation.specs.Meetings.{ShareAPoint, AreApart}

-- two pieces with the same ends along one axis are not across each other
ends_of_low : (shape : Shape) (i v : ℕ) → (v ≡ low_of shape i) ⊎ (v ≡ high_of shape i) → IsEnd v (piece_at shape.plan.pieces i)
ends_of_low shape i v (inl low) = subst (λ (x : ℕ). IsEnd x (piece_at shape.plan.pieces i)) (sym low) (low_is_end (way_at shape.ways i) (piece_at shape.plan.pieces i))
ends_of_low shape i v (inr high) = subst (λ (x : ℕ). IsEnd x (piece_at shape.plan.pieces i)) (sym high) (high_is_end (way_at shape.ways i) (piece_at shape.plan.pieces i))

-- pieces with the same ends have the same low end, or the low end of one is the high end of the other
abbrev LowOfBoth : Shape → ℕ → ℕ → Type 0
LowOfBoth shape i j = ((low_of shape i ≡ low_of shape j) × (high_of shape i ≡ high_of shape j)) ⊎ ((low_of shape i ≡ high_of shape j) × (high_of shape i ≡ low_of shape j))

low_of_both : (shape : Shape) (i j : ℕ) → HaveSameEnds (piece_at shape.plan.pieces i) (piece_at shape.plan.pieces j) → LowOfBoth shape i j
low_of_both shape i j same = by_ends same (low_and_high (way_at shape.ways i) (piece_at shape.plan.pieces i)) (low_and_high (way_at shape.ways j) (piece_at shape.plan.pieces j))
  where
    by_ends : HaveSameEnds (piece_at shape.plan.pieces i) (piece_at shape.plan.pieces j) →
        (((piece_at shape.plan.pieces i).from ≡ low_of shape i) × ((piece_at shape.plan.pieces i).to ≡ high_of shape i)) ⊎ (((piece_at shape.plan.pieces i).from ≡ high_of shape i) × ((piece_at shape.plan.pieces i).to ≡ low_of shape i)) →
        (((piece_at shape.plan.pieces j).from ≡ low_of shape j) × ((piece_at shape.plan.pieces j).to ≡ high_of shape j)) ⊎ (((piece_at shape.plan.pieces j).from ≡ high_of shape j) × ((piece_at shape.plan.pieces j).to ≡ low_of shape j)) →
        LowOfBoth shape i j
    by_ends (inl is) (inl a) (inl b) = inl (sym a.0 ∙ is.0 ∙ b.0, sym a.1 ∙ is.1 ∙ b.1)
    by_ends (inl is) (inl a) (inr b) = inr (sym a.0 ∙ is.0 ∙ b.0, sym a.1 ∙ is.1 ∙ b.1)
    by_ends (inl is) (inr a) (inl b) = inr (sym a.1 ∙ is.1 ∙ b.1, sym a.0 ∙ is.0 ∙ b.0)
    by_ends (inl is) (inr a) (inr b) = inl (sym a.1 ∙ is.1 ∙ b.1, sym a.0 ∙ is.0 ∙ b.0)
    by_ends (inr is) (inl a) (inl b) = inr (sym a.0 ∙ is.0 ∙ b.1, sym a.1 ∙ is.1 ∙ b.0)
    by_ends (inr is) (inl a) (inr b) = inl (sym a.0 ∙ is.0 ∙ b.1, sym a.1 ∙ is.1 ∙ b.0)
    by_ends (inr is) (inr a) (inl b) = inl (sym a.1 ∙ is.1 ∙ b.0, sym a.0 ∙ is.0 ∙ b.1)
    by_ends (inr is) (inr a) (inr b) = inr (sym a.1 ∙ is.1 ∙ b.0, sym a.0 ∙ is.0 ∙ b.1)

module _ (shape : Shape) (drawing : HasDrawing shape) (places : Places) (ways : HasWays shape places) where
  -- the piece is one of the segment, and the point lies on it
  pub record IsThere (s i : ℕ) (z : Point) : Type 0 where
    pub within : s < segment_count shape
    pub of : IsPieceOf shape s i
    pub on : OnPiece shape.plan places i z

  -- where a point lies that is on a piece and level with a vertex of its line: at an end, if the vertex stands there
  module _ (axis : Axis) (i : ℕ) (goes : GoesAlong axis shape i) (z : Point) (on : OnPiece shape.plan places i z) where
    abbrev spans : Spans axis (place places.xy (low_of shape i)) (place places.xy (high_of shape i)) z
    spans = spans_on axis shape places ways i z goes on

    -- a vertex of the line whose coordinate along it is that of the point is an end of the piece
    vertex_is_end : (v : ℕ) → line_of axis shape v ≡ line_of axis shape (low_of shape i) → coordinate axis places v ≡ along axis z →
        (v ≡ low_of shape i) ⊎ (v ≡ high_of shape i)
    vertex_is_end v in_line at =
        by_place (beside _ _ _ (one_from axis shape drawing) (one_to axis shape drawing) v i goes (compared axis shape drawing v (low_of shape i) (in_line_from_number axis shape v (low_of shape i) in_line)))
      where
        by_low : (v ≡ low_of shape i) ⊎ (coordinate axis places v <ℤ coordinate axis places (low_of shape i)) → (v ≡ low_of shape i) ⊎ (v ≡ high_of shape i)
        by_low (inl same) = inl same
        by_low (inr less) = let from = spans.from in absurd (omega (arith, ints, less, from, at))

        by_high : (high_of shape i ≡ v) ⊎ (coordinate axis places (high_of shape i) <ℤ coordinate axis places v) → (v ≡ low_of shape i) ⊎ (v ≡ high_of shape i)
        by_high (inl same) = inr (sym same)
        by_high (inr less) = let to = spans.to in absurd (omega (arith, ints, less, to, at))

        by_place : ClimbsAlong axis shape v (low_of shape i) ⊎ ClimbsAlong axis shape (high_of shape i) v → (v ≡ low_of shape i) ⊎ (v ≡ high_of shape i)
        by_place (inl up) = by_low (climb_rises _ _ _ (coordinate axis places) (rises axis shape places ways) v (low_of shape i) up)
        by_place (inr up) = by_high (climb_rises _ _ _ (coordinate axis places) (rises axis shape places ways) (high_of shape i) v up)

    -- the point is level with the vertices of the line
    level_with : (v : ℕ) → line_of axis shape v ≡ line_of axis shape (low_of shape i) → coordinate (other_axis axis) places v ≡ along (other_axis axis) z
    level_with v in_line = level_line axis shape places ways v (low_of shape i) (in_line_from_number axis shape v (low_of shape i) in_line) ∙ sym spans.level

  -- two pieces of one line share at most an end
  module _ (axis : Axis) (i j : ℕ) (goes_i : GoesAlong axis shape i) (goes_j : GoesAlong axis shape j) (differ : i ≡ j → ⊥)
      (in_line : line_of axis shape (low_of shape i) ≡ line_of axis shape (low_of shape j)) (z : Point) (on_i : OnPiece shape.plan places i z) (on_j : OnPiece shape.plan places j z) where
    abbrev rise_i : coordinate axis places (low_of shape i) <ℤ coordinate axis places (high_of shape i)
    rise_i = rises axis shape places ways i goes_i

    abbrev rise_j : coordinate axis places (low_of shape j) <ℤ coordinate axis places (high_of shape j)
    rise_j = rises axis shape places ways j goes_j

    -- of two pieces one after the other not both have both ends in common
    apart_i_j : coordinate axis places (high_of shape i) ≤ℤ coordinate axis places (low_of shape j) → LowOfBoth shape i j → ⊥
    apart_i_j before (inl same) =
        let low : coordinate axis places (low_of shape i) ≡ coordinate axis places (low_of shape j) = ap (coordinate axis places) same.0 in
        let first = rise_i in
        omega (arith, ints, low, first, before)
    apart_i_j before (inr same) =
        let low : coordinate axis places (low_of shape i) ≡ coordinate axis places (high_of shape j) = ap (coordinate axis places) same.0 in
        let first = rise_i in
        let second = rise_j in
        omega (arith, ints, low, first, second, before)

    apart_j_i : coordinate axis places (high_of shape j) ≤ℤ coordinate axis places (low_of shape i) → LowOfBoth shape i j → ⊥
    apart_j_i before (inl same) =
        let low : coordinate axis places (low_of shape i) ≡ coordinate axis places (low_of shape j) = ap (coordinate axis places) same.0 in
        let second = rise_j in
        omega (arith, ints, low, second, before)
    apart_j_i before (inr same) =
        let low : coordinate axis places (low_of shape i) ≡ coordinate axis places (high_of shape j) = ap (coordinate axis places) same.0 in
        let high : coordinate axis places (high_of shape i) ≡ coordinate axis places (low_of shape j) = ap (coordinate axis places) same.1 in
        let first = rise_i in
        let second = rise_j in
        omega (arith, ints, low, high, first, second, before)

    share_in_line : MayShare shape.plan places i j z
    share_in_line = by_order (one_behind _ _ _ (one_from axis shape drawing) (one_to axis shape drawing) i j goes_i goes_j differ
        (compared axis shape drawing (low_of shape i) (low_of shape j) (in_line_from_number axis shape (low_of shape i) (low_of shape j) in_line)))
      where
        place_is : (v : ℕ) → line_of axis shape v ≡ line_of axis shape (low_of shape i) → coordinate axis places v ≡ along axis z → place places.xy v ≡ z
        place_is v its at = same_point axis (place places.xy v) z at (level_with axis i goes_i z on_i v its)

        grows : (v w : ℕ) → ClimbsAlong axis shape v w → coordinate axis places v ≤ℤ coordinate axis places w
        grows v w up = climb_grows _ _ _ (coordinate axis places) (rises axis shape places ways) v w up

        by_order : ClimbsAlong axis shape (high_of shape i) (low_of shape j) ⊎ ClimbsAlong axis shape (high_of shape j) (low_of shape i) → MayShare shape.plan places i j z
        by_order (inl up) =
            let before = grows (high_of shape i) (low_of shape j) up in
            let to = (spans axis i goes_i z on_i).to in
            let from = (spans axis j goes_j z on_j).from in
            let at : coordinate axis places (low_of shape j) ≡ along axis z = omega (arith, ints, before, to, from) in
            record {
              end = (
                low_of shape j,
                ends_of_low shape i (low_of shape j) (vertex_is_end axis i goes_i z on_i (low_of shape j) (sym in_line) at),
                ends_of_low shape j (low_of shape j) (inl refl),
                place_is (low_of shape j) (sym in_line) at,
              );
              apart = λ same. apart_i_j before (low_of_both shape i j same);
            }
        by_order (inr up) =
            let before = grows (high_of shape j) (low_of shape i) up in
            let to = (spans axis j goes_j z on_j).to in
            let from = (spans axis i goes_i z on_i).from in
            let at : coordinate axis places (low_of shape i) ≡ along axis z = omega (arith, ints, before, to, from) in
            record {
              end = (
                low_of shape i,
                ends_of_low shape i (low_of shape i) (inl refl),
                ends_of_low shape j (low_of shape i) (vertex_is_end axis j goes_j z on_j (low_of shape i) in_line at),
                place_is (low_of shape i) refl at,
              );
              apart = λ same. apart_j_i before (low_of_both shape i j same);
            }

  -- pieces of two lines across each other that share a vertex share at most the place of that vertex
  module _ (axis : Axis) (i j : ℕ) (goes_i : GoesAlong axis shape i) (goes_j : GoesAlong (other_axis axis) shape j)
      (v : ℕ) (on_first : line_of axis shape v ≡ line_of axis shape (low_of shape i)) (on_second : line_of (other_axis axis) shape v ≡ line_of (other_axis axis) shape (low_of shape j))
      (z : Point) (on_i : OnPiece shape.plan places i z) (on_j : OnPiece shape.plan places j z) where
    across_at : coordinate (other_axis axis) places v ≡ along (other_axis axis) z
    across_at = level_with axis i goes_i z on_i v on_first

    along_at : coordinate axis places v ≡ along axis z
    along_at = subst (λ (a : Axis). coordinate a places v ≡ along a z) (other_twice axis) (level_with (other_axis axis) j goes_j z on_j v on_second)

    apart_across : LowOfBoth shape i j → ⊥
    apart_across same = by_case same
      where
        level_j : coordinate axis places (low_of shape j) ≡ coordinate axis places (high_of shape j)
        level_j = subst (λ (a : Axis). coordinate a places (low_of shape j) ≡ coordinate a places (high_of shape j)) (other_twice axis)
            (straight (other_axis axis) shape places ways j goes_j).level

        by_case : LowOfBoth shape i j → ⊥
        by_case (inl same) =
            let low : coordinate axis places (low_of shape i) ≡ coordinate axis places (low_of shape j) = ap (coordinate axis places) same.0 in
            let high : coordinate axis places (high_of shape i) ≡ coordinate axis places (high_of shape j) = ap (coordinate axis places) same.1 in
            let rise = rises axis shape places ways i goes_i in
            let level = level_j in
            omega (arith, ints, low, high, rise, level)
        by_case (inr same) =
            let low : coordinate axis places (low_of shape i) ≡ coordinate axis places (high_of shape j) = ap (coordinate axis places) same.0 in
            let high : coordinate axis places (high_of shape i) ≡ coordinate axis places (low_of shape j) = ap (coordinate axis places) same.1 in
            let rise = rises axis shape places ways i goes_i in
            let level = level_j in
            omega (arith, ints, low, high, rise, level)

    share_across : MayShare shape.plan places i j z
    share_across = record {
      end = (
        v,
        ends_of_low shape i v (vertex_is_end axis i goes_i z on_i v on_first along_at),
        ends_of_low shape j v (vertex_is_end (other_axis axis) j goes_j z on_j v on_second across_at),
        same_point axis (place places.xy v) z along_at across_at,
      );
      apart = λ same. apart_across (low_of_both shape i j same);
    }

  -- two segments share a vertex or not
  share_or_not : (s t : ℕ) → ShareVertex shape s t ⊎ (ShareVertex shape s t → ⊥)
  share_or_not s t = by_search (some_or_none (λ v. (line_of (segment_at shape s).axis shape v == (segment_at shape s).line) && (line_of (segment_at shape t).axis shape v == (segment_at shape t).line)) shape.plan.vertices)
    where
      by_search : ((v : ℕ) × (v < shape.plan.vertices) × (((line_of (segment_at shape s).axis shape v == (segment_at shape s).line) && (line_of (segment_at shape t).axis shape v == (segment_at shape t).line)) ≡ true)) ⊎
          ((v : ℕ) → v < shape.plan.vertices → ((line_of (segment_at shape s).axis shape v == (segment_at shape s).line) && (line_of (segment_at shape t).axis shape v == (segment_at shape t).line)) ≡ true → ⊥) →
          ShareVertex shape s t ⊎ (ShareVertex shape s t → ⊥)
      by_search (inl found) =
          let both = and_parts _ _ found.2 in
          inl (found.0, record { is_vertex = found.1; in_line = eqb-true _ _ both.0 }, record { is_vertex = found.1; in_line = eqb-true _ _ both.1 })
      by_search (inr none) = inr (λ share. none share.0 share.1.is_vertex (and_from _ _ (eq-eqb _ _ share.1.in_line) (eq-eqb _ _ share.2.in_line)))

  -- two pieces of segments with a common vertex share at most what they may
  share_with_vertex : (s t i j : ℕ) (z : Point) → IsThere s i z → IsThere t j z → (i ≡ j → ⊥) → ShareVertex shape s t → MayShare shape.plan places i j z
  share_with_vertex s t i j z first second differ share = by_axes (axis_or_other (segment_at shape t).axis (segment_at shape s).axis)
    where
      goes_i : GoesAlong (segment_at shape s).axis shape i
      goes_i = record { inside = first.of.inside; along = first.of.along }

      goes_j : (axis : Axis) → (segment_at shape t).axis ≡ axis → GoesAlong axis shape j
      goes_j axis same = record { inside = second.of.inside; along = subst (λ (a : Axis). IsAlong a shape j) same second.of.along }

      on_t : (axis : Axis) → (segment_at shape t).axis ≡ axis → (v : ℕ) → IsOnSegment shape t v → line_of axis shape v ≡ (segment_at shape t).line
      on_t axis same v on = subst (λ (a : Axis). line_of a shape v ≡ (segment_at shape t).line) same on.in_line

      low_i : IsOnSegment shape s (low_of shape i)
      low_i = piece_low_on shape s first.within i first.of

      low_j : IsOnSegment shape t (low_of shape j)
      low_j = piece_low_on shape t second.within j second.of

      by_axes : ((segment_at shape t).axis ≡ (segment_at shape s).axis) ⊎ ((segment_at shape t).axis ≡ other_axis (segment_at shape s).axis) → MayShare shape.plan places i j z
      by_axes (inl same) =
          share_in_line (segment_at shape s).axis i j goes_i (goes_j _ same) differ
          (low_i.in_line ∙ sym share.1.in_line ∙ on_t _ same share.0 share.2 ∙ sym (on_t _ same (low_of shape j) low_j)) z first.on second.on
      by_axes (inr across) =
          share_across (segment_at shape s).axis i j goes_i (goes_j _ across) share.0 (share.1.in_line ∙ sym low_i.in_line)
          (on_t _ across share.0 share.2 ∙ sym (on_t _ across (low_of shape j) low_j)) z first.on second.on

  -- places in which segments without a common vertex are apart are a drawing
  pub drawn_from_apart : length places.xy ≡ shape.plan.vertices → AreApart shape places → IsDrawing shape places
  drawn_from_apart fits apart = drawing_of_crossing_free shape places (record { places_fit = fits; ways = ways; meetings = meetings })
    where
      by_share : (i j s t : ℕ) (z : Point) → IsThere s i z → IsThere t j z → (i ≡ j → ⊥) → ShareVertex shape s t ⊎ (ShareVertex shape s t → ⊥) → MayShare shape.plan places i j z
      by_share i j s t z first second differ (inl share) = share_with_vertex s t i j z first second differ share
      by_share i j s t z first second differ (inr none) = by_order (cases_order s t)
        where
          by_order : (s ≡ t) ⊎ ((s < t) ⊎ (t < s)) → MayShare shape.plan places i j z
          by_order (inl same) =
              absurd (none ((piece_at shape.plan.pieces i).from, first.of.on_segment, subst (λ (u : ℕ). IsOnSegment shape u (piece_at shape.plan.pieces i).from) same first.of.on_segment))
          by_order (inr (inl less)) =
              absurd (apart s t (record { in_order = less; in_shape = second.within; apart = none }) (z, (i, first.of, first.on), (j, second.of, second.on)))
          by_order (inr (inr more)) =
              absurd (apart t s (record { in_order = more; in_shape = first.within; apart = λ share. none (share.0, share.2, share.1) }) (z, (j, second.of, second.on), (i, first.of, first.on)))

      meetings : (i j : ℕ) → i < length shape.plan.pieces → j < length shape.plan.pieces → (i ≡ j → ⊥) →
          (z : Point) → OnPiece shape.plan places i z → OnPiece shape.plan places j z → MayShare shape.plan places i j z
      meetings i j inside_i inside_j differ z on_i on_j =
          let s = of_some_segment shape i inside_i in
          let t = of_some_segment shape j inside_j in
          by_share i j s.0 t.0 z (record { within = s.1; of = s.2; on = on_i }) (record { within = t.1; of = t.2; on = on_j }) differ (share_or_not s.0 t.0)

  -- in a drawing segments without a common vertex are apart
  pub apart_from_drawn : IsDrawing shape places → AreApart shape places
  apart_from_drawn is s t pair share =
      let i = share.1.0 in
      let j = share.2.0 in
      let within_s : s < segment_count shape = (let less = pair.in_order in let below = pair.in_shape in omega (arith, less, below)) in
      let differ : i ≡ j → ⊥ = λ same. pair.apart (
        (piece_at shape.plan.pieces i).from,
        share.1.1.on_segment,
        subst (λ (k : ℕ). IsOnSegment shape t (piece_at shape.plan.pieces k).from) (sym same) share.2.1.on_segment,
      ) in
      let may = is.crossing_free.meetings i j share.1.1.inside share.2.1.inside differ share.0 share.1.2 share.2.2 in
      pair.apart (
        may.end.0,
        on_end s i may.end.0 within_s share.1.1 (end_is (way_at shape.ways i) (piece_at shape.plan.pieces i) may.end.0 may.end.1),
        on_end t j may.end.0 pair.in_shape share.2.1 (end_is (way_at shape.ways j) (piece_at shape.plan.pieces j) may.end.0 may.end.2),
      )
    where
      on_end : (s i v : ℕ) → s < segment_count shape → IsPieceOf shape s i → (v ≡ low_of shape i) ⊎ (v ≡ high_of shape i) → IsOnSegment shape s v
      on_end s i v within of (inl low) = subst (λ (x : ℕ). IsOnSegment shape s x) (sym low) (piece_low_on shape s within i of)
      on_end s i v within of (inr high) = subst (λ (x : ℕ). IsOnSegment shape s x) (sym high) (piece_high_on shape s within i of)

  -- segments of which one stands before the other along an axis share no point
  pub apart_from_before : (axis : Axis) (s t : ℕ) → s < segment_count shape → t < segment_count shape → StandsBefore axis shape places s t → ShareAPoint shape places s t → ⊥
  apart_from_before axis s t s_within t_within before share =
      let first = bounds_from_on shape s s_within drawing places ways share.0 share.1.0 share.1.1 share.1.2 in
      let second = bounds_from_on shape t t_within drawing places ways share.0 share.2.0 share.2.1 share.2.2 in
      let nodes = nodes_apart shape drawing places ways axis s t s_within t_within before in
      let to = first.below axis in
      let from = second.above axis in
      omega (arith, ints, nodes, to, from)

-- two intervals of which none ends before the other begins share a number
common : (a b c d : ℤ) → a ≤ℤ b → c ≤ℤ d → c ≤ℤ b → a ≤ℤ d → (x : ℤ) × (a ≤ℤ x) × (x ≤ℤ b) × (c ≤ℤ x) × (x ≤ℤ d)
common a b c d first second left right =
    by_lt_z a c
    (λ less. (c, omega (arith, ints, less), left, omega (arith, ints), second))
    (λ more. (a, omega (arith, ints), first, omega (arith, ints, more), right))

module _ (shape : Shape) (drawing : HasDrawing shape) (places : Places) (ways : HasWays shape places) (s t : ℕ) (s_within : s < segment_count shape) (t_within : t < segment_count shape) where
  abbrev pub low_s : Axis → ℤ
  low_s axis = low_at shape s s_within drawing places ways axis

  abbrev pub high_s : Axis → ℤ
  high_s axis = high_at shape s s_within drawing places ways axis

  abbrev pub low_t : Axis → ℤ
  low_t axis = low_at shape t t_within drawing places ways axis

  abbrev pub high_t : Axis → ℤ
  high_t axis = high_at shape t t_within drawing places ways axis

  -- the segments overlap along the axis
  pub record Overlap (axis : Axis) : Type 0 where
    pub first : low_t axis ≤ℤ high_s axis
    pub second : low_s axis ≤ℤ high_t axis

  -- along an axis one stands before the other, or they overlap
  before_or_overlap : (axis : Axis) → (StandsBefore axis shape places s t ⊎ StandsBefore axis shape places t s) ⊎ Overlap axis
  before_or_overlap axis =
      by_lt_z (high_s axis) (low_t axis)
      (λ less. inl (inl (stands_before shape drawing places ways axis s t s_within t_within less)))
      (λ first. by_lt_z (high_t axis) (low_s axis)
      (λ less. inl (inr (stands_before shape drawing places ways axis t s t_within s_within less)))
      (λ second. inr (record { first = omega (arith, ints, first); second = omega (arith, ints, second) })))

  -- a number common to both along the axis
  common_along : (axis : Axis) → Overlap axis → (x : ℤ) × (low_s axis ≤ℤ x) × (x ≤ℤ high_s axis) × (low_t axis ≤ℤ x) × (x ≤ℤ high_t axis)
  common_along axis overlap =
      common (low_s axis) (high_s axis) (low_t axis) (high_t axis)
      (low_bounds shape s s_within drawing places ways axis _ (high_vertex shape s s_within drawing axis).1)
      (low_bounds shape t t_within drawing places ways axis _ (high_vertex shape t t_within drawing axis).1)
      overlap.first overlap.second

  -- segments that overlap along both axes share a point
  pub share_from_overlaps : Overlap X → Overlap Y → ShareAPoint shape places s t
  share_from_overlaps across along =
      let x = common_along X across in
      let y = common_along Y along in
      let z : Point = record { x = x.0; y = y.0 } in
      let first : IsInBounds shape s s_within drawing places ways z = record { above = both _ _ _ x.1 y.1; below = both_below _ _ _ x.2 y.2 } in
      let second : IsInBounds shape t t_within drawing places ways z = record { above = both _ _ _ x.3 y.3; below = both_below _ _ _ x.4 y.4 } in
      (z, on_from_bounds shape s s_within drawing places ways z first, on_from_bounds shape t t_within drawing places ways z second)
    where
      both : (f : Axis → ℤ) (x y : ℤ) → f X ≤ℤ x → f Y ≤ℤ y → (axis : Axis) → f axis ≤ℤ Rattle.compact_types.specs.Lookups.along axis (record { x = x; y = y })
      both f x y is_x is_y X = is_x
      both f x y is_x is_y Y = is_y

      both_below : (f : Axis → ℤ) (x y : ℤ) → x ≤ℤ f X → y ≤ℤ f Y → (axis : Axis) → Rattle.compact_types.specs.Lookups.along axis (record { x = x; y = y }) ≤ℤ f axis
      both_below f x y is_x is_y X = is_x
      both_below f x y is_x is_y Y = is_y

  -- one of the four sides holds
  abbrev pub SomeSide : Type 0
  SomeSide = (side : ℕ) × (side < 4) × SideHolds shape places s t side

  -- segments share a point or one of their sides holds
  pub side_or_share : SomeSide ⊎ ShareAPoint shape places s t
  side_or_share = by_axes (before_or_overlap X) (before_or_overlap Y)
    where
      by_axes : (StandsBefore X shape places s t ⊎ StandsBefore X shape places t s) ⊎ Overlap X → (StandsBefore Y shape places s t ⊎ StandsBefore Y shape places t s) ⊎ Overlap Y →
          SomeSide ⊎ ShareAPoint shape places s t
      by_axes (inl (inl west)) y = inl (0, omega arith, west)
      by_axes (inl (inr east)) y = inl (1, omega arith, east)
      by_axes (inr x) (inl (inl below)) = inl (2, omega arith, below)
      by_axes (inr x) (inl (inr above)) = inl (3, omega arith, above)
      by_axes (inr x) (inr y) = inr (share_from_overlaps x y)

  -- segments with a side that holds share no point
  pub apart_from_side : (side : ℕ) → SideHolds shape places s t side → ShareAPoint shape places s t → ⊥
  apart_from_side zero holds share = apart_from_before shape drawing places ways X s t s_within t_within holds share
  apart_from_side (suc zero) holds share = apart_from_before shape drawing places ways X t s t_within s_within holds (share.0, share.2, share.1)
  apart_from_side (suc (suc zero)) holds share = apart_from_before shape drawing places ways Y s t s_within t_within holds share
  apart_from_side (suc (suc (suc n))) holds share = apart_from_before shape drawing places ways Y t s t_within s_within holds (share.0, share.2, share.1)

-- the first segment of a pair is there
pub first_there : (shape : Shape) (s t : ℕ) → IsPair shape s t → s < segment_count shape
first_there shape s t pair = let less = pair.in_order in let below = pair.in_shape in omega (arith, less, below)

-- in a drawing one of the four sides of a pair holds
pub side_in_drawing : (shape : Shape) (places : Places) (s t : ℕ) → IsDrawing shape places → IsPair shape s t → (side : ℕ) × (side < 4) × SideHolds shape places s t side
side_in_drawing shape places s t is pair =
    by_case (side_or_share shape (places, is) places is.crossing_free.ways s t (first_there shape s t pair) pair.in_shape)
  where
    by_case : ((side : ℕ) × (side < 4) × SideHolds shape places s t side) ⊎ ShareAPoint shape places s t → (side : ℕ) × (side < 4) × SideHolds shape places s t side
    by_case (inl side) = side
    by_case (inr share) = absurd (apart_from_drawn shape (places, is) places is.crossing_free.ways is s t pair share)

-- a drawing solves no choices
pub solves_none : (shape : Shape) (places : Places) → IsDrawing shape places → Solves shape [] places
solves_none shape places drawing = record {
  places_fit = drawing.crossing_free.places_fit;
  ways = drawing.crossing_free.ways;
  sides = λ i within. absurd (omega (arith, within));
}

-- places that solve the choices, and in which one more side holds, solve the choices with it
pub solves_one_more : (shape : Shape) (choices : List Choice) (places : Places) (s t side : ℕ) → Solves shape choices places → SideHolds shape places s t side →
    Solves shape (with_choice choices s t side) places
solves_one_more shape choices places s t side solves holds =
    record { places_fit = solves.places_fit; ways = solves.ways; sides = λ j within. by_order j within (cases_lt j (length choices)) }
  where
    by_order : (j : ℕ) → j < length (with_choice choices s t side) → (j < length choices) ⊎ (length choices ≤ j) →
        SideHolds shape places (choice_at (with_choice choices s t side) j).s (choice_at (with_choice choices s t side) j).t (choice_at (with_choice choices s t side) j).side
    by_order j within (inl before) =
        subst (λ (choice : Choice). SideHolds shape places choice.s choice.t choice.side)
        (sym (get_or_append_left choices (record { s = s; t = t; side = side } ∷ []) (record { s = 0; t = 0; side = 0 }) j before)) (solves.sides j before)
    by_order j within (inr after) =
        let both = length-append choices (record { s = s; t = t; side = side } ∷ []) in
        let last : j ≡ length choices = omega (arith, both, within, after) in
        subst (λ (choice : Choice). SideHolds shape places choice.s choice.t choice.side)
        (sym (ap (choice_at (with_choice choices s t side)) last ∙ get_or-append_seam choices (record { s = s; t = t; side = side }) [] (record { s = 0; t = 0; side = 0 }))) holds

module _ (shape : Shape) (choices : List Choice) (places : Places) (drawing : HasDrawing shape) (fit : Fit shape choices) (solves : Solves shape choices places) where
  -- a pair that the choices separate shares no point
  pub separated_apart : (s t : ℕ) → IsPair shape s t → IsSeparated shape choices s t → ShareAPoint shape places s t → ⊥
  separated_apart s t pair separated share =
      apart_from_side shape drawing places solves.ways s t (first_there shape s t pair) pair.in_shape separated.0
      (side_from_path shape choices drawing fit places solves s t separated.0 (first_there shape s t pair) pair.in_shape separated.2) share

  -- nor does the pair of a choice
  pub chosen_apart : (j : ℕ) → j < length choices → ShareAPoint shape places (choice_at choices j).s (choice_at choices j).t → ⊥
  chosen_apart j within share =
      let pair = (fit.each j within).pair in
      apart_from_side shape drawing places solves.ways _ _ (first_there shape _ _ pair) pair.in_shape (choice_at choices j).side (solves.sides j within) share

  -- every solution of a complete list is a drawing
  pub drawn_from_complete : IsComplete shape choices → IsDrawing shape places
  drawn_from_complete complete =
      drawn_from_apart shape drawing places solves.ways solves.places_fit (λ s t pair share. separated_apart s t pair (complete s t pair) share)
