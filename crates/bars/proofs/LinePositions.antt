-- Where the pieces and the lines of a shape stand along an axis and across it.
use Rattle.std.proofs.Common.{◌≡◌, ℕ, ℤ, pos, ◌<◌, ◌+ℤ◌, ◌-ℤ◌, ◌<ℤ◌, ◌≤ℤ◌, List, length, ◌⊎◌, inl, inr, subst, sym, ap, refl, ◌∙◌, arith}
use Rattle.std.proofs.lemmas.Int.{ints}
use Rattle.std.proofs.lemmas.Bool.{cases_eq}
use Rattle.compact_types.specs.declared.places.Axis.{Axis}
use Rattle.compact_types.specs.declared.places.Axis.TheVariants.{X, Y}
use Rattle.compact_types.specs.declared.places.Point.{Point}
use Rattle.compact_types.specs.declared.places.Places.{Places}
use Rattle.compact_types.specs.declared.plan.Piece.{Piece}
use Rattle.compact_types.specs.declared.plan.Shape.{Shape}
use Rattle.compact_types.specs.declared.plan.Way.{Way}
use Rattle.compact_types.specs.declared.plan.Way.TheVariants.{East, West, High, Low}
use Rattle.compact_types.specs.Axes.{IsStraight, low_end, high_end}
use Rattle.compact_types.specs.Connected.{IsAlong, AreInLine}
use Rattle.compact_types.specs.Connected.AreJoined.{start, forward, backward}
use Rattle.compact_types.specs.Drawings.{HasWays, IsCrossingFree, OnPiece}
use Rattle.compact_types.specs.Lookups.{place, piece_at, way_at, along, other_axis, axis_of, IsEnd, HaveSameEnds}
use Rattle.compact_types.specs.Segments.{OnSegment}
use Rattle.compact_types.specs.Ways.{HasWay}
use Rattle.bars.specs.Solutions.{HasDrawing}
use Rattle.bars.proofs.PieceChains.{Climbs, Comparable, comparable_on, comparable_back}
use Rattle.bars.proofs.PieceChains.Climbs.{stays}

-- the piece of this number goes along the axis
pub record GoesAlong (axis : Axis) (shape : Shape) (i : ℕ) : Type 0 where
  pub inside : i < length shape.plan.pieces
  pub along : IsAlong axis shape i

-- the low and the high end of the piece of a number
abbrev pub low_of : Shape → ℕ → ℕ
low_of shape i = low_end (way_at shape.ways i) (piece_at shape.plan.pieces i)

abbrev pub high_of : Shape → ℕ → ℕ
high_of shape i = high_end (way_at shape.ways i) (piece_at shape.plan.pieces i)

-- climbing along an axis
abbrev pub ClimbsAlong : Axis → Shape → ℕ → ℕ → Type 0
ClimbsAlong axis shape v w = Climbs (GoesAlong axis shape) (low_of shape) (high_of shape) v w

-- the coordinate of a vertex
abbrev pub coordinate : Axis → Places → ℕ → ℤ
coordinate axis places v = along axis (place places.xy v)

-- the point with two coordinates, along the axis and across it
abbrev pub point_at : Axis → ℤ → ℤ → Point
point_at X a b = record { x = a; y = b }
point_at Y a b = record { x = b; y = a }

pub along_point : (axis : Axis) (a b : ℤ) → along axis (point_at axis a b) ≡ a
along_point X a b = refl
along_point Y a b = refl

pub across_point : (axis : Axis) (a b : ℤ) → along (other_axis axis) (point_at axis a b) ≡ b
across_point X a b = refl
across_point Y a b = refl

-- two points with the same coordinates along an axis and across it
pub same_point : (axis : Axis) (p q : Point) → along axis p ≡ along axis q → along (other_axis axis) p ≡ along (other_axis axis) q → p ≡ q
same_point X p q here there =
    let moved : p ≡ record { x = q.x; y = p.y } = ap (λ (x : ℤ). let r : Point = record { x = x; y = p.y } in r) here in
    moved ∙ ap (λ (y : ℤ). let r : Point = record { x = q.x; y = y } in r) there
same_point Y p q here there =
    let moved : p ≡ record { x = q.x; y = p.y } = ap (λ (x : ℤ). let r : Point = record { x = x; y = p.y } in r) there in
    moved ∙ ap (λ (y : ℤ). let r : Point = record { x = q.x; y = y } in r) here

pub other_twice : (axis : Axis) → other_axis (other_axis axis) ≡ axis
other_twice X = refl
other_twice Y = refl

-- the point stands along the axis between two others, and level with the first
pub record Spans (axis : Axis) (low high z : Point) : Type 0 where
  pub from : along axis low ≤ℤ along axis z
  pub to : along axis z ≤ℤ along axis high
  pub level : along (other_axis axis) z ≡ along (other_axis axis) low

-- which end of a piece is the low one
abbrev LowAndHigh : Way → Piece → Type 0
LowAndHigh way piece = ((piece.from ≡ low_end way piece) × (piece.to ≡ high_end way piece)) ⊎ ((piece.from ≡ high_end way piece) × (piece.to ≡ low_end way piece))

pub low_and_high : (way : Way) (piece : Piece) → LowAndHigh way piece
low_and_high East piece = inl (refl, refl)
low_and_high West piece = inr (refl, refl)
low_and_high High piece = inl (refl, refl)
low_and_high Low piece = inr (refl, refl)

-- an end is the low or the high one
pub end_is : (way : Way) (piece : Piece) (v : ℕ) → IsEnd v piece → (v ≡ low_end way piece) ⊎ (v ≡ high_end way piece)
end_is way piece v end = by_end (low_and_high way piece) end
  where
    by_end : LowAndHigh way piece → IsEnd v piece → (v ≡ low_end way piece) ⊎ (v ≡ high_end way piece)
    by_end (inl is) (inl from) = inl (from ∙ is.0)
    by_end (inl is) (inr to) = inr (to ∙ is.1)
    by_end (inr is) (inl from) = inr (from ∙ is.0)
    by_end (inr is) (inr to) = inl (to ∙ is.1)

pub low_is_end : (way : Way) (piece : Piece) → IsEnd (low_end way piece) piece
low_is_end East piece = inl refl
low_is_end West piece = inr refl
low_is_end High piece = inl refl
low_is_end Low piece = inr refl

pub high_is_end : (way : Way) (piece : Piece) → IsEnd (high_end way piece) piece
high_is_end East piece = inr refl
high_is_end West piece = inl refl
high_is_end High piece = inr refl
high_is_end Low piece = inl refl

-- pieces with the same low and the same high end have the same ends
same_ends : (v w : Way) (p q : Piece) → low_end v p ≡ low_end w q → high_end v p ≡ high_end w q → HaveSameEnds p q
same_ends v w p q low high = by_ends (low_and_high v p) (low_and_high w q)
  where
    by_ends : LowAndHigh v p → LowAndHigh w q → HaveSameEnds p q
    by_ends (inl first) (inl second) = inl (first.0 ∙ low ∙ sym second.0, first.1 ∙ high ∙ sym second.1)
    by_ends (inl first) (inr second) = inr (first.0 ∙ low ∙ sym second.1, first.1 ∙ high ∙ sym second.0)
    by_ends (inr first) (inl second) = inr (first.0 ∙ high ∙ sym second.1, first.1 ∙ low ∙ sym second.0)
    by_ends (inr first) (inr second) = inl (first.0 ∙ high ∙ sym second.0, first.1 ∙ low ∙ sym second.1)

-- a piece with a way stands straight along its axis
straight_way : (way : Way) (piece : Piece) (points : List Point) → HasWay way (place points piece.from) (place points piece.to) →
    IsStraight (axis_of way) (place points (low_end way piece)) (place points (high_end way piece))
straight_way East piece points goes = record { before = goes.0; level = sym goes.1 }
straight_way West piece points goes = record { before = goes.0; level = goes.1 }
straight_way High piece points goes = record { before = goes.0; level = sym goes.1 }
straight_way Low piece points goes = record { before = goes.0; level = goes.1 }

-- the points of a piece with a way are those between its low and its high end
on_from_spans : (way : Way) (piece : Piece) (points : List Point) (z : Point) → HasWay way (place points piece.from) (place points piece.to) →
    Spans (axis_of way) (place points (low_end way piece)) (place points (high_end way piece)) z →
    OnSegment (place points piece.from) (place points piece.to) z
on_from_spans East piece points z goes spans = (inl (spans.from, spans.to), inl (let l = spans.level in omega (arith, ints, l), let l = spans.level in let g = goes.1 in omega (arith, ints, l, g)))
on_from_spans West piece points z goes spans = (inr (spans.from, spans.to), inl (let l = spans.level in let g = goes.1 in omega (arith, ints, l, g), let l = spans.level in omega (arith, ints, l)))
on_from_spans High piece points z goes spans = (inl (let l = spans.level in omega (arith, ints, l), let l = spans.level in let g = goes.1 in omega (arith, ints, l, g)), inl (spans.from, spans.to))
on_from_spans Low piece points z goes spans = (inl (let l = spans.level in let g = goes.1 in omega (arith, ints, l, g), let l = spans.level in omega (arith, ints, l)), inr (spans.from, spans.to))

-- a number between two equal ones
between_same : (a b z : ℤ) → b ≡ a → ((a ≤ℤ z) × (z ≤ℤ b)) ⊎ ((b ≤ℤ z) × (z ≤ℤ a)) → z ≡ a
between_same a b z same (inl is) = let p = is.0 in let q = is.1 in omega (arith, ints, same, p, q)
between_same a b z same (inr is) = let p = is.0 in let q = is.1 in omega (arith, ints, same, p, q)

-- a number between two in order
between_ordered : (a b z : ℤ) → a <ℤ b → ((a ≤ℤ z) × (z ≤ℤ b)) ⊎ ((b ≤ℤ z) × (z ≤ℤ a)) → (a ≤ℤ z) × (z ≤ℤ b)
between_ordered a b z less (inl is) = is
between_ordered a b z less (inr is) = let p = is.0 in let q = is.1 in absurd (omega (arith, ints, less, p, q))

between_turned : (a b z : ℤ) → b <ℤ a → ((a ≤ℤ z) × (z ≤ℤ b)) ⊎ ((b ≤ℤ z) × (z ≤ℤ a)) → (b ≤ℤ z) × (z ≤ℤ a)
between_turned a b z less (inr is) = is
between_turned a b z less (inl is) = let p = is.0 in let q = is.1 in absurd (omega (arith, ints, less, p, q))

spans_from_on : (way : Way) (piece : Piece) (points : List Point) (z : Point) → HasWay way (place points piece.from) (place points piece.to) →
    OnSegment (place points piece.from) (place points piece.to) z →
    Spans (axis_of way) (place points (low_end way piece)) (place points (high_end way piece)) z
spans_from_on East piece points z goes on =
    let along = between_ordered _ _ _ goes.0 on.0 in record { from = along.0; to = along.1; level = between_same _ _ _ goes.1 on.1 }
spans_from_on West piece points z goes on =
    let along = between_turned _ _ _ goes.0 on.0 in record { from = along.0; to = along.1; level = between_same _ _ _ goes.1 on.1 ∙ sym goes.1 }
spans_from_on High piece points z goes on =
    let along = between_ordered _ _ _ goes.0 on.1 in record { from = along.0; to = along.1; level = between_same _ _ _ goes.1 on.0 }
spans_from_on Low piece points z goes on =
    let along = between_turned _ _ _ goes.0 on.1 in record { from = along.0; to = along.1; level = between_same _ _ _ goes.1 on.0 ∙ sym goes.1 }

module _ (axis : Axis) (shape : Shape) (places : Places) (ways : HasWays shape places) where
  -- the ends of a piece along the axis
  pub straight : (i : ℕ) → GoesAlong axis shape i → IsStraight axis (place places.xy (low_of shape i)) (place places.xy (high_of shape i))
  straight i goes =
      subst (λ (a : Axis). IsStraight a (place places.xy (low_of shape i)) (place places.xy (high_of shape i))) goes.along
      (straight_way (way_at shape.ways i) (piece_at shape.plan.pieces i) places.xy (ways i goes.inside))

  -- a piece rises along its axis
  pub rises : (i : ℕ) → GoesAlong axis shape i → coordinate axis places (low_of shape i) <ℤ coordinate axis places (high_of shape i)
  rises i goes = (straight i goes).before

  -- the points of a piece
  pub spans_on : (i : ℕ) (z : Point) → GoesAlong axis shape i → OnPiece shape.plan places i z →
      Spans axis (place places.xy (low_of shape i)) (place places.xy (high_of shape i)) z
  spans_on i z goes on =
      subst (λ (a : Axis). Spans a (place places.xy (low_of shape i)) (place places.xy (high_of shape i)) z) goes.along
      (spans_from_on (way_at shape.ways i) (piece_at shape.plan.pieces i) places.xy z (ways i goes.inside) on)

  pub on_spans : (i : ℕ) (z : Point) → GoesAlong axis shape i → Spans axis (place places.xy (low_of shape i)) (place places.xy (high_of shape i)) z →
      OnPiece shape.plan places i z
  on_spans i z goes spans =
      on_from_spans (way_at shape.ways i) (piece_at shape.plan.pieces i) places.xy z (ways i goes.inside)
      (subst (λ (a : Axis). Spans a (place places.xy (low_of shape i)) (place places.xy (high_of shape i)) z) (sym goes.along) spans)

  level_step : (i : ℕ) → i < length shape.plan.pieces → IsAlong axis shape i →
      coordinate (other_axis axis) places (piece_at shape.plan.pieces i).from ≡ coordinate (other_axis axis) places (piece_at shape.plan.pieces i).to
  level_step i inside goes = by_ends (low_and_high (way_at shape.ways i) (piece_at shape.plan.pieces i)) (straight i (record { inside = inside; along = goes })).level
    where
      by_ends : LowAndHigh (way_at shape.ways i) (piece_at shape.plan.pieces i) →
          coordinate (other_axis axis) places (low_of shape i) ≡ coordinate (other_axis axis) places (high_of shape i) →
          coordinate (other_axis axis) places (piece_at shape.plan.pieces i).from ≡ coordinate (other_axis axis) places (piece_at shape.plan.pieces i).to
      by_ends (inl is) level = ap (coordinate (other_axis axis) places) is.0 ∙ level ∙ ap (coordinate (other_axis axis) places) (sym is.1)
      by_ends (inr is) level = ap (coordinate (other_axis axis) places) is.0 ∙ sym level ∙ ap (coordinate (other_axis axis) places) (sym is.1)

  -- the vertices of a line are level across
  pub level_line : (v w : ℕ) → AreInLine axis shape v w → coordinate (other_axis axis) places v ≡ coordinate (other_axis axis) places w
  level_line v w start = refl
  level_line v w (forward i inside goes before) = level_line v _ before ∙ level_step i inside goes
  level_line v w (backward i inside goes before) = level_line v _ before ∙ sym (level_step i inside goes)

-- in a shape that has a drawing at most one piece leaves a vertex on each side
module _ (axis : Axis) (shape : Shape) (drawing : HasDrawing shape) where
  abbrev drawn : IsCrossingFree shape drawing.0
  drawn = drawing.1.crossing_free

  abbrev at : ℕ → ℤ
  at v = coordinate axis drawing.0 v

  abbrev Goes : ℕ → Type 0
  Goes i = GoesAlong axis shape i

  -- a vertex at a place that is an end of the piece, and not the low one
  high_from_point : (i u : ℕ) (z : Point) → IsEnd u (piece_at shape.plan.pieces i) → place drawing.0.xy u ≡ z → at (low_of shape i) <ℤ along axis z → u ≡ high_of shape i
  high_from_point i u z end here past = by_end (end_is (way_at shape.ways i) (piece_at shape.plan.pieces i) u end)
    where
      by_end : (u ≡ low_of shape i) ⊎ (u ≡ high_of shape i) → u ≡ high_of shape i
      by_end (inr high) = high
      by_end (inl low) =
          let same : at (low_of shape i) ≡ along axis z = ap at (sym low) ∙ ap (along axis) here in absurd (omega (arith, ints, past, same))

  low_from_point : (i u : ℕ) (z : Point) → IsEnd u (piece_at shape.plan.pieces i) → place drawing.0.xy u ≡ z → along axis z <ℤ at (high_of shape i) → u ≡ low_of shape i
  low_from_point i u z end here past = by_end (end_is (way_at shape.ways i) (piece_at shape.plan.pieces i) u end)
    where
      by_end : (u ≡ low_of shape i) ⊎ (u ≡ high_of shape i) → u ≡ low_of shape i
      by_end (inl low) = low
      by_end (inr high) =
          let same : at (high_of shape i) ≡ along axis z = ap at (sym high) ∙ ap (along axis) here in absurd (omega (arith, ints, past, same))

  -- two pieces from one vertex are one
  pub one_from : (i j : ℕ) → Goes i → Goes j → low_of shape i ≡ low_of shape j → i ≡ j
  one_from i j goes_i goes_j same = by_number (cases_eq i j)
    where
      by_number : (i ≡ j) ⊎ (i ≡ j → ⊥) → i ≡ j
      by_number (inl equal) = equal
      by_number (inr differ) =
          let z = point_at axis (at (low_of shape i) +ℤ pos 1) (coordinate (other_axis axis) drawing.0 (low_of shape i)) in
          let z_along : along axis z ≡ at (low_of shape i) +ℤ pos 1 = along_point axis _ _ in
          let z_across : along (other_axis axis) z ≡ coordinate (other_axis axis) drawing.0 (low_of shape i) = across_point axis _ _ in
          let rise_i = rises axis shape drawing.0 drawn.ways i goes_i in
          let rise_j = rises axis shape drawing.0 drawn.ways j goes_j in
          let lows : at (low_of shape i) ≡ at (low_of shape j) = ap at same in
          let on_i = on_spans axis shape drawing.0 drawn.ways i z goes_i (record { from = omega (arith, ints, z_along); to = omega (arith, ints, z_along, rise_i); level = z_across }) in
          let on_j = on_spans axis shape drawing.0 drawn.ways j z goes_j (record {
            from = omega (arith, ints, z_along, lows);
            to = omega (arith, ints, z_along, lows, rise_j);
            level = z_across ∙ ap (coordinate (other_axis axis) drawing.0) same;
          }) in
          let may = drawn.meetings i j goes_i.inside goes_j.inside differ z on_i on_j in
          let high_i = high_from_point i may.end.0 z may.end.1 may.end.3 (omega (arith, ints, z_along)) in
          let high_j = high_from_point j may.end.0 z may.end.2 may.end.3 (omega (arith, ints, z_along, lows)) in
          absurd (may.apart (same_ends (way_at shape.ways i) (way_at shape.ways j) _ _ same (sym high_i ∙ high_j)))

  -- two pieces to one vertex are one
  pub one_to : (i j : ℕ) → Goes i → Goes j → high_of shape i ≡ high_of shape j → i ≡ j
  one_to i j goes_i goes_j same = by_number (cases_eq i j)
    where
      by_number : (i ≡ j) ⊎ (i ≡ j → ⊥) → i ≡ j
      by_number (inl equal) = equal
      by_number (inr differ) =
          let z = point_at axis (at (high_of shape i) -ℤ pos 1) (coordinate (other_axis axis) drawing.0 (high_of shape i)) in
          let z_along : along axis z ≡ at (high_of shape i) -ℤ pos 1 = along_point axis _ _ in
          let z_across : along (other_axis axis) z ≡ coordinate (other_axis axis) drawing.0 (high_of shape i) = across_point axis _ _ in
          let rise_i = rises axis shape drawing.0 drawn.ways i goes_i in
          let rise_j = rises axis shape drawing.0 drawn.ways j goes_j in
          let level_i = (straight axis shape drawing.0 drawn.ways i goes_i).level in
          let level_j = (straight axis shape drawing.0 drawn.ways j goes_j).level in
          let highs : at (high_of shape i) ≡ at (high_of shape j) = ap at same in
          let on_i = on_spans axis shape drawing.0 drawn.ways i z goes_i (record {
            from = omega (arith, ints, z_along, rise_i);
            to = omega (arith, ints, z_along);
            level = z_across ∙ sym level_i;
          }) in
          let on_j = on_spans axis shape drawing.0 drawn.ways j z goes_j (record {
            from = omega (arith, ints, z_along, highs, rise_j);
            to = omega (arith, ints, z_along, highs);
            level = z_across ∙ ap (coordinate (other_axis axis) drawing.0) same ∙ sym level_j;
          }) in
          let may = drawn.meetings i j goes_i.inside goes_j.inside differ z on_i on_j in
          let low_i = low_from_point i may.end.0 z may.end.1 may.end.3 (omega (arith, ints, z_along)) in
          let low_j = low_from_point j may.end.0 z may.end.2 may.end.3 (omega (arith, ints, z_along, highs)) in
          absurd (may.apart (same_ends (way_at shape.ways i) (way_at shape.ways j) _ _ (sym low_i ∙ low_j) same))

  abbrev Compares : ℕ → ℕ → Type 0
  Compares v w = Comparable Goes (low_of shape) (high_of shape) one_from one_to v w

  compare_step : (v i : ℕ) → Goes i →
      (Compares v (piece_at shape.plan.pieces i).from → Compares v (piece_at shape.plan.pieces i).to) ×
      (Compares v (piece_at shape.plan.pieces i).to → Compares v (piece_at shape.plan.pieces i).from)
  compare_step v i goes = by_ends (low_and_high (way_at shape.ways i) (piece_at shape.plan.pieces i))
    where
      on : Compares v (low_of shape i) → Compares v (high_of shape i)
      on = comparable_on Goes (low_of shape) (high_of shape) one_from one_to v i goes

      back : Compares v (high_of shape i) → Compares v (low_of shape i)
      back = comparable_back Goes (low_of shape) (high_of shape) one_from one_to v i goes

      moved : (u w : ℕ) → u ≡ w → Compares v u → Compares v w
      moved u w same compares = subst (λ (x : ℕ). Compares v x) same compares

      by_ends : LowAndHigh (way_at shape.ways i) (piece_at shape.plan.pieces i) →
          (Compares v (piece_at shape.plan.pieces i).from → Compares v (piece_at shape.plan.pieces i).to) ×
          (Compares v (piece_at shape.plan.pieces i).to → Compares v (piece_at shape.plan.pieces i).from)
      by_ends (inl is) = (λ c. moved _ _ (sym is.1) (on (moved _ _ is.0 c)), λ c. moved _ _ (sym is.0) (back (moved _ _ is.1 c)))
      by_ends (inr is) = (λ c. moved _ _ (sym is.1) (back (moved _ _ is.0 c)), λ c. moved _ _ (sym is.0) (on (moved _ _ is.1 c)))

  -- of two vertices of a line one is reached from the other
  pub compared : (v w : ℕ) → AreInLine axis shape v w → Compares v w
  compared v w start = inl stays
  compared v w (forward i inside goes before) = (compare_step v i (record { inside = inside; along = goes })).0 (compared v _ before)
  compared v w (backward i inside goes before) = (compare_step v i (record { inside = inside; along = goes })).1 (compared v _ before)
