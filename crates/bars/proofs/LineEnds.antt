-- The first and the last vertex of a line.
use Rattle.std.proofs.Common.{◌≡◌, ℕ, ℤ, pos, ◌<◌, ◌-ℤ◌, ◌==◌, ◌&&◌, not, Bool, true, false, length, ◌⊎◌, inl, inr, subst, sym, ap, refl, ◌∙◌, arith}
use Rattle.std.proofs.lemmas.Int.{ints}
use Rattle.std.proofs.lemmas.Bool.{cases_Bool, and_parts, and_from, eq-eqb, eqb-true, not-true, not_from_false, both_ways}
use Rattle.compact_types.specs.declared.places.Axis.{Axis}
use Rattle.compact_types.specs.declared.places.Axis.TheVariants.{X, Y}
use Rattle.compact_types.specs.declared.plan.Shape.{Shape}
use Rattle.compact_types.specs.Connected.{IsAlong, AreInLine}
use Rattle.compact_types.specs.Connected.AreJoined.{start, forward}
use Rattle.compact_types.specs.Lookups.{piece_at, way_at, IsEnd}
use Rattle.bars.specs.Lines.{is_axis, is_along, line_of, line_count}
use Rattle.bars.specs.Segments.{has_piece_before, has_piece_after, first_vertex, last_vertex}
use Rattle.bars.specs.Solutions.{HasDrawing}
use Rattle.bars.proofs.LineVertices.{joined_back, is_axis_same, least_of_joined, joined_from_least}
use Rattle.bars.proofs.LineNumbers.{least_from_line, line_from_least, line_taken}
use Rattle.bars.proofs.RangeSearches.{Passes, any_range, any_range_at, found_passes, least_passing, Least}
use Rattle.bars.proofs.PieceChains.{first_step, last_step}
use Rattle.bars.proofs.PieceChains.Climbs.{stays}
use Rattle.bars.proofs.LinePositions.{GoesAlong, ClimbsAlong, low_of, high_of, coordinate, low_and_high, low_is_end, high_is_end, rises, compared}

pub is_axis_at : (a b : Axis) → a ≡ b → is_axis a b ≡ true
is_axis_at X X same = refl
is_axis_at Y Y same = refl
is_axis_at X Y same = cc
is_axis_at Y X same = cc

-- an end of a piece is a vertex
pub end_is_vertex : (shape : Shape) (i v : ℕ) → i < length shape.plan.pieces → IsEnd v (piece_at shape.plan.pieces i) → v < shape.plan.vertices
end_is_vertex shape i v inside (inl from) = subst (λ (x : ℕ). x < shape.plan.vertices) (sym from) (shape.plan.ends i inside).0
end_is_vertex shape i v inside (inr to) = subst (λ (x : ℕ). x < shape.plan.vertices) (sym to) (shape.plan.ends i inside).1

pub low_is_vertex : (shape : Shape) (i : ℕ) → i < length shape.plan.pieces → low_of shape i < shape.plan.vertices
low_is_vertex shape i inside = end_is_vertex shape i _ inside (low_is_end (way_at shape.ways i) (piece_at shape.plan.pieces i))

pub high_is_vertex : (shape : Shape) (i : ℕ) → i < length shape.plan.pieces → high_of shape i < shape.plan.vertices
high_is_vertex shape i inside = end_is_vertex shape i _ inside (high_is_end (way_at shape.ways i) (piece_at shape.plan.pieces i))

module _ (axis : Axis) (shape : Shape) where
  -- one number, one line
  pub in_line_from_number : (v w : ℕ) → line_of axis shape v ≡ line_of axis shape w → AreInLine axis shape v w
  in_line_from_number v w same = joined_from_least axis shape v w (least_from_line axis shape v w same)

  pub number_from_in_line : (v w : ℕ) → AreInLine axis shape v w → line_of axis shape v ≡ line_of axis shape w
  number_from_in_line v w joins = line_from_least axis shape v w (least_of_joined axis shape v w joins)

  -- the ends of a piece are in one line
  pub ends_in_line : (i : ℕ) → GoesAlong axis shape i → AreInLine axis shape (low_of shape i) (high_of shape i)
  ends_in_line i goes = by_ends (low_and_high (way_at shape.ways i) (piece_at shape.plan.pieces i))
    where
      joins : AreInLine axis shape (piece_at shape.plan.pieces i).from (piece_at shape.plan.pieces i).to
      joins = forward i goes.inside goes.along start

      by_ends : (((piece_at shape.plan.pieces i).from ≡ low_of shape i) × ((piece_at shape.plan.pieces i).to ≡ high_of shape i)) ⊎
          (((piece_at shape.plan.pieces i).from ≡ high_of shape i) × ((piece_at shape.plan.pieces i).to ≡ low_of shape i)) →
          AreInLine axis shape (low_of shape i) (high_of shape i)
      by_ends (inl is) = subst (λ (x : ℕ). AreInLine axis shape x (high_of shape i)) is.0 (subst (λ (x : ℕ). AreInLine axis shape (piece_at shape.plan.pieces i).from x) is.1 joins)
      by_ends (inr is) = joined_back shape.plan (IsAlong axis shape) _ _
          (subst (λ (x : ℕ). AreInLine axis shape x (low_of shape i)) is.0 (subst (λ (x : ℕ). AreInLine axis shape (piece_at shape.plan.pieces i).from x) is.1 joins))

  -- the line of a piece is that of its ends
  pub line_of_low : (i : ℕ) → GoesAlong axis shape i → line_of axis shape (low_of shape i) ≡ line_of axis shape (piece_at shape.plan.pieces i).from
  line_of_low i goes = by_ends (low_and_high (way_at shape.ways i) (piece_at shape.plan.pieces i))
    where
      by_ends : (((piece_at shape.plan.pieces i).from ≡ low_of shape i) × ((piece_at shape.plan.pieces i).to ≡ high_of shape i)) ⊎
          (((piece_at shape.plan.pieces i).from ≡ high_of shape i) × ((piece_at shape.plan.pieces i).to ≡ low_of shape i)) →
          line_of axis shape (low_of shape i) ≡ line_of axis shape (piece_at shape.plan.pieces i).from
      by_ends (inl is) = ap (line_of axis shape) (sym is.0)
      by_ends (inr is) = number_from_in_line _ _ (ends_in_line i goes) ∙ ap (line_of axis shape) (sym is.0)

  pub line_of_high : (i : ℕ) → GoesAlong axis shape i → line_of axis shape (high_of shape i) ≡ line_of axis shape (piece_at shape.plan.pieces i).from
  line_of_high i goes = sym (number_from_in_line _ _ (ends_in_line i goes)) ∙ line_of_low i goes

  -- the piece comes to the vertex, or goes on from it
  abbrev comes : ℕ → ℕ → Bool
  comes v i = is_along axis shape i && (high_of shape i == v)

  abbrev leaves : ℕ → ℕ → Bool
  leaves v i = is_along axis shape i && (low_of shape i == v)

  has_before_at : (i v : ℕ) → GoesAlong axis shape i → high_of shape i ≡ v → has_piece_before axis shape v ≡ true
  has_before_at i v goes at =
      any_range_at (comes v) 0 (length shape.plan.pieces) i
      (omega arith, (let inside = goes.inside in omega (arith, inside)), and_from _ _ (is_axis_at _ _ goes.along) (eq-eqb _ _ at))

  has_after_at : (i v : ℕ) → GoesAlong axis shape i → low_of shape i ≡ v → has_piece_after axis shape v ≡ true
  has_after_at i v goes at =
      any_range_at (leaves v) 0 (length shape.plan.pieces) i
      (omega arith, (let inside = goes.inside in omega (arith, inside)), and_from _ _ (is_axis_at _ _ goes.along) (eq-eqb _ _ at))

  before_from : (v : ℕ) → has_piece_before axis shape v ≡ true → (i : ℕ) × GoesAlong axis shape i × (high_of shape i ≡ v)
  before_from v holds =
      let found = any_range (comes v) 0 (length shape.plan.pieces) holds in
      let both = and_parts _ _ found.1.2 in
      (found.0, record { inside = omega (arith, found.1.1); along = is_axis_same _ _ both.0 }, eqb-true _ _ both.1)

  after_from : (v : ℕ) → has_piece_after axis shape v ≡ true → (i : ℕ) × GoesAlong axis shape i × (low_of shape i ≡ v)
  after_from v holds =
      let found = any_range (leaves v) 0 (length shape.plan.pieces) holds in
      let both = and_parts _ _ found.1.2 in
      (found.0, record { inside = omega (arith, found.1.1); along = is_axis_same _ _ both.0 }, eqb-true _ _ both.1)

-- the vertex is one of the line, and every vertex of the line is reached from it
pub record IsFirst (axis : Axis) (shape : Shape) (line v : ℕ) : Type 0 where
  pub vertex : v < shape.plan.vertices
  pub in_line : line_of axis shape v ≡ line
  pub leads : (w : ℕ) → line_of axis shape w ≡ line → ClimbsAlong axis shape v w

-- the vertex is one of the line, and it is reached from every vertex of the line
pub record IsLast (axis : Axis) (shape : Shape) (line v : ℕ) : Type 0 where
  pub vertex : v < shape.plan.vertices
  pub in_line : line_of axis shape v ≡ line
  pub led : (w : ℕ) → line_of axis shape w ≡ line → ClimbsAlong axis shape w v

module _ (axis : Axis) (shape : Shape) (drawing : HasDrawing shape) (line : ℕ) (within : line < line_count axis shape) where
  abbrev at : ℕ → ℤ
  at v = coordinate axis drawing.0 v

  abbrev in_it : ℕ → Bool
  in_it v = line_of axis shape v == line

  some_vertex : (v : ℕ) × (v < shape.plan.vertices) × (in_it v ≡ true)
  some_vertex = let taken = line_taken axis shape line within in (taken.0, taken.1, eq-eqb _ _ taken.3)

  abbrev begins : ℕ → Bool
  begins v = (line_of axis shape v == line) && not (has_piece_before axis shape v)

  abbrev ends : ℕ → Bool
  ends v = (line_of axis shape v == line) && not (has_piece_after axis shape v)

  some_begins : (v : ℕ) × Passes begins 0 shape.plan.vertices v
  some_begins = by_least (least_passing in_it at shape.plan.vertices)
    where
      none_before : (v : ℕ) → Least in_it at shape.plan.vertices v → has_piece_before axis shape v ≡ true → ⊥
      none_before v least holds =
          let found = before_from axis shape v holds in
          let rise = rises axis shape drawing.0 drawing.1.crossing_free.ways found.0 found.1 in
          let number = number_from_in_line axis shape _ _ (ends_in_line axis shape found.0 found.1) in
          let its = number ∙ ap (line_of axis shape) found.2 ∙ eqb-true _ _ least.1 in
          let below = least.2 (low_of shape found.0) (low_is_vertex shape found.0 found.1.inside) (eq-eqb _ _ its) in
          let end : at (high_of shape found.0) ≡ at v = ap at found.2 in
          omega (arith, ints, rise, below, end)

      no_before : (v : ℕ) → Least in_it at shape.plan.vertices v → (has_piece_before axis shape v ≡ true) ⊎ (has_piece_before axis shape v ≡ false) →
          has_piece_before axis shape v ≡ false
      no_before v least (inl holds) = absurd (none_before v least holds)
      no_before v least (inr fails) = fails

      by_least : ((w : ℕ) → w < shape.plan.vertices → in_it w ≡ true → ⊥) ⊎ ((v : ℕ) × Least in_it at shape.plan.vertices v) →
          (v : ℕ) × Passes begins 0 shape.plan.vertices v
      by_least (inl none) = absurd (none some_vertex.0 some_vertex.1 some_vertex.2)
      by_least (inr found) = (
        found.0,
        (
          omega arith,
          omega (arith, found.1.0),
          and_from _ _ found.1.1 (not_from_false _ (no_before found.0 found.1 (cases_Bool (has_piece_before axis shape found.0)))),
        ),
      )

  some_ends : (v : ℕ) × Passes ends 0 shape.plan.vertices v
  some_ends = by_least (least_passing in_it (λ v. pos 0 -ℤ at v) shape.plan.vertices)
    where
      none_after : (v : ℕ) → Least in_it (λ v. pos 0 -ℤ at v) shape.plan.vertices v → has_piece_after axis shape v ≡ true → ⊥
      none_after v least holds =
          let found = after_from axis shape v holds in
          let rise = rises axis shape drawing.0 drawing.1.crossing_free.ways found.0 found.1 in
          let number = number_from_in_line axis shape _ _ (ends_in_line axis shape found.0 found.1) in
          let its = sym number ∙ ap (line_of axis shape) found.2 ∙ eqb-true _ _ least.1 in
          let above = least.2 (high_of shape found.0) (high_is_vertex shape found.0 found.1.inside) (eq-eqb _ _ its) in
          let end : at (low_of shape found.0) ≡ at v = ap at found.2 in
          omega (arith, ints, rise, above, end)

      no_after : (v : ℕ) → Least in_it (λ v. pos 0 -ℤ at v) shape.plan.vertices v → (has_piece_after axis shape v ≡ true) ⊎ (has_piece_after axis shape v ≡ false) →
          has_piece_after axis shape v ≡ false
      no_after v least (inl holds) = absurd (none_after v least holds)
      no_after v least (inr fails) = fails

      by_least : ((w : ℕ) → w < shape.plan.vertices → in_it w ≡ true → ⊥) ⊎ ((v : ℕ) × Least in_it (λ v. pos 0 -ℤ at v) shape.plan.vertices v) →
          (v : ℕ) × Passes ends 0 shape.plan.vertices v
      by_least (inl none) = absurd (none some_vertex.0 some_vertex.1 some_vertex.2)
      by_least (inr found) = (
        found.0,
        (
          omega arith,
          omega (arith, found.1.0),
          and_from _ _ found.1.1 (not_from_false _ (no_after found.0 found.1 (cases_Bool (has_piece_after axis shape found.0)))),
        ),
      )

  -- every vertex of a line is reached from its first vertex
  pub first_is_first : IsFirst axis shape line (first_vertex axis shape line)
  first_is_first =
      let passes = found_passes begins 0 shape.plan.vertices some_begins.0 some_begins.1 in
      let both = and_parts _ _ passes.2 in
      record { vertex = omega (arith, passes.1); in_line = eqb-true _ _ both.0; leads = λ w its. leads _ w (eqb-true _ _ both.0) (not-true _ both.1) its }
    where
      leads : (v w : ℕ) → line_of axis shape v ≡ line → has_piece_before axis shape v ≡ false → line_of axis shape w ≡ line → ClimbsAlong axis shape v w
      leads v w in_line none its = by_order (compared axis shape drawing v w (in_line_from_number axis shape v w (in_line ∙ sym its)))
        where
          by_last : (w ≡ v) ⊎ ((i : ℕ) × GoesAlong axis shape i × (high_of shape i ≡ v) × ClimbsAlong axis shape w (low_of shape i)) → ClimbsAlong axis shape v w
          by_last (inl same) = subst (λ (x : ℕ). ClimbsAlong axis shape v x) (sym same) stays
          by_last (inr found) = absurd (both_ways _ none (has_before_at axis shape found.0 v found.1 found.2))

          by_order : ClimbsAlong axis shape v w ⊎ ClimbsAlong axis shape w v → ClimbsAlong axis shape v w
          by_order (inl up) = up
          by_order (inr down) = by_last (last_step _ _ _ w v down)

  -- the last vertex of a line is reached from each of its vertices
  pub last_is_last : IsLast axis shape line (last_vertex axis shape line)
  last_is_last =
      let passes = found_passes ends 0 shape.plan.vertices some_ends.0 some_ends.1 in
      let both = and_parts _ _ passes.2 in
      record { vertex = omega (arith, passes.1); in_line = eqb-true _ _ both.0; led = λ w its. led _ w (eqb-true _ _ both.0) (not-true _ both.1) its }
    where
      led : (v w : ℕ) → line_of axis shape v ≡ line → has_piece_after axis shape v ≡ false → line_of axis shape w ≡ line → ClimbsAlong axis shape w v
      led v w in_line none its = by_order (compared axis shape drawing v w (in_line_from_number axis shape v w (in_line ∙ sym its)))
        where
          by_first : (v ≡ w) ⊎ ((i : ℕ) × GoesAlong axis shape i × (low_of shape i ≡ v) × ClimbsAlong axis shape (high_of shape i) w) → ClimbsAlong axis shape w v
          by_first (inl same) = subst (λ (x : ℕ). ClimbsAlong axis shape x v) same stays
          by_first (inr found) = absurd (both_ways _ none (has_after_at axis shape found.0 v found.1 found.2))

          by_order : ClimbsAlong axis shape v w ⊎ ClimbsAlong axis shape w v → ClimbsAlong axis shape w v
          by_order (inr down) = down
          by_order (inl up) = by_first (first_step _ _ _ v w up)
