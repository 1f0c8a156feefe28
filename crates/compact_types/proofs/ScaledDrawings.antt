-- A drawing that is scaled up by a whole number is a drawing: a point that two large pieces share
-- is between two points of the small ones, so that these are their one common end.
use Rattle.std.proofs.Common.{◌≡◌, ℕ, ◌<◌, ◌≤◌, ℤ, pos, length, ◌⊎◌, inl, inr, sym, ap, ◌∙◌, subst, arith}
use Rattle.std.specs.Prelude.{◌*ℤ◌, ◌≤ℤ◌}
use Rattle.std.proofs.lemmas.Bool.{cases_lt}
use Rattle.std.proofs.lemmas.Int.{ints, by_lt_z}
use Rattle.compact_types.specs.declared.places.Axis.{Axis}
use Rattle.compact_types.specs.declared.places.Axis.TheVariants.{X, Y}
use Rattle.compact_types.specs.declared.places.Point.{Point}
use Rattle.compact_types.specs.declared.places.Places.{Places}
use Rattle.compact_types.specs.declared.plan.Piece.{Piece}
use Rattle.compact_types.specs.declared.plan.Plan.{Plan}
use Rattle.compact_types.specs.declared.plan.Shape.{Shape}
use Rattle.compact_types.specs.Drawings.{begin_of, end_of, OnPiece, MayShare, MeetOnlyAtEnds, IsCrossingFree, IsDrawing}
use Rattle.compact_types.specs.Lookups.{place, piece_at, along, IsEnd, HaveSameEnds}
use Rattle.compact_types.specs.Scalings.{IsScaled}
use Rattle.compact_types.specs.Segments.{IsBetween}
use Rattle.compact_types.proofs.DrawingLemmas.{drawing_of_crossing_free}
use Rattle.compact_types.proofs.Multiples.{factor-le}
use Rattle.compact_types.proofs.OneBest.{same_point}
use Rattle.compact_types.proofs.ScalingLemmas.{coordinate-scaled, ways_of_scaled}

-- two numbers are between a and b and between c and d, and z is between k times them
record AreAround (k : ℤ) (a b c d z : ℤ) : Type 0 where
  low : ℤ
  high : ℤ
  low_first : IsBetween a b low
  low_second : IsBetween c d low
  high_first : IsBetween a b high
  high_second : IsBetween c d high
  from_low : (k *ℤ low) ≤ℤ z
  to_high : z ≤ℤ (k *ℤ high)

in_order : (k : ℤ) (a b c d z : ℤ) → pos 1 ≤ℤ k → (k *ℤ a) ≤ℤ z → z ≤ℤ (k *ℤ b) → (k *ℤ c) ≤ℤ z → z ≤ℤ (k *ℤ d) → AreAround k a b c d z
in_order k a b c d z some from_a to_b from_c to_d =
    by_lt_z a c (λ less. with_low c from_c (omega (arith, ints, less)) (omega (arith, ints))) (λ not_less. with_low a from_a (omega (arith, ints)) not_less)
  where
    with_both : (low high : ℤ) → (k *ℤ low) ≤ℤ z → z ≤ℤ (k *ℤ high) → a ≤ℤ low → c ≤ℤ low → high ≤ℤ b → high ≤ℤ d → AreAround k a b c d z
    with_both low high from to a_low c_low high_b high_d =
        let order : low ≤ℤ high = factor-le k low high some (omega (arith, ints, from, to)) in record {
          low = low;
          high = high;
          low_first = inl (a_low, omega (arith, ints, order, high_b));
          low_second = inl (c_low, omega (arith, ints, order, high_d));
          high_first = inl (omega (arith, ints, order, a_low), high_b);
          high_second = inl (omega (arith, ints, order, c_low), high_d);
          from_low = from;
          to_high = to;
        }

    with_low : (low : ℤ) → (k *ℤ low) ≤ℤ z → a ≤ℤ low → c ≤ℤ low → AreAround k a b c d z
    with_low low from a_low c_low = by_lt_z b d
        (λ less. with_both low b from to_b a_low c_low (omega (arith, ints)) (omega (arith, ints, less)))
        (λ not_less. with_both low d from to_d a_low c_low not_less (omega (arith, ints)))

turned : (a b z : ℤ) → IsBetween a b z → IsBetween b a z
turned a b z (inl between) = inr between
turned a b z (inr between) = inl between

first_turned : (k : ℤ) (a b c d z : ℤ) → AreAround k a b c d z → AreAround k b a c d z
first_turned k a b c d z are = record {
  low = are.low;
  high = are.high;
  low_first = turned a b are.low are.low_first;
  low_second = are.low_second;
  high_first = turned a b are.high are.high_first;
  high_second = are.high_second;
  from_low = are.from_low;
  to_high = are.to_high;
}

second_turned : (k : ℤ) (a b c d z : ℤ) → AreAround k a b c d z → AreAround k a b d c z
second_turned k a b c d z are = record {
  low = are.low;
  high = are.high;
  low_first = are.low_first;
  low_second = turned c d are.low are.low_second;
  high_first = are.high_first;
  high_second = turned c d are.high are.high_second;
  from_low = are.from_low;
  to_high = are.to_high;
}

around_both : (k : ℤ) (a b c d z : ℤ) → pos 1 ≤ℤ k → IsBetween (k *ℤ a) (k *ℤ b) z → IsBetween (k *ℤ c) (k *ℤ d) z → AreAround k a b c d z
around_both k a b c d z some (inl (p, q)) (inl (r, s)) = in_order k a b c d z some p q r s
around_both k a b c d z some (inl (p, q)) (inr (r, s)) = second_turned k a b d c z (in_order k a b d c z some p q r s)
around_both k a b c d z some (inr (p, q)) (inl (r, s)) = first_turned k b a c d z (in_order k b a c d z some p q r s)
around_both k a b c d z some (inr (p, q)) (inr (r, s)) = first_turned k b a c d z (second_turned k b a d c z (in_order k b a d c z some p q r s))

-- two pieces with two vertices in common have the same ends
pub two_ends : (v w : ℕ) (p q : Piece) → (v ≡ w → ⊥) → IsEnd v p → IsEnd v q → IsEnd w p → IsEnd w q → HaveSameEnds p q
two_ends v w p q differ (inl a) (inl b) (inr c) (inr d) = inl (sym a ∙ b, sym c ∙ d)
two_ends v w p q differ (inl a) (inr b) (inr c) (inl d) = inr (sym a ∙ b, sym c ∙ d)
two_ends v w p q differ (inr a) (inl b) (inl c) (inr d) = inr (sym c ∙ d, sym a ∙ b)
two_ends v w p q differ (inr a) (inr b) (inl c) (inl d) = inl (sym c ∙ d, sym a ∙ b)
two_ends v w p q differ (inl a) b (inl c) d = absurd (differ (a ∙ sym c))
two_ends v w p q differ (inr a) b (inr c) d = absurd (differ (a ∙ sym c))
two_ends v w p q differ a (inl b) c (inl d) = absurd (differ (b ∙ sym d))
two_ends v w p q differ a (inr b) c (inr d) = absurd (differ (b ∙ sym d))

pub same_end : (v w : ℕ) (p q : Piece) → (HaveSameEnds p q → ⊥) → IsEnd v p → IsEnd v q → IsEnd w p → IsEnd w q → v ≡ w
same_end v w p q apart a b c d = by_order (cases_lt v w) (cases_lt w v)
  where
    differ : (v ≡ w → ⊥) → v ≡ w
    differ not = absurd (apart (two_ends v w p q not a b c d))

    by_order : (v < w) ⊎ (w ≤ v) → (w < v) ⊎ (v ≤ w) → v ≡ w
    by_order (inl less) back = differ (λ same. omega (arith, less, same))
    by_order (inr more) (inl less) = differ (λ same. omega (arith, less, same))
    by_order (inr more) (inr not_more) = omega (arith, more, not_more)

module _ (k : ℤ) (some : pos 1 ≤ℤ k) (plan : Plan) (places scaled : Places) (is : IsScaled k places scaled) where
  -- along an axis, the ends of a piece are k times those of the small one
  between_ends : (axis : Axis) (i : ℕ) (z : ℤ) → IsBetween (along axis (begin_of plan places i)) (along axis (end_of plan places i)) z →
      IsBetween (k *ℤ along axis (begin_of plan scaled i)) (k *ℤ along axis (end_of plan scaled i)) z
  between_ends axis i z between =
      let first = coordinate-scaled k places scaled is axis (piece_at plan.pieces i).from in
      let second = coordinate-scaled k places scaled is axis (piece_at plan.pieces i).to in
      subst (λ (b : ℤ). IsBetween (k *ℤ along axis (begin_of plan scaled i)) b z) second
      (subst (λ (a : ℤ). IsBetween a (along axis (end_of plan places i)) z) first between)

  abbrev Around : Axis → ℕ → ℕ → ℤ → Type 0
  Around axis i j z = AreAround k (along axis (begin_of plan scaled i)) (along axis (end_of plan scaled i))
      (along axis (begin_of plan scaled j)) (along axis (end_of plan scaled j)) z

  around : (axis : Axis) (i j : ℕ) (z : ℤ) → IsBetween (along axis (begin_of plan places i)) (along axis (end_of plan places i)) z →
      IsBetween (along axis (begin_of plan places j)) (along axis (end_of plan places j)) z → Around axis i j z
  around axis i j z on_i on_j = around_both k _ _ _ _ z some (between_ends axis i z on_i) (between_ends axis j z on_j)

  -- a vertex that is at both numbers is at z, k times farther out
  stands_at : (v : ℕ) (axis : Axis) (a b c d z : ℤ) (are : AreAround k a b c d z) → along axis (place scaled.xy v) ≡ are.low → along axis (place scaled.xy v) ≡ are.high →
      along axis (place places.xy v) ≡ z
  stands_at v axis a b c d z are at_low at_high =
      let from : (k *ℤ along axis (place scaled.xy v)) ≤ℤ z = subst (λ (n : ℤ). (k *ℤ n) ≤ℤ z) (sym at_low) are.from_low in
      let to : z ≤ℤ (k *ℤ along axis (place scaled.xy v)) = subst (λ (n : ℤ). z ≤ℤ (k *ℤ n)) (sym at_high) are.to_high in
      let here = coordinate-scaled k places scaled is axis v in
      omega (arith, ints, from, to, here)

  share_up : (i j : ℕ) (z : Point) → MeetOnlyAtEnds plan scaled → i < length plan.pieces → j < length plan.pieces → (i ≡ j → ⊥) →
      OnPiece plan places i z → OnPiece plan places j z → MayShare plan places i j z
  share_up i j z meetings inside_i inside_j different on_i on_j =
      let x : Around X i j z.x = around X i j z.x on_i.0 on_j.0 in
      let y : Around Y i j z.y = around Y i j z.y on_i.1 on_j.1 in
      let low : Point = record { x = x.low; y = y.low } in
      let high : Point = record { x = x.high; y = y.high } in
      let at_low = meetings i j inside_i inside_j different low (x.low_first, y.low_first) (x.low_second, y.low_second) in
      let at_high = meetings i j inside_i inside_j different high (x.high_first, y.high_first) (x.high_second, y.high_second) in
      let (v, v_first, v_second, v_there) = at_low.end in
      let (w, w_first, w_second, w_there) = at_high.end in
      let same : v ≡ w = same_end v w (piece_at plan.pieces i) (piece_at plan.pieces j) at_low.apart v_first v_second w_first w_second in
      let v_at_high : place scaled.xy v ≡ high = ap (place scaled.xy) same ∙ w_there in
      record {
        end = (
          v,
          v_first,
          v_second,
          same_point (place places.xy v) z
              (stands_at v X _ _ _ _ z.x x (ap (λ (p : Point). p.x) v_there) (ap (λ (p : Point). p.x) v_at_high))
              (stands_at v Y _ _ _ _ z.y y (ap (λ (p : Point). p.y) v_there) (ap (λ (p : Point). p.y) v_at_high)),
        );
        apart = at_low.apart;
      }

-- a crossing-free drawing of the shape, scaled up
pub crossing_free_of_scaled : (k : ℤ) (shape : Shape) (places scaled : Places) → pos 1 ≤ℤ k → IsScaled k places scaled →
    IsCrossingFree shape scaled → IsCrossingFree shape places
crossing_free_of_scaled k shape places scaled some is free = record {
  places_fit = is.points ∙ free.places_fit;
  ways = ways_of_scaled k shape places scaled some is free.ways;
  meetings = λ i j inside_i inside_j different z on_i on_j.
      share_up k some shape.plan places scaled is i j z free.meetings inside_i inside_j different on_i on_j;
}

pub drawing_of_scaled : (k : ℤ) (shape : Shape) (places scaled : Places) → pos 1 ≤ℤ k → IsScaled k places scaled →
    IsDrawing shape scaled → IsDrawing shape places
drawing_of_scaled k shape places scaled some is drawing = drawing_of_crossing_free shape places (crossing_free_of_scaled k shape places scaled some is drawing.crossing_free)
