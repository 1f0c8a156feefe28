-- A drawing that is scaled down is a drawing, in its proportions.
use Rattle.std.proofs.Common.{◌≡◌, ℕ, ◌<◌, ◌≤◌, ℤ, pos, length, ◌⊎◌, inl, inr, sym, ap, ◌∙◌, subst, arith}
use Rattle.std.specs.Prelude.{◌+ℤ◌, ◌-ℤ◌, ◌*ℤ◌, ◌≤ℤ◌}
use lib.IntN.{*ℤ-zero}
use Rattle.std.proofs.lemmas.Bool.{cases_lt}
use Rattle.std.proofs.lemmas.Int.{ints, clamps, by_lt_z}
use Rattle.std.proofs.lemmas.List.{ext_get_or, get_or_past}
use Rattle.compact_types.specs.declared.places.Axis.{Axis}
use Rattle.compact_types.specs.declared.places.Axis.TheVariants.{X, Y}
use Rattle.compact_types.specs.declared.places.Point.{Point}
use Rattle.compact_types.specs.declared.places.Places.{Places}
use Rattle.compact_types.specs.declared.plan.Plan.{Plan}
use Rattle.compact_types.specs.declared.plan.Shape.{Shape}
use Rattle.compact_types.specs.declared.plan.Way.{Way}
use Rattle.compact_types.specs.declared.plan.Way.TheVariants.{East, West, High, Low}
use Rattle.compact_types.specs.Drawings.{begin_of, end_of, OnPiece, IsCommonEnd, HasWays, IsCrossingFree, IsDrawing, IsFromZero}
use Rattle.compact_types.specs.Lengths.{gap, distance, length_of}
use Rattle.compact_types.specs.Lookups.{origin, place, piece_at, way_at, along}
use Rattle.compact_types.specs.Magnitudes.{IsWithin, AreWithin}
use Rattle.compact_types.specs.Scalings.{IsScaled, IsFirstOff}
use Rattle.compact_types.specs.Segments.{IsBetween, OnSegment}
use Rattle.compact_types.specs.Ways.{HasWay}
use Rattle.compact_types.proofs.DrawingLemmas.{drawing_of_crossing_free}
use Rattle.compact_types.proofs.Multiples.{times-sub, times-le, times-lt, factor-le, factor-lt, same_factor, grows_up, grows_down}
use Rattle.compact_types.proofs.OneBest.{same_point, same_places}
use Rattle.compact_types.proofs.SumLemmas.{sum_to-same, sum_to-scale, times-add}

-- the point whose coordinates are those of this one, times `by`
abbrev pub times_point : ℤ → Point → Point
times_point by point = record { x = by *ℤ point.x; y = by *ℤ point.y }

-- each coordinate, also of a vertex that is not there
pub coordinate-scaled : (by : ℤ) (places scaled : Places) → IsScaled by places scaled → (axis : Axis) (v : ℕ) →
    along axis (place places.xy v) ≡ by *ℤ along axis (place scaled.xy v)
coordinate-scaled by places scaled is axis v = by_place (cases_lt v (length places.xy))
  where
    at_origin : (axis : Axis) → along axis origin ≡ by *ℤ along axis origin
    at_origin X = sym (*ℤ-zero by)
    at_origin Y = sym (*ℤ-zero by)

    by_place : (v < length places.xy) ⊎ (length places.xy ≤ v) → along axis (place places.xy v) ≡ by *ℤ along axis (place scaled.xy v)
    by_place (inl inside) = is.each axis v inside
    by_place (inr past) =
        let same = is.points in
        ap (along axis) (get_or_past places.xy v origin past) ∙ at_origin axis
        ∙ sym (ap (λ (p : Point). by *ℤ along axis p) (get_or_past scaled.xy v origin (omega (arith, same, past))))

pub place-scaled : (by : ℤ) (places scaled : Places) → IsScaled by places scaled → (v : ℕ) →
    place places.xy v ≡ times_point by (place scaled.xy v)
place-scaled by places scaled is v = same_point _ _ (coordinate-scaled by places scaled is X v) (coordinate-scaled by places scaled is Y v)

-- ways stay
way-times : (by : ℤ) (way : Way) (a b : Point) → pos 1 ≤ℤ by → HasWay way (times_point by a) (times_point by b) → HasWay way a b
way-times by East a b positive (before, level) = (factor-lt by a.x b.x positive before, same_factor by b.y a.y positive level)
way-times by West a b positive (before, level) = (factor-lt by b.x a.x positive before, same_factor by b.y a.y positive level)
way-times by High a b positive (before, level) = (factor-lt by a.y b.y positive before, same_factor by b.x a.x positive level)
way-times by Low a b positive (before, level) = (factor-lt by b.y a.y positive before, same_factor by b.x a.x positive level)

way_of_times : (by : ℤ) (way : Way) (a b : Point) → pos 1 ≤ℤ by → HasWay way a b → HasWay way (times_point by a) (times_point by b)
way_of_times by East a b positive (before, level) = (times-lt by a.x b.x positive before, ap (λ (z : ℤ). by *ℤ z) level)
way_of_times by West a b positive (before, level) = (times-lt by b.x a.x positive before, ap (λ (z : ℤ). by *ℤ z) level)
way_of_times by High a b positive (before, level) = (times-lt by a.y b.y positive before, ap (λ (z : ℤ). by *ℤ z) level)
way_of_times by Low a b positive (before, level) = (times-lt by b.y a.y positive before, ap (λ (z : ℤ). by *ℤ z) level)

-- what holds of the ends of a piece in the places holds of the ends in the scaled ones, times `by`, and the other way round
at_ends : (by : ℤ) (plan : Plan) (places scaled : Places) → IsScaled by places scaled → (P : Point → Point → Type 0) (i : ℕ) →
    P (begin_of plan places i) (end_of plan places i) → P (times_point by (begin_of plan scaled i)) (times_point by (end_of plan scaled i))
at_ends by plan places scaled is P i holds =
    let first = place-scaled by places scaled is (piece_at plan.pieces i).from in
    let second = place-scaled by places scaled is (piece_at plan.pieces i).to in
    subst (λ (p : Point). P (times_point by (begin_of plan scaled i)) p) second (subst (λ (p : Point). P p (end_of plan places i)) first holds)

back_at_ends : (by : ℤ) (plan : Plan) (places scaled : Places) → IsScaled by places scaled → (P : Point → Point → Type 0) (i : ℕ) →
    P (times_point by (begin_of plan scaled i)) (times_point by (end_of plan scaled i)) → P (begin_of plan places i) (end_of plan places i)
back_at_ends by plan places scaled is P i holds =
    let first = place-scaled by places scaled is (piece_at plan.pieces i).from in
    let second = place-scaled by places scaled is (piece_at plan.pieces i).to in
    subst (λ (p : Point). P (begin_of plan places i) p) (sym second)
    (subst (λ (p : Point). P p (times_point by (end_of plan scaled i))) (sym first) holds)

pub ways-scaled : (by : ℤ) (shape : Shape) (places scaled : Places) → pos 1 ≤ℤ by → IsScaled by places scaled →
    HasWays shape places → HasWays shape scaled
ways-scaled by shape places scaled positive is ways i inside =
    way-times by (way_at shape.ways i) (begin_of shape.plan scaled i) (end_of shape.plan scaled i) positive
    (at_ends by shape.plan places scaled is (HasWay (way_at shape.ways i)) i (ways i inside))

pub ways_of_scaled : (by : ℤ) (shape : Shape) (places scaled : Places) → pos 1 ≤ℤ by → IsScaled by places scaled →
    HasWays shape scaled → HasWays shape places
ways_of_scaled by shape places scaled positive is ways i inside =
    back_at_ends by shape.plan places scaled is (HasWay (way_at shape.ways i)) i
    (way_of_times by (way_at shape.ways i) (begin_of shape.plan scaled i) (end_of shape.plan scaled i) positive (ways i inside))

-- a point on a scaled piece, times `by`, lies on the piece
between-times : (by a b z : ℤ) → pos 1 ≤ℤ by → IsBetween a b z → IsBetween (by *ℤ a) (by *ℤ b) (by *ℤ z)
between-times by a b z positive (inl (low, high)) = inl (times-le by a z positive low, times-le by z b positive high)
between-times by a b z positive (inr (low, high)) = inr (times-le by b z positive low, times-le by z a positive high)

on_piece-times : (by : ℤ) (plan : Plan) (places scaled : Places) → pos 1 ≤ℤ by → IsScaled by places scaled → (i : ℕ) (z : Point) →
    OnPiece plan scaled i z → OnPiece plan places i (times_point by z)
on_piece-times by plan places scaled positive is i z (across, along) =
    back_at_ends by plan places scaled is (λ (a b : Point). OnSegment a b (times_point by z)) i (
      between-times by (begin_of plan scaled i).x (end_of plan scaled i).x z.x positive across,
      between-times by (begin_of plan scaled i).y (end_of plan scaled i).y z.y positive along,
    )

-- the common end of two pieces
common_end-scaled : (by : ℤ) (plan : Plan) (places scaled : Places) → pos 1 ≤ℤ by → IsScaled by places scaled → (i j : ℕ) (z : Point) →
    IsCommonEnd plan places i j (times_point by z) → IsCommonEnd plan scaled i j z
common_end-scaled by plan places scaled positive is i j z (v, of_first, of_second, there) =
    let same : times_point by (place scaled.xy v) ≡ times_point by z = sym (place-scaled by places scaled is v) ∙ there in (
      v,
      of_first,
      of_second,
      same_point _ _ (same_factor by (place scaled.xy v).x z.x positive (ap (λ (p : Point). p.x) same))
          (same_factor by (place scaled.xy v).y z.y positive (ap (λ (p : Point). p.y) same)),
    )

-- crossing-free, and a drawing
pub crossing_free-scaled : (by : ℤ) (shape : Shape) (places scaled : Places) → pos 1 ≤ℤ by → IsScaled by places scaled →
    IsCrossingFree shape places → IsCrossingFree shape scaled
crossing_free-scaled by shape places scaled positive is free = record {
  places_fit = sym is.points ∙ free.places_fit;
  ways = ways-scaled by shape places scaled positive is free.ways;
  meetings = λ i j inside_i inside_j different z on_i on_j.
      let shared = free.meetings i j inside_i inside_j different (times_point by z) (on_piece-times by shape.plan places scaled positive is i z on_i)
      (on_piece-times by shape.plan places scaled positive is j z on_j) in
      record { end = common_end-scaled by shape.plan places scaled positive is i j z shared.end; apart = shared.apart };
}

pub drawing-scaled : (by : ℤ) (shape : Shape) (places scaled : Places) → pos 1 ≤ℤ by → IsScaled by places scaled →
    IsDrawing shape places → IsDrawing shape scaled
drawing-scaled by shape places scaled positive is drawing =
    drawing_of_crossing_free shape scaled (crossing_free-scaled by shape places scaled positive is drawing.crossing_free)

-- lengths are divided
gap-times : (by a b : ℤ) → pos 1 ≤ℤ by → gap (by *ℤ a) (by *ℤ b) ≡ by *ℤ gap a b
gap-times by a b positive = by_lt_z a b
    (λ less.
    let wide : gap a b ≡ b -ℤ a = omega (arith, ints, clamps, less) in
    let order = times-lt by a b positive less in
    let product : by *ℤ gap a b ≡ by *ℤ (b -ℤ a) = ap (λ (z : ℤ). by *ℤ z) wide in
    omega (arith, ints, clamps, order, product, times-sub by b a))
    (λ not_less.
    let wide : gap a b ≡ a -ℤ b = omega (arith, ints, clamps, not_less) in
    let order = times-le by b a positive not_less in
    let product : by *ℤ gap a b ≡ by *ℤ (a -ℤ b) = ap (λ (z : ℤ). by *ℤ z) wide in
    omega (arith, ints, clamps, order, product, times-sub by a b))

distance-times : (by : ℤ) (a b : Point) → pos 1 ≤ℤ by → distance (times_point by a) (times_point by b) ≡ by *ℤ distance a b
distance-times by a b positive =
    (λ i. gap-times by a.x b.x positive i +ℤ gap-times by a.y b.y positive i) ∙ sym (times-add by (gap a.x b.x) (gap a.y b.y))

pub length-scaled : (by : ℤ) (plan : Plan) (places scaled : Places) → pos 1 ≤ℤ by → IsScaled by places scaled →
    length_of plan places ≡ by *ℤ length_of plan scaled
length-scaled by plan places scaled positive is =
    sum_to-same (λ i. distance (begin_of plan places i) (end_of plan places i))
    (λ i. by *ℤ distance (begin_of plan scaled i) (end_of plan scaled i)) (length plan.pieces)
    (λ i inside.
    back_at_ends by plan places scaled is (λ (a b : Point). distance a b ≡ by *ℤ distance (begin_of plan scaled i) (end_of plan scaled i)) i
    (distance-times by (begin_of plan scaled i) (end_of plan scaled i) positive))
    ∙ sum_to-scale by (λ i. distance (begin_of plan scaled i) (end_of plan scaled i)) (length plan.pieces)

-- from zero
pub from_zero-scaled : (by : ℤ) (places scaled : Places) → pos 1 ≤ℤ by → IsScaled by places scaled → IsFromZero places → IsFromZero scaled
from_zero-scaled by places scaled positive is from_zero axis =
    let zero = from_zero axis in
    let same = is.points in
    let none = *ℤ-zero by in
    record {
      none_below = λ v inside.
          let low = zero.none_below v (omega (arith, inside, same)) in
          let here = coordinate-scaled by places scaled is axis v in
          factor-le by (pos 0) (along axis (place scaled.xy v)) positive (omega (arith, ints, low, here, none));
      reached = (
        zero.reached.0,
        let inside = zero.reached.1 in omega (arith, inside, same),
        let there = zero.reached.2 in
            let here = coordinate-scaled by places scaled is axis zero.reached.0 in
            same_factor by (along axis (place scaled.xy zero.reached.0)) (pos 0) positive (omega (arith, ints, there, here, none)),
      );
    }

pub from_zero_of_scaled : (by : ℤ) (places scaled : Places) → pos 1 ≤ℤ by → IsScaled by places scaled → IsFromZero scaled → IsFromZero places
from_zero_of_scaled by places scaled positive is from_zero axis =
    let zero = from_zero axis in
    let same = is.points in
    let none = *ℤ-zero by in
    record {
      none_below = λ v inside.
          let low = zero.none_below v (omega (arith, inside, same)) in
          let here = coordinate-scaled by places scaled is axis v in
          let more = times-le by (pos 0) (along axis (place scaled.xy v)) positive low in
          omega (arith, ints, more, here, none);
      reached = (
        zero.reached.0,
        let inside = zero.reached.1 in omega (arith, inside, same),
        let there = ap (λ (z : ℤ). by *ℤ z) zero.reached.2 in
            let here = coordinate-scaled by places scaled is axis zero.reached.0 in
            here ∙ there ∙ none,
      );
    }

-- coordinates come no farther out
within-times : (by z : ℤ) (bound : ℕ) → pos 1 ≤ℤ by → IsWithin bound (by *ℤ z) → IsWithin bound z
within-times by z bound positive near = by_lt_z z (pos 0)
    (λ less.
    let low = near.low in
    let grows = grows_down by z positive (omega (arith, ints, less)) in
    record { low = omega (arith, ints, low, grows); high = omega (arith, ints, less) })
    (λ not_less.
    let high = near.high in
    let grows = grows_up by z positive not_less in
    record { low = omega (arith, ints, not_less); high = omega (arith, ints, high, grows) })

pub within-scaled : (by : ℤ) (bound : ℕ) (places scaled : Places) → pos 1 ≤ℤ by → IsScaled by places scaled →
    AreWithin bound places → AreWithin bound scaled
within-scaled by bound places scaled positive is near axis v inside =
    let same = is.points in
    within-times by (along axis (place scaled.xy v)) bound positive
    (subst (λ (z : ℤ). IsWithin bound z) (coordinate-scaled by places scaled is axis v) (near axis v (omega (arith, inside, same))))

-- one scaling
pub one_scaled : (by : ℤ) (places p q : Places) → pos 1 ≤ℤ by → IsScaled by places p → IsScaled by places q → p ≡ q
one_scaled by places p q positive to_p to_q =
    same_places p q (ext_get_or origin p.xy q.xy (sym to_p.points ∙ to_q.points) (λ v inside. same_point _ _ (by_axis X v) (by_axis Y v)))
  where
    by_axis : (axis : Axis) (v : ℕ) → along axis (place p.xy v) ≡ along axis (place q.xy v)
    by_axis axis v = same_factor by _ _ positive (sym (coordinate-scaled by places p to_p axis v) ∙ coordinate-scaled by places q to_q axis v)

-- scaled, or a first vertex off the grid
pub scaled_not_off : (by : ℤ) (places scaled : Places) (v : ℕ) → IsScaled by places scaled → IsFirstOff by places v → ⊥
scaled_not_off by places scaled v is first =
    first.off.1 (along first.off.0 (place scaled.xy v), coordinate-scaled by places scaled is first.off.0 v)

pub one_first_off : (by : ℤ) (places : Places) (v w : ℕ) → IsFirstOff by places v → IsFirstOff by places w → v ≡ w
one_first_off by places v w first second = by_order (cases_lt v w) (cases_lt w v)
  where
    by_order : (v < w) ⊎ (w ≤ v) → (w < v) ⊎ (v ≤ w) → v ≡ w
    by_order (inl less) back = absurd (first.off.1 (second.before v less first.off.0))
    by_order (inr more) (inl less) = absurd (second.off.1 (first.before w less second.off.0))
    by_order (inr more) (inr not_more) = omega (arith, more, not_more)
