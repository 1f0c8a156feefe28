-- A drawing that is moved is a drawing of the same length, and one from zero can be had so.
use Rattle.std.proofs.Common.{◌≡◌, ℕ, zero, suc, ◌<◌, ◌≤◌, ℤ, pos, List, [], ◌∷◌, length, map, inl, inr, refl, sym, ap, ◌∙◌, subst, ◌⊎◌, arith}
use Rattle.std.specs.Prelude.{◌+ℤ◌, ◌-ℤ◌, ◌≤ℤ◌}
use Rattle.std.specs.Int.{int_max}
use Rattle.std.proofs.lemmas.Int.{ints, by_lt_z}
use Rattle.std.proofs.lemmas.Bool.{cases_lt}
use Rattle.compact_types.specs.declared.places.Axis.{Axis}
use Rattle.compact_types.specs.declared.places.Axis.TheVariants.{X, Y}
use Rattle.compact_types.specs.declared.places.Point.{Point}
use Rattle.compact_types.specs.declared.places.Places.{Places}
use Rattle.compact_types.specs.declared.plan.Plan.{Plan}
use Rattle.compact_types.specs.declared.plan.Shape.{Shape}
use Rattle.compact_types.specs.declared.plan.Way.{Way}
use Rattle.compact_types.specs.declared.plan.Way.TheVariants.{East, West, High, Low}
use Rattle.compact_types.specs.Drawings.{begin_of, end_of, OnPiece, IsCommonEnd, IsCrossingFree, IsDrawing, IsLeastZero, IsFromZero}
use Rattle.compact_types.specs.Lengths.{gap, distance, plain_length_of}
use Rattle.compact_types.specs.Lookups.{place, piece_at, way_at, along}
use Rattle.compact_types.specs.Moves.{moved_point, moved}
use Rattle.compact_types.specs.Segments.{IsBetween, OnSegment}
use Rattle.compact_types.specs.Ways.{HasWay}
use Rattle.compact_types.proofs.DrawingLemmas.{drawing_of_crossing_free}
use Rattle.compact_types.proofs.EndLemmas.{end_is_vertex}
use Rattle.compact_types.proofs.OneBest.{same_point, same_places}
use Rattle.compact_types.proofs.SumLemmas.{sum_to-same}

-- as many points as before
pub length-moved : (dx dy : ℤ) (points : List Point) → length (map (moved_point dx dy) points) ≡ length points
length-moved dx dy [] = refl
length-moved dx dy (p ∷ points) = omega (arith, length-moved dx dy points)

-- the place of a vertex, moved
pub place-moved : (dx dy : ℤ) (points : List Point) (v : ℕ) → v < length points →
    place (map (moved_point dx dy) points) v ≡ moved_point dx dy (place points v)
place-moved dx dy [] v inside = absurd (omega arith)
place-moved dx dy (p ∷ points) zero inside = refl
place-moved dx dy (p ∷ points) (suc v) inside = place-moved dx dy points v (omega arith)

-- moved one way and back
pub moved_back : (dx dy : ℤ) (p : Point) → moved_point (pos 0 -ℤ dx) (pos 0 -ℤ dy) (moved_point dx dy p) ≡ p
moved_back dx dy p = same_point _ _ (omega (arith, ints)) (omega (arith, ints))

pub moved_there : (dx dy : ℤ) (p : Point) → moved_point dx dy (moved_point (pos 0 -ℤ dx) (pos 0 -ℤ dy) p) ≡ p
moved_there dx dy p = same_point _ _ (omega (arith, ints)) (omega (arith, ints))

points_moved_back : (dx dy : ℤ) (points : List Point) →
    map (moved_point (pos 0 -ℤ dx) (pos 0 -ℤ dy)) (map (moved_point dx dy) points) ≡ points
points_moved_back dx dy [] = refl
points_moved_back dx dy (p ∷ points) = λ i. moved_back dx dy p i ∷ points_moved_back dx dy points i

pub places_moved_back : (dx dy : ℤ) (places : Places) → moved (pos 0 -ℤ dx) (pos 0 -ℤ dy) (moved dx dy places) ≡ places
places_moved_back dx dy places = same_places _ _ (points_moved_back dx dy places.xy)

-- moved twice is moved by the sums
points_moved_twice : (a b c d : ℤ) (points : List Point) →
    map (moved_point c d) (map (moved_point a b) points) ≡ map (moved_point (a +ℤ c) (b +ℤ d)) points
points_moved_twice a b c d [] = refl
points_moved_twice a b c d (p ∷ points) =
    let head : moved_point c d (moved_point a b p) ≡ moved_point (a +ℤ c) (b +ℤ d) p =
    same_point _ _ (omega (arith, ints)) (omega (arith, ints)) in
    λ i. head i ∷ points_moved_twice a b c d points i

pub places_moved_twice : (a b c d : ℤ) (places : Places) →
    moved c d (moved a b places) ≡ moved (a +ℤ c) (b +ℤ d) places
places_moved_twice a b c d places = same_places _ _ (points_moved_twice a b c d places.xy)

-- the ends of a piece, moved
pub begin-moved : (dx dy : ℤ) (plan : Plan) (places : Places) → length places.xy ≡ plan.vertices →
    (i : ℕ) → i < length plan.pieces → begin_of plan (moved dx dy places) i ≡ moved_point dx dy (begin_of plan places i)
begin-moved dx dy plan places fit i inside =
    let within = (plan.ends i inside).0 in
    place-moved dx dy places.xy (piece_at plan.pieces i).from (omega (arith, within, fit))

pub end-moved : (dx dy : ℤ) (plan : Plan) (places : Places) → length places.xy ≡ plan.vertices →
    (i : ℕ) → i < length plan.pieces → end_of plan (moved dx dy places) i ≡ moved_point dx dy (end_of plan places i)
end-moved dx dy plan places fit i inside =
    let within = (plan.ends i inside).1 in
    place-moved dx dy places.xy (piece_at plan.pieces i).to (omega (arith, within, fit))

-- ways stay
way-moved : (dx dy : ℤ) (way : Way) (a b : Point) → HasWay way a b → HasWay way (moved_point dx dy a) (moved_point dx dy b)
way-moved dx dy East a b goes = (omega (arith, ints), omega (arith, ints))
way-moved dx dy West a b goes = (omega (arith, ints), omega (arith, ints))
way-moved dx dy High a b goes = (omega (arith, ints), omega (arith, ints))
way-moved dx dy Low a b goes = (omega (arith, ints), omega (arith, ints))

-- a point on a segment that was moved, moved back
between_moved_back : (d a b z : ℤ) → IsBetween (a +ℤ d) (b +ℤ d) z → IsBetween a b (z +ℤ (pos 0 -ℤ d))
between_moved_back d a b z (inl (low, high)) = inl (omega (arith, ints), omega (arith, ints))
between_moved_back d a b z (inr (low, high)) = inr (omega (arith, ints), omega (arith, ints))

on_segment_moved_back : (dx dy : ℤ) (a b z : Point) → OnSegment (moved_point dx dy a) (moved_point dx dy b) z →
    OnSegment a b (moved_point (pos 0 -ℤ dx) (pos 0 -ℤ dy) z)
on_segment_moved_back dx dy a b z (across, along) =
    (between_moved_back dx a.x b.x z.x across, between_moved_back dy a.y b.y z.y along)

on_piece_moved_back : (dx dy : ℤ) (plan : Plan) (places : Places) → length places.xy ≡ plan.vertices →
    (i : ℕ) → i < length plan.pieces → (z : Point) → OnPiece plan (moved dx dy places) i z →
    OnPiece plan places i (moved_point (pos 0 -ℤ dx) (pos 0 -ℤ dy) z)
on_piece_moved_back dx dy plan places fit i inside z lies =
    let at_begin = subst (λ (p : Point). OnSegment p (end_of plan (moved dx dy places) i) z) (begin-moved dx dy plan places fit i inside) lies in
    let at_both = subst (λ (p : Point). OnSegment (moved_point dx dy (begin_of plan places i)) p z) (end-moved dx dy plan places fit i inside) at_begin in
    on_segment_moved_back dx dy (begin_of plan places i) (end_of plan places i) z at_both

-- the common end of two pieces, moved
common_end-moved : (dx dy : ℤ) (plan : Plan) (places : Places) → length places.xy ≡ plan.vertices →
    (i j : ℕ) → i < length plan.pieces → (z : Point) →
    IsCommonEnd plan places i j (moved_point (pos 0 -ℤ dx) (pos 0 -ℤ dy) z) → IsCommonEnd plan (moved dx dy places) i j z
common_end-moved dx dy plan places fit i j inside z (v, of_first, of_second, there) =
    let within = end_is_vertex plan i inside v of_first in (
      v,
      of_first,
      of_second,
      place-moved dx dy places.xy v (omega (arith, within, fit)) ∙ ap (moved_point dx dy) there ∙ moved_there dx dy z,
    )

-- crossing-free, moved
pub crossing_free-moved : (shape : Shape) (places : Places) (dx dy : ℤ) → IsCrossingFree shape places → IsCrossingFree shape (moved dx dy places)
crossing_free-moved shape places dx dy free = record {
  places_fit = length-moved dx dy places.xy ∙ free.places_fit;
  ways = λ i inside.
      let goes = way-moved dx dy (way_at shape.ways i) (begin_of shape.plan places i) (end_of shape.plan places i) (free.ways i inside) in
      let at_begin = subst (λ (p : Point). HasWay (way_at shape.ways i) p (moved_point dx dy (end_of shape.plan places i)))
      (sym (begin-moved dx dy shape.plan places free.places_fit i inside)) goes in
      subst (λ (p : Point). HasWay (way_at shape.ways i) (begin_of shape.plan (moved dx dy places) i) p)
      (sym (end-moved dx dy shape.plan places free.places_fit i inside)) at_begin;
  meetings = λ i j inside_i inside_j different z on_i on_j.
      let shared = free.meetings i j inside_i inside_j different (moved_point (pos 0 -ℤ dx) (pos 0 -ℤ dy) z)
      (on_piece_moved_back dx dy shape.plan places free.places_fit i inside_i z on_i)
      (on_piece_moved_back dx dy shape.plan places free.places_fit j inside_j z on_j) in
      record { end = common_end-moved dx dy shape.plan places free.places_fit i j inside_i z shared.end; apart = shared.apart };
}

-- a drawing, moved
pub drawing-moved : (shape : Shape) (places : Places) (dx dy : ℤ) → IsDrawing shape places → IsDrawing shape (moved dx dy places)
drawing-moved shape places dx dy drawing =
    drawing_of_crossing_free shape (moved dx dy places) (crossing_free-moved shape places dx dy drawing.crossing_free)

-- how far apart two points are stays
pub gap-moved : (d a b : ℤ) → gap (a +ℤ d) (b +ℤ d) ≡ gap a b
gap-moved d a b =
    let up : (b +ℤ d) -ℤ (a +ℤ d) ≡ b -ℤ a = omega (arith, ints) in
    let down : (a +ℤ d) -ℤ (b +ℤ d) ≡ a -ℤ b = omega (arith, ints) in
    λ i. int_max (up i) (down i)

pub distance-moved : (dx dy : ℤ) (a b : Point) → distance (moved_point dx dy a) (moved_point dx dy b) ≡ distance a b
distance-moved dx dy a b = λ i. gap-moved dx a.x b.x i +ℤ gap-moved dy a.y b.y i

pub plain_length-moved : (plan : Plan) (places : Places) (dx dy : ℤ) → length places.xy ≡ plan.vertices →
    plain_length_of plan (moved dx dy places) ≡ plain_length_of plan places
plain_length-moved plan places dx dy fit =
    sum_to-same (λ i. distance (begin_of plan (moved dx dy places) i) (end_of plan (moved dx dy places) i))
    (λ i. distance (begin_of plan places i) (end_of plan places i)) (length plan.pieces)
    (λ i inside. (λ k. distance (begin-moved dx dy plan places fit i inside k) (end-moved dx dy plan places fit i inside k))
    ∙ distance-moved dx dy (begin_of plan places i) (end_of plan places i))

-- how far two vertices stand apart along an axis, with its sign, stays
along-moved : (axis : Axis) (dx dy : ℤ) (a b : Point) →
    along axis (moved_point dx dy b) -ℤ along axis (moved_point dx dy a) ≡ along axis b -ℤ along axis a
along-moved X dx dy a b = omega (arith, ints)
along-moved Y dx dy a b = omega (arith, ints)

pub difference-moved : (axis : Axis) (places : Places) (dx dy : ℤ) (v w : ℕ) → v < length places.xy → w < length places.xy →
    along axis (place (moved dx dy places).xy w) -ℤ along axis (place (moved dx dy places).xy v)
    ≡ along axis (place places.xy w) -ℤ along axis (place places.xy v)
difference-moved axis places dx dy v w in_v in_w =
    (λ k. along axis (place-moved dx dy places.xy w in_w k) -ℤ along axis (place-moved dx dy places.xy v in_v k))
    ∙ along-moved axis dx dy (place places.xy v) (place places.xy w)

pub distance_places-moved : (places : Places) (dx dy : ℤ) (v w : ℕ) → v < length places.xy → w < length places.xy →
    distance (place (moved dx dy places).xy v) (place (moved dx dy places).xy w) ≡ distance (place places.xy v) (place places.xy w)
distance_places-moved places dx dy v w in_v in_w =
    (λ k. distance (place-moved dx dy places.xy v in_v k) (place-moved dx dy places.xy w in_w k))
    ∙ distance-moved dx dy (place places.xy v) (place places.xy w)

-- of some numbers one is the least
pub record IsLeastAt (f : ℕ → ℤ) (n v : ℕ) : Type 0 where
  pub inside : v < n
  pub least : (w : ℕ) → w < n → f v ≤ℤ f w

pub least_of : (f : ℕ → ℤ) (n : ℕ) → (v : ℕ) × IsLeastAt f (suc n) v
least_of f zero = (0, record { inside = omega arith; least = λ w within. let is : w ≡ 0 = omega arith in rw is (omega (arith, ints)) })
least_of f (suc n) = with_last (least_of f n)
  where
    with_last : (v : ℕ) × IsLeastAt f (suc n) v → (v : ℕ) × IsLeastAt f (suc (suc n)) v
    with_last (v, is) = by_lt_z (f (suc n)) (f v)
        (λ less. (
          suc n,
          record {
            inside = omega arith;
            least = λ w within. by_place w (cases_lt w (suc n))
                (λ before. let front = is.least w before in omega (arith, ints, front, less))
                (λ last. let same : w ≡ suc n = omega (arith, within, last) in rw same (omega (arith, ints)));
          },
        ))
        (λ not_less. (
          v,
          record {
            inside = let before = is.inside in omega (arith, before);
            least = λ w within. by_place w (cases_lt w (suc n))
                (λ before. is.least w before)
                (λ last. let same : w ≡ suc n = omega (arith, within, last) in rw same (omega (arith, ints, not_less)));
          },
        ))
      where
        by_place : {P : Type 0} (w : ℕ) → (w < suc n) ⊎ (suc n ≤ w) → (w < suc n → P) → (suc n ≤ w → P) → P
        by_place w (inl before) front last = front before
        by_place w (inr after) front last = last after

-- what is added along an axis by a move
abbrev pub shift_along : Axis → ℤ → ℤ → ℤ
shift_along X dx dy = dx
shift_along Y dx dy = dy

along_shift : (axis : Axis) (dx dy : ℤ) (p : Point) → along axis (moved_point dx dy p) ≡ along axis p +ℤ shift_along axis dx dy
along_shift X dx dy p = refl
along_shift Y dx dy p = refl

pub along_place-moved : (axis : Axis) (places : Places) (dx dy : ℤ) (v : ℕ) → v < length places.xy →
    along axis (place (moved dx dy places).xy v) ≡ along axis (place places.xy v) +ℤ shift_along axis dx dy
along_place-moved axis places dx dy v inside =
    ap (along axis) (place-moved dx dy places.xy v inside) ∙ along_shift axis dx dy (place places.xy v)

-- the least coordinate along an axis is 0, where it was moved there
pub least_zero-moved : (axis : Axis) (places : Places) (dx dy : ℤ) (v : ℕ) → v < length places.xy →
    ((w : ℕ) → w < length places.xy → along axis (place places.xy v) ≤ℤ along axis (place places.xy w)) →
    shift_along axis dx dy ≡ pos 0 -ℤ along axis (place places.xy v) → IsLeastZero axis (moved dx dy places)
least_zero-moved axis places dx dy v inside least shift = record {
  none_below = λ w within.
      let in_places : w < length places.xy = let same = length-moved dx dy places.xy in omega (arith, same, within) in
      rw (along_place-moved axis places dx dy w in_places) (let below = least w in_places in omega (arith, ints, below, shift));
  reached = (
    v,
    let same = length-moved dx dy places.xy in omega (arith, same, inside),
    along_place-moved axis places dx dy v inside ∙ omega (arith, ints, shift),
  );
}

-- some vertex has the least coordinate along the axis
least_along : (axis : Axis) (places : Places) → 0 < length places.xy →
    (v : ℕ) × (v < length places.xy) × ((w : ℕ) → w < length places.xy → along axis (place places.xy v) ≤ℤ along axis (place places.xy w))
least_along axis places some = by_length (length places.xy) refl
  where
    by_length : (n : ℕ) → n ≡ length places.xy →
        (v : ℕ) × (v < length places.xy) × ((w : ℕ) → w < length places.xy → along axis (place places.xy v) ≤ℤ along axis (place places.xy w))
    by_length zero same = absurd (omega (arith, some, same))
    by_length (suc n) same =
        let found = least_of (λ w. along axis (place places.xy w)) n in
        (found.0, let inside = found.1.inside in omega (arith, inside, same), λ w within. found.1.least w (omega (arith, within, same)))

-- where there is a vertex, some move leads to zero
pub some_from_zero : (places : Places) → 0 < length places.xy → (dx : ℤ) × (dy : ℤ) × IsFromZero (moved dx dy places)
some_from_zero places some =
    let x = least_along X places some in
    let y = least_along Y places some in
    let dx = pos 0 -ℤ along X (place places.xy x.0) in
    let dy = pos 0 -ℤ along Y (place places.xy y.0) in
    (dx, dy, by_axis dx dy (least_zero-moved X places dx dy x.0 x.1 x.2 refl) (least_zero-moved Y places dx dy y.0 y.1 y.2 refl))
  where
    by_axis : (dx dy : ℤ) → IsLeastZero X (moved dx dy places) → IsLeastZero Y (moved dx dy places) → (axis : Axis) → IsLeastZero axis (moved dx dy places)
    by_axis dx dy x y X = x
    by_axis dx dy x y Y = y

-- the move to zero is one
not_more_shift : (axis : Axis) (places : Places) (a b c d : ℤ) → IsLeastZero axis (moved a b places) → IsLeastZero axis (moved c d places) →
    shift_along axis a b ≤ℤ shift_along axis c d
not_more_shift axis places a b c d first second =
    let v = first.reached.0 in
    let inside : v < length places.xy = let within = first.reached.1 in let same = length-moved a b places.xy in omega (arith, within, same) in
    let zero_here = along_place-moved axis places a b v inside in
    let there = first.reached.2 in
    let not_below = second.none_below v (let same = length-moved c d places.xy in omega (arith, inside, same)) in
    let moved_so = along_place-moved axis places c d v inside in
    omega (arith, ints, zero_here, there, not_below, moved_so)

pub one_shift : (places : Places) (a b c d : ℤ) → IsFromZero (moved a b places) → IsFromZero (moved c d places) → (a ≡ c) × (b ≡ d)
one_shift places a b c d first second =
    let x = not_more_shift X places a b c d (first X) (second X) in
    let x_back = not_more_shift X places c d a b (second X) (first X) in
    let y = not_more_shift Y places a b c d (first Y) (second Y) in
    let y_back = not_more_shift Y places c d a b (second Y) (first Y) in
    (omega (arith, ints, x, x_back), omega (arith, ints, y, y_back))

pub one_from_zero : (places : Places) (a b c d : ℤ) → IsFromZero (moved a b places) → IsFromZero (moved c d places) →
    moved a b places ≡ moved c d places
one_from_zero places a b c d first second =
    let same = one_shift places a b c d first second in
    λ i. moved (same.0 i) (same.1 i) places
