-- The least points of an extent.
use Rattle.std.proofs.Common.{MatchOption, subst, ◌≡◌, ℤ, pos, ◌+ℤ◌, ◌≤ℤ◌, ◌<ℤ◌, Option, Some, None, ap, ◌∙◌, sym, inl, inr, arith, Bool, true, false, ◌&&◌, int_eq}
use Rattle.std.proofs.lemmas.Int.{ints}
use Rattle.std.proofs.lemmas.Bool.{and_parts}
use Rattle.std.proofs.lemmas.Bool.Decides.{Decides-int_eq}
use Rattle.compact_types.specs.declared.places.Point.{Point}
use Rattle.compact_types.proofs.Laws.{same_point}
use Rattle.drawing_check.specs.declared.span.PieceExtent.{PieceExtent}
use Rattle.drawing_check.specs.inner.Spans.{IsInside, IsInsideBut}
use Rattle.compact_types.specs.Orders.{IsPointBefore}
use Rattle.drawing_check.specs.Points.{IsLeastPoint}

-- the coordinates of a point that is there
abbrev x_of : Option Point → ℤ
x_of None = pos 0
x_of (Some point) = point.x

abbrev y_of : Option Point → ℤ
y_of None = pos 0
y_of (Some point) = point.y

-- the corner with the least x and the least y
abbrev pub corner_of : PieceExtent → Point
corner_of extent = record { x = extent.x.low; y = extent.y.low }

-- no point inside comes before the corner
pub corner_least : (extent : PieceExtent) (w : Point) → IsInside extent w → IsPointBefore w (corner_of extent) → ⊥
corner_least extent w inside (inl before) = omega (arith, ints)
corner_least extent w inside (inr before) = omega (arith, ints)

-- where the y grow, the next point stands above the corner
pub above_least : (extent : PieceExtent) → extent.x.low ≤ℤ extent.x.high → extent.y.low <ℤ extent.y.high →
    IsLeastPoint (IsInsideBut (Some (corner_of extent)) extent) (record { x = extent.x.low; y = extent.y.low +ℤ pos 1 })
above_least extent across along = (
  (
    ((omega (arith, ints), omega (arith, ints)), (omega (arith, ints), omega (arith, ints))),
    λ same. let y : extent.y.low ≡ extent.y.low +ℤ pos 1 = ap y_of same in omega (arith, ints),
  ),
  λ w left. elim_before w left,
)
  where
    elim_before : (w : Point) → IsInsideBut (Some (corner_of extent)) extent w → IsPointBefore w (record { x = extent.x.low; y = extent.y.low +ℤ pos 1 }) → ⊥
    elim_before w left (inl before) = omega (arith, ints)
    elim_before w left (inr before) =
        left.1 (ap Some (same_point (corner_of extent) w (sym before.0) (omega (arith, ints))))

-- where there is one y only, the next point stands right of the corner
pub right_least : (extent : PieceExtent) → extent.x.low <ℤ extent.x.high → extent.y.low ≡ extent.y.high →
    IsLeastPoint (IsInsideBut (Some (corner_of extent)) extent) (record { x = extent.x.low +ℤ pos 1; y = extent.y.low })
right_least extent across along = (
  (
    ((omega (arith, ints), omega (arith, ints)), (omega (arith, ints), omega (arith, ints))),
    λ same. let x : extent.x.low ≡ extent.x.low +ℤ pos 1 = ap x_of same in omega (arith, ints),
  ),
  λ w left. elim_before w left,
)
  where
    elim_before : (w : Point) → IsInsideBut (Some (corner_of extent)) extent w → IsPointBefore w (record { x = extent.x.low +ℤ pos 1; y = extent.y.low }) → ⊥
    elim_before w left (inl before) =
        left.1 (ap Some (same_point (corner_of extent) w (omega (arith, ints)) (omega (arith, ints))))
    elim_before w left (inr before) = omega (arith, ints)

-- the corner is the least point, where it is not the excepted one
pub corner_is_least : (extent : PieceExtent) (except : Option Point) → extent.x.low ≤ℤ extent.x.high → extent.y.low ≤ℤ extent.y.high →
    (except ≡ Some (corner_of extent) → ⊥) → IsLeastPoint (IsInsideBut except extent) (corner_of extent)
corner_is_least extent except across along other = (
  (((omega (arith, ints), omega (arith, ints)), (omega (arith, ints), omega (arith, ints))), other),
  λ w left before. corner_least extent w left.0 before,
)

-- two tests of coordinates that hold
pub point_from_tests : (a b : Point) (result : Bool) → result ≡ (int_eq a.x b.x && int_eq a.y b.y) → result ≡ true → a ≡ b
point_from_tests a b result is holds =
    let both = and_parts (int_eq a.x b.x) (int_eq a.y b.y) (sym is ∙ holds) in
    same_point a b ((Decides-int_eq a.x b.x).0 both.0) ((Decides-int_eq a.y b.y).0 both.1)

-- two tests of coordinates of which one fails
pub other_point_from_tests : (a b : Point) (result : Bool) → result ≡ (int_eq a.x b.x && int_eq a.y b.y) → result ≡ false → a ≡ b → ⊥
other_point_from_tests a b result is fails same =
    let x = (Decides-int_eq a.x b.x).1 (ap (λ (p : Point). p.x) same) in
    let y = (Decides-int_eq a.y b.y).1 (ap (λ (p : Point). p.y) same) in
    cc

-- what is left of an extent without its corner
pub without_corner : (extent : PieceExtent) (except result : Option Point) → Some (corner_of extent) ≡ except →
    MatchOption result ((z : Point) → IsInside extent z → z ≡ corner_of extent) (IsLeastPoint (IsInsideBut (Some (corner_of extent)) extent)) →
    MatchOption result ((z : Point) → IsInside extent z → except ≡ Some z) (IsLeastPoint (IsInsideBut except extent))
without_corner extent except None same left = λ z inside. sym same ∙ ap Some (sym (left z inside))
without_corner extent except (Some point) same left =
    subst (λ (o : Option Point). IsLeastPoint (IsInsideBut o extent) point) same left
