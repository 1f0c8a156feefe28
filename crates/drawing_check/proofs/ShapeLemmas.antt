-- A plan and its places have one shape, or one first fault, and not both.
use Rattle.std.proofs.Common.{◌≡◌, ℕ, ◌<◌, ℤ, List, length, inl, inr, subst, sym, ap, ◌∙◌, arith}
use Rattle.std.proofs.lemmas.Int.{ints, by_lt_z}
use Rattle.std.proofs.lemmas.List.{ext_get_or}
use Rattle.compact_types.specs.declared.places.Point.{Point}
use Rattle.compact_types.specs.declared.places.Places.{Places}
use Rattle.compact_types.specs.declared.plan.Plan.{Plan}
use Rattle.compact_types.specs.declared.plan.Shape.{Shape}
use Rattle.compact_types.specs.declared.plan.Way.{Way}
use Rattle.compact_types.specs.declared.plan.Way.TheVariants.{East}
use Rattle.compact_types.specs.Lookups.{way_at}
use Rattle.compact_types.specs.Ways.{HasWay}
use Rattle.compact_types.specs.Drawings.{begin_of, end_of, MeetOnlyAtEnds}
use Rattle.compact_types.specs.Connected.{IsConnected}
use Rattle.compact_types.proofs.Laws.{one_way, shape_of, same_shape, same_point}
use Rattle.drawing_check.specs.declared.fault.ShapeFault.{ShapeFault}
use Rattle.drawing_check.specs.declared.fault.ShapeFault.TheVariants.{ZeroPiece, Slanted, Disconnected, Meeting}
use Rattle.drawing_check.specs.Courses.{HasNoLength, IsSlanted, AllHaveWays}
use Rattle.drawing_check.specs.inner.PieceWays.{AreWays}
use Rattle.compact_types.specs.Orders.{IsPointBefore}
use Rattle.drawing_check.specs.Points.{IsLeastPoint}
use Rattle.drawing_check.specs.Meetings.{Meets, IsFirstMeeting}
use Rattle.drawing_check.specs.inner.Partners.{IsApart}
use Rattle.drawing_check.specs.Faults.{IsFirst, IsFirstApart, FirstShapeFault}
use Rattle.drawing_check.specs.Shapes.{IsShapeOf}
use Rattle.drawing_check.proofs.WayLemmas.{way_apart, way_not_slanted}
use Rattle.drawing_check.proofs.MeetingLemmas.{no_meeting_without_crossing, meetings_from_apart}

-- the ways of a shape, over the plan that it stands for
pub ways_over : (plan : Plan) (places : Places) (shape : Shape) → IsShapeOf plan places shape →
    (i : ℕ) → i < length plan.pieces → HasWay (way_at shape.ways i) (begin_of plan places i) (end_of plan places i)
ways_over plan places shape is =
    subst (λ (r : Plan). (i : ℕ) → i < length r.pieces → HasWay (way_at shape.ways i) (begin_of r places i) (end_of r places i)) is.same_plan is.crossing_free.ways

-- places give a plan one shape at most
pub one_shape : (plan : Plan) (places : Places) (p q : Shape) → IsShapeOf plan places p → IsShapeOf plan places q → p ≡ q
one_shape plan places p q first second =
    let fits : length p.ways ≡ length plan.pieces = p.one_for_each ∙ ap (λ (r : Plan). length r.pieces) first.same_plan in
    let fits_second : length q.ways ≡ length plan.pieces = q.one_for_each ∙ ap (λ (r : Plan). length r.pieces) second.same_plan in
    same_shape p q (first.same_plan ∙ sym second.same_plan)
    (ext_get_or East p.ways q.ways (fits ∙ sym fits_second)
    (λ i inside. let within : i < length plan.pieces = omega (arith, inside, fits) in
    one_way _ _ _ _ (ways_over plan places p first i within) (ways_over plan places q second i within)))

-- all pieces of a shape's plan have ways
pub ways_in_shape : (plan : Plan) (places : Places) (shape : Shape) → IsShapeOf plan places shape → AllHaveWays plan places
ways_in_shape plan places shape is = λ i inside. (way_at shape.ways i, ways_over plan places shape is i inside)

-- where every piece has a way, none is without length and none is slanted
pub length_from_ways : (plan : Plan) (places : Places) → AllHaveWays plan places → (i : ℕ) → i < length plan.pieces → HasNoLength plan places i → ⊥
length_from_ways plan places ways i inside = way_apart _ _ (ways i inside).0 (ways i inside).1

pub straight_from_ways : (plan : Plan) (places : Places) → AllHaveWays plan places → (i : ℕ) → i < length plan.pieces → IsSlanted plan places i → ⊥
straight_from_ways plan places ways i inside = way_not_slanted _ _ (ways i inside).0 (ways i inside).1

-- the first is one
pub one_first : (P : ℕ → Type 0) (n v w : ℕ) → IsFirst P n v → IsFirst P n w → v ≡ w
one_first P n v w first second =
    let not_less : v < w → ⊥ = λ less. second.2 v less first.1 in
    let not_more : w < v → ⊥ = λ more. first.2 w more second.1 in
    omega (arith, not_less, not_more)

pub one_first_apart : (plan : Plan) (v w : ℕ) → IsFirstApart plan v → IsFirstApart plan w → v ≡ w
one_first_apart plan v w first second =
    let not_less : v < w → ⊥ = λ less. first.1 (second.2 v less) in
    let not_more : w < v → ⊥ = λ more. second.1 (first.2 w more) in
    omega (arith, not_less, not_more)

pub one_least_point : (P : Point → Type 0) (v w : Point) → IsLeastPoint P v → IsLeastPoint P w → v ≡ w
one_least_point P v w first second =
    let before : IsPointBefore v w → ⊥ = second.1 v first.0 in
    let after : IsPointBefore w v → ⊥ = first.1 w second.0 in
    let x : v.x ≡ w.x = by_lt_z v.x w.x (λ less. absurd (before (inl less))) (λ le. by_lt_z w.x v.x (λ more. absurd (after (inl more))) (λ ge. omega (arith, ints))) in
    let y : v.y ≡ w.y = by_lt_z v.y w.y (λ less. absurd (before (inr (x, less)))) (λ le. by_lt_z w.y v.y (λ more. absurd (after (inr (sym x, more)))) (λ ge. omega (arith, ints))) in
    same_point v w x y

-- the pieces and the point of the first meeting
pub one_first_meeting : (plan : Plan) (places : Places) (p q r s : ℕ) (v w : Point) → IsFirstMeeting plan places p q v → IsFirstMeeting plan places r s w →
    (p ≡ r) × (q ≡ s) × (v ≡ w)
one_first_meeting plan places p q r s v w first second =
    let not_less : p < r → ⊥ = λ less. second.first p q first.in_order first.in_plan (inl less) v first.least.0 in
    let not_more : r < p → ⊥ = λ more. first.first r s second.in_order second.in_plan (inl more) w second.least.0 in
    let same_first : p ≡ r = omega (arith, not_less, not_more) in
    let not_before : q < s → ⊥ = λ less. second.first p q first.in_order first.in_plan (inr (same_first, less)) v first.least.0 in
    let not_after : s < q → ⊥ = λ more. first.first r s second.in_order second.in_plan (inr (sym same_first, more)) w second.least.0 in
    let same_second : q ≡ s = omega (arith, not_before, not_after) in
    let moved = subst (λ (i : ℕ). IsLeastPoint (Meets plan places i q) v) same_first first.least in
    let least = subst (λ (j : ℕ). IsLeastPoint (Meets plan places r j) v) same_second moved in
    (same_first, same_second, one_least_point (Meets plan places r s) v w least second.least)

-- the fault of the first meeting
meeting_fault : (p q r s : ℕ) (a b c d : ℤ) → p ≡ r → q ≡ s → a ≡ c → b ≡ d → Meeting p q a b ≡ Meeting r s c d
meeting_fault p q r s a b c d first second x y =
    ap (λ (i : ℕ). Meeting i q a b) first ∙ ap (λ (j : ℕ). Meeting r j a b) second ∙ ap (λ (z : ℤ). Meeting r s z b) x ∙ ap (λ (z : ℤ). Meeting r s c z) y

-- the fault that is the first is one
pub one_fault : (plan : Plan) (places : Places) (f g : ShapeFault) → FirstShapeFault plan places f → FirstShapeFault plan places g → f ≡ g
one_fault plan places (ZeroPiece p) (ZeroPiece q) first second = ap ZeroPiece (one_first (HasNoLength plan places) _ p q first second)
one_fault plan places (ZeroPiece p) (Slanted q) first second = absurd (second.0 p first.0 first.1)
one_fault plan places (ZeroPiece p) (Disconnected v) first second = absurd (length_from_ways plan places second.0 p first.0 first.1)
one_fault plan places (ZeroPiece p) (Meeting i j x y) first second = absurd (length_from_ways plan places second.0 p first.0 first.1)
one_fault plan places (Slanted p) (ZeroPiece q) first second = absurd (first.0 q second.0 second.1)
one_fault plan places (Slanted p) (Slanted q) first second = ap Slanted (one_first (IsSlanted plan places) _ p q first.1 second.1)
one_fault plan places (Slanted p) (Disconnected v) first second = absurd (straight_from_ways plan places second.0 p first.1.0 first.1.1)
one_fault plan places (Slanted p) (Meeting i j x y) first second = absurd (straight_from_ways plan places second.0 p first.1.0 first.1.1)
one_fault plan places (Disconnected v) (ZeroPiece q) first second = absurd (length_from_ways plan places first.0 q second.0 second.1)
one_fault plan places (Disconnected v) (Slanted q) first second = absurd (straight_from_ways plan places first.0 q second.1.0 second.1.1)
one_fault plan places (Disconnected v) (Disconnected w) first second = ap Disconnected (one_first_apart plan v w first.1 second.1)
one_fault plan places (Disconnected v) (Meeting i j x y) first second = absurd (first.1.1 (second.1 v first.1.0))
one_fault plan places (Meeting i j x y) (ZeroPiece q) first second = absurd (length_from_ways plan places first.0 q second.0 second.1)
one_fault plan places (Meeting i j x y) (Slanted q) first second = absurd (straight_from_ways plan places first.0 q second.1.0 second.1.1)
one_fault plan places (Meeting i j x y) (Disconnected w) first second = absurd (second.1.1 (first.1 w second.1.0))
one_fault plan places (Meeting p q x y) (Meeting r s a b) first second =
    let same = one_first_meeting plan places p q r s (record { x = x; y = y }) (record { x = a; y = b }) first.2 second.2 in
    meeting_fault p q r s x y a b same.0 same.1 (ap (λ (z : Point). z.x) same.2) (ap (λ (z : Point). z.y) same.2)

-- a shape and a fault exclude each other
pub no_fault_of_shape : (plan : Plan) (places : Places) (shape : Shape) (fault : ShapeFault) → IsShapeOf plan places shape → FirstShapeFault plan places fault → ⊥
no_fault_of_shape plan places shape (ZeroPiece p) is first = length_from_ways plan places (ways_in_shape plan places shape is) p first.0 first.1
no_fault_of_shape plan places shape (Slanted p) is first = straight_from_ways plan places (ways_in_shape plan places shape is) p first.1.0 first.1.1
no_fault_of_shape plan places shape (Disconnected v) is first = first.1.1 (is.connected v first.1.0)
no_fault_of_shape plan places shape (Meeting p q x y) is first =
    no_meeting_without_crossing shape places p q (record { x = x; y = y }) is.crossing_free
    (subst (λ (r : Plan). IsFirstMeeting r places p q (record { x = x; y = y })) (sym is.same_plan) first.2)

-- the ways that were found
pub ways_found : (plan : Plan) (places : Places) (ways : List Way) → AreWays plan places ways → AllHaveWays plan places
ways_found plan places ways are i inside = (way_at ways i, are.each i inside)

-- the shape of a copy of the plan
pub shape_from_parts : (plan : Plan) (places : Places) (copy : Plan) (ways : List Way) (fits : length ways ≡ length copy.pieces) → copy ≡ plan →
    AreWays plan places ways → IsConnected plan → ((p q : ℕ) → p < q → q < length plan.pieces → IsApart plan places p q) → length places.xy ≡ plan.vertices →
    IsShapeOf plan places (shape_of copy ways fits)
shape_from_parts plan places copy ways fits same are connected apart places_fit = record {
  same_plan = same;
  connected = connected;
  crossing_free = record {
    places_fit = subst (λ (r : Plan). length places.xy ≡ r.vertices) (sym same) places_fit;
    ways = subst (λ (r : Plan). (i : ℕ) → i < length r.pieces → HasWay (way_at ways i) (begin_of r places i) (end_of r places i)) (sym same) are.each;
    meetings = subst (λ (r : Plan). MeetOnlyAtEnds r places) (sym same) (meetings_from_apart plan places apart);
  };
}
