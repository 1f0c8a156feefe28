-- From extents to points and pieces.
use Rattle.std.proofs.Common.{◌≡◌, ℕ, ◌+◌, ◌<◌, List, length, subst, refl, arith, MatchOption, Option, Some, None, ap, ◌∙◌, sym, inl, inr, ◌⊎◌}
use Rattle.std.proofs.Common.{◌≤◌, Bool, true, false, not, is_some, IsTrue}
use Rattle.std.proofs.lemmas.Bool.{cases_lt}
use Rattle.compact_types.specs.declared.places.Point.{Point}
use Rattle.compact_types.specs.declared.places.Places.{Places}
use Rattle.compact_types.specs.declared.plan.Piece.{Piece}
use Rattle.compact_types.specs.declared.plan.Plan.{Plan}
use Rattle.compact_types.specs.declared.plan.Shape.{Shape}
use Rattle.compact_types.specs.Lookups.{place, piece_at, IsEnd, HaveSameEnds}
use Rattle.compact_types.specs.Drawings.{MayShare, MeetOnlyAtEnds, HasWays, IsCrossingFree, IsDrawing}
use Rattle.drawing_check.specs.declared.span.PieceExtent.{PieceExtent}
use Rattle.drawing_check.specs.declared.covered.Covered.{Covered}
use Rattle.drawing_check.specs.inner.Spans.{IsInside, IsInsideBut}
use Rattle.drawing_check.specs.Points.{IsLeastPoint}
use Rattle.drawing_check.specs.inner.CommonEnds.{IsOnlyCommonEnd}
use Rattle.drawing_check.specs.declared.meeting.Meeting.{Meeting}
use Rattle.compact_types.specs.Orders.{IsPairBefore}
use Rattle.compact_types.proofs.Laws.{drawing_of_crossing_free}
use Rattle.drawing_check.specs.Meetings.{Meets, IsFirstMeeting}
use Rattle.drawing_check.specs.inner.Partners.{IsApart, ArePiecesApart, IsFirstPartner}
use Rattle.drawing_check.specs.inner.Collisions.{IsOn, HasPointsOfExtent, IsAllowed, SharesAllowed, Collides}

module _ (points : List Point) (p q : Covered) (shared : PieceExtent)
    (first : HasPointsOfExtent points p) (second : HasPointsOfExtent points q)
    (common : (z : Point) → (IsInside p.extent z × IsInside q.extent z → IsInside shared z) × (IsInside shared z → IsInside p.extent z × IsInside q.extent z)) where
  -- a point on both pieces is in what their extents share
  pub in_shared : (z : Point) → IsOn points p.piece z → IsOn points q.piece z → IsInside shared z
  in_shared z on_first on_second = (common z).0 ((first z).0 on_first, (second z).0 on_second)

  -- the least shared point other than the allowed one is the least collision
  pub collision_from_extents : (except result : Option Point) →
      ((z : Point) → (except ≡ Some z → IsAllowed points p.piece q.piece z) × (IsAllowed points p.piece q.piece z → except ≡ Some z)) →
      MatchOption result ((z : Point) → IsInside shared z → except ≡ Some z) (IsLeastPoint (IsInsideBut except shared)) →
      MatchOption result
      ((z : Point) → IsOn points p.piece z → IsOn points q.piece z → IsAllowed points p.piece q.piece z)
      (IsLeastPoint (Collides points p.piece q.piece))
  collision_from_extents except None allowed left = λ z on_first on_second. (allowed z).0 (left z (in_shared z on_first on_second))
  collision_from_extents except (Some point) allowed left = (
    ((first point).1 ((common point).1 left.0.0).0, (second point).1 ((common point).1 left.0.0).1, λ may. left.0.1 ((allowed point).1 may)),
    λ w meets before. left.1 w (in_shared w meets.0 meets.1, λ is. meets.2 ((allowed w).0 is)) before,
  )

-- the place of the only common end is what two pieces may share
pub allowed_from_end : (points : List Point) (p q : Piece) (vertex : ℕ) (point : Point) → IsOnlyCommonEnd p q vertex → point ≡ place points vertex →
    (z : Point) → (Some point ≡ Some z → IsAllowed points p q z) × (IsAllowed points p q z → Some point ≡ Some z)
allowed_from_end points p q vertex point end is z = (
  λ same. let here : point ≡ z = cc in ((vertex, end.on_first, end.on_second, sym is ∙ here), end.apart),
  λ may. ap Some (is ∙ ap (place points) (sym (end.only may.0.0 may.0.1 may.0.2)) ∙ may.0.3),
)

-- with no common end, or with two, nothing may be shared
pub nothing_allowed : (points : List Point) (p q : Piece) → ((vertex : ℕ) → IsEnd vertex p → IsEnd vertex q → HaveSameEnds p q) →
    (z : Point) → (◌≡◌ {A = Option Point} None (Some z) → IsAllowed points p q z) × (IsAllowed points p q z → ◌≡◌ {A = Option Point} None (Some z))
nothing_allowed points p q none z = (λ same. cc, λ may. absurd (may.1 (none may.0.0 may.0.1 may.0.2)))

-- a collision of two pieces of a plan is a meeting
pub meets_from_collision : (plan : Plan) (places : Places) (i j : ℕ) (z : Point) →
    Collides places.xy (piece_at plan.pieces i) (piece_at plan.pieces j) z → Meets plan places i j z
meets_from_collision plan places i j z here =
    record { on_first = here.0; on_second = here.1; forbidden = λ may. here.2 (may.end, may.apart) }

-- a meeting of two pieces of a plan is a collision
pub collision_from_meets : (plan : Plan) (places : Places) (i j : ℕ) (z : Point) →
    Meets plan places i j z → Collides places.xy (piece_at plan.pieces i) (piece_at plan.pieces j) z
collision_from_meets plan places i j z here =
    (here.on_first, here.on_second, λ may. here.forbidden (record { end = may.0; apart = may.1 }))

-- the least collision of two pieces is their least meeting
pub least_meeting : (plan : Plan) (places : Places) (i j : ℕ) (points : List Point) (p q : Piece) (z : Point) → points ≡ places.xy → p ≡ piece_at plan.pieces i → q ≡ piece_at plan.pieces j →
    IsLeastPoint (Collides points p q) z → IsLeastPoint (Meets plan places i j) z
least_meeting plan places i j points p q z at_places is_first is_second least =
    let placed = subst (λ (l : List Point). IsLeastPoint (Collides l p q) z) at_places least in
    let at_first = subst (λ (piece : Piece). IsLeastPoint (Collides places.xy piece q) z) is_first placed in
    let both = subst (λ (piece : Piece). IsLeastPoint (Collides places.xy (piece_at plan.pieces i) piece) z) is_second at_first in
    (meets_from_collision plan places i j z both.0, λ w meets before. both.1 w (collision_from_meets plan places i j w meets) before)

pub apart_from_pieces : (plan : Plan) (places : Places) (i j : ℕ) (points : List Point) (p q : Piece) → points ≡ places.xy → p ≡ piece_at plan.pieces i → q ≡ piece_at plan.pieces j →
    SharesAllowed points p q → IsApart plan places i j
apart_from_pieces plan places i j points p q at_places is_first is_second shares =
    let placed = subst (λ (l : List Point). SharesAllowed l p q) at_places shares in
    let at_first = subst (λ (piece : Piece). SharesAllowed places.xy piece q) is_first placed in
    let both = subst (λ (piece : Piece). SharesAllowed places.xy (piece_at plan.pieces i) piece) is_second at_first in
    λ z on_first on_second. record { end = (both z on_first on_second).0; apart = (both z on_first on_second).1 }

-- two pieces apart have no meeting
pub no_meeting : (plan : Plan) (places : Places) (i j : ℕ) → IsApart plan places i j → (w : Point) → Meets plan places i j w → ⊥
no_meeting plan places i j apart w meets = meets.forbidden (apart w meets.on_first meets.on_second)

-- the first partner of the first piece that has one is the first meeting
pub first_from_partner : (plan : Plan) (places : Places) (n p : ℕ) (meeting : Meeting) → p ≡ n → IsFirstPartner plan places p meeting →
    ArePiecesApart plan places n → IsFirstMeeting plan places meeting.first meeting.second meeting.point
first_from_partner plan places n p meeting same partner earlier =
    subst (λ (first : ℕ). IsFirstMeeting plan places first meeting.second meeting.point) (sym partner.is_first)
    (record { in_order = partner.in_order; in_plan = partner.in_plan; least = partner.least; first = λ i j order inside before. before_none i j order inside before })
  where
    before_none : (i j : ℕ) → i < j → j < length plan.pieces → IsPairBefore i j p meeting.second → (w : Point) → Meets plan places i j w → ⊥
    before_none i j order inside (inl less) = no_meeting plan places i j (earlier.apart i j (omega arith) order inside)
    before_none i j order inside (inr equal) = no_meeting plan places i j
        (subst (λ (k : ℕ). IsApart plan places k j) (sym equal.0) (partner.earlier j (omega arith) equal.1))

-- one more piece is apart
pub apart_one_more : (plan : Plan) (places : Places) (p n : ℕ) → ((q : ℕ) → p < q → q < n → IsApart plan places p q) → IsApart plan places p n →
    (q : ℕ) → p < q → q < n + 1 → IsApart plan places p q
apart_one_more plan places p n below here q after inside = by_order (cases_lt q n)
  where
    by_order : (q < n) ⊎ (n ≤ q) → IsApart plan places p q
    by_order (inl less) = below q after less
    by_order (inr more) = let same : n ≡ q = omega arith in subst (λ (k : ℕ). IsApart plan places p k) same here

-- of no pieces nothing is asked
pub none_apart : (plan : Plan) (places : Places) → ArePiecesApart plan places 0
none_apart plan places = record { apart = λ p q below. absurd (omega arith) }

-- one more piece is apart from all that follow
pub one_more_apart : (plan : Plan) (places : Places) (n m : ℕ) → m ≡ n + 1 → ArePiecesApart plan places n →
    ((q : ℕ) → n < q → q < length plan.pieces → IsApart plan places n q) → ArePiecesApart plan places m
one_more_apart plan places n m next before here = record { apart = λ p q less after inside. by_order p q (cases_lt p n) less after inside }
  where
    by_order : (p q : ℕ) → (p < n) ⊎ (n ≤ p) → p < m → p < q → q < length plan.pieces → IsApart plan places p q
    by_order p q (inl earlier) less after inside = before.apart p q earlier after inside
    by_order p q (inr more) less after inside =
        let same : n ≡ p = omega arith in
        subst (λ (k : ℕ). IsApart plan places k q) same (here q (omega arith) inside)

-- what the search for the first meeting rests on
pub ruleset first_of_meetings = (none_apart, one_more_apart, first_from_partner)

-- what the pieces i and j may share does not depend on which is named first
pub may_share_turned : (plan : Plan) (places : Places) (i j : ℕ) (z : Point) → MayShare plan places i j z → MayShare plan places j i z
may_share_turned plan places i j z may =
    record { end = (may.end.0, may.end.2, may.end.1, may.end.3); apart = λ same. may.apart (turned _ _ same) }
  where
    turned : (p q : Piece) → HaveSameEnds q p → HaveSameEnds p q
    turned p q (inl same) = inl (sym same.0, sym same.1)
    turned p q (inr same) = inr (sym same.1, sym same.0)

-- where each piece is apart from those after it, pieces meet only at their ends
pub meetings_from_apart : (plan : Plan) (places : Places) → ((p q : ℕ) → p < q → q < length plan.pieces → IsApart plan places p q) → MeetOnlyAtEnds plan places
meetings_from_apart plan places apart i j first second differ z on_first on_second = by_order (cases_lt i j)
  where
    by_order : (i < j) ⊎ (j ≤ i) → MayShare plan places i j z
    by_order (inl less) = apart i j less second z on_first on_second
    by_order (inr more) = may_share_turned plan places j i z (apart j i (omega arith) first z on_second on_first)

-- where nothing crosses there is no meeting
pub no_meeting_without_crossing : (shape : Shape) (places : Places) (p q : ℕ) (z : Point) → IsCrossingFree shape places → IsFirstMeeting shape.plan places p q z → ⊥
no_meeting_without_crossing shape places p q z free meeting =
    let inside : p < length shape.plan.pieces = omega (arith, meeting.in_order, meeting.in_plan) in
    let differ : p ≡ q → ⊥ = omega (arith, meeting.in_order) in
    no_meeting shape.plan places p q (free.meetings p q inside meeting.in_plan differ) z meeting.least.0

-- where all pieces have their ways, the places are a drawing exactly where no meeting is found
pub drawing_decided : (shape : Shape) (places : Places) (found : Option Meeting) (none : Bool) → is_some found ≡ not none →
    MatchOption found
    ((p q : ℕ) → p < q → q < length shape.plan.pieces → IsApart shape.plan places p q)
    (λ m. IsFirstMeeting shape.plan places m.first m.second m.point) →
    HasWays shape places → length places.xy ≡ shape.plan.vertices →
    (IsTrue none → IsDrawing shape places) × (IsDrawing shape places → IsTrue none)
drawing_decided shape places None true is apart ways fit =
    (λ yes. drawing_of_crossing_free shape places (record { places_fit = fit; ways = ways; meetings = meetings_from_apart shape.plan places apart }), λ drawing. refl)
drawing_decided shape places None false is apart ways fit = absurd (let e : false ≡ true = is in cc)
drawing_decided shape places (Some m) true is meeting ways fit = absurd (let e : true ≡ false = is in cc)
drawing_decided shape places (Some m) false is meeting ways fit =
    (λ no. absurd (let e : false ≡ true = no in cc), λ drawing. absurd (no_meeting_without_crossing shape places m.first m.second m.point drawing.crossing_free meeting))
