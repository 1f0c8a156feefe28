-- A plan and places that can be checked have a shape or a first fault.
use Rattle.std.proofs.Common.{◌≡◌, ℕ, zero, suc, ◌+◌, ◌<◌, ◌≤◌, ℤ, ◌≤ℤ◌, ◌<ℤ◌, List, [], ◌∷◌, ◌++◌, length, Option, Some, None, MatchOption, ◌⊎◌, inl, inr, refl, subst, sym, ap, ◌∙◌, arith}
use Rattle.std.specs.Int.{int_max, int_min}
use Rattle.std.proofs.lemmas.Int.{ints, by_lt_z, clamps}
use Rattle.std.proofs.lemmas.Bool.{cases_eq, cases_lt}
use Rattle.compact_types.specs.declared.places.Point.{Point}
use Rattle.compact_types.specs.declared.places.Places.{Places}
use Rattle.compact_types.specs.declared.plan.Piece.{Piece}
use Rattle.compact_types.specs.declared.plan.Plan.{Plan}
use Rattle.compact_types.specs.declared.plan.Shape.{Shape}
use Rattle.compact_types.specs.declared.plan.Way.{Way}
use Rattle.compact_types.specs.Connected.{IsJoined, IsConnected}
use Rattle.compact_types.specs.Drawings.{begin_of, end_of}
use Rattle.compact_types.specs.Lookups.{place, piece_at, IsEnd, HaveSameEnds}
use Rattle.compact_types.specs.Refusals.{HasOneAnswer}
use Rattle.compact_types.specs.Segments.{IsBetween}
use Rattle.compact_types.specs.Ways.{HasWay}
use Rattle.compact_types.proofs.Laws.{some_way, same_point}
use Rattle.drawing_check.specs.declared.covered.Covered.{Covered}
use Rattle.drawing_check.specs.declared.fault.ShapeFault.{ShapeFault}
use Rattle.drawing_check.specs.declared.fault.ShapeFault.TheVariants.{ZeroPiece, Slanted, Disconnected, Meeting}
use Rattle.drawing_check.specs.declared.span.PieceExtent.{PieceExtent}
use Rattle.drawing_check.specs.declared.span.Interval.{Interval}
use Rattle.drawing_check.specs.Conditions.{CanCheck}
use Rattle.drawing_check.specs.Courses.{HasNoLength, IsSlanted, AllHaveWays}
use Rattle.drawing_check.specs.Faults.{IsFirst, IsFirstApart, FirstShapeFault}
use Rattle.compact_types.specs.Orders.{IsPairBefore}
use Rattle.drawing_check.specs.Meetings.{Meets, IsFirstMeeting}
use Rattle.drawing_check.specs.Points.{IsLeastPoint}
use Rattle.drawing_check.specs.Shapes.{IsShapeOf}
use Rattle.drawing_check.specs.inner.Collisions.{IsOn, HasPointsOfExtent, IsAllowed, Collides}
use Rattle.drawing_check.specs.inner.CommonEnds.{IsOnlyCommonEnd}
use Rattle.drawing_check.specs.inner.Partners.{IsApart}
use Rattle.drawing_check.specs.inner.Spans.{IsIn, IsInside, IsInsideBut}
use Rattle.drawing_check.proofs.SpanLemmas.{corner_of, above_least, right_least, corner_is_least}
use Rattle.drawing_check.proofs.MeetingLemmas.{collision_from_extents, allowed_from_end, nothing_allowed, least_meeting, apart_from_pieces, no_meeting}
use Rattle.drawing_check.proofs.WayLemmas.{HaveWaysBelow, ways_one_more}
use Rattle.drawing_check.proofs.GroupLemmas.{joined_or_apart}
use Rattle.drawing_check.proofs.ShapeLemmas.{one_shape, one_fault, no_fault_of_shape, shape_from_parts}

-- it holds, or it does not
abbrev Either : Type 0 → Type 0
Either P = P ⊎ (P → ⊥)

-- the first number below n of which P holds, or none
abbrev FirstOrNone : (ℕ → Type 0) → ℕ → Type 0
FirstOrNone P n = ((v : ℕ) × IsFirst P n v) ⊎ ((i : ℕ) → i < n → P i → ⊥)

first_or_none : (P : ℕ → Type 0) (n : ℕ) → ((i : ℕ) → i < n → Either (P i)) → FirstOrNone P n
first_or_none P zero decided = inr (λ i inside. absurd (omega arith))
first_or_none P (suc n) decided = with_rest (first_or_none P n (λ i inside. decided i (omega arith)))
  where
    with_last : ((i : ℕ) → i < n → P i → ⊥) → Either (P n) → FirstOrNone P (suc n)
    with_last none (inl here) = inl (n, (omega arith, here, none))
    with_last none (inr not_here) = inr (λ i inside. at i (cases_lt i n) inside)
      where
        at : (i : ℕ) → (i < n) ⊎ (n ≤ i) → i < suc n → P i → ⊥
        at i (inl less) inside = none i less
        at i (inr more) inside = let here : n ≡ i = omega arith in subst (λ (k : ℕ). P k → ⊥) here not_here

    with_rest : FirstOrNone P n → FirstOrNone P (suc n)
    with_rest (inl found) = inl (found.0, (omega (arith, found.1.0), found.1.1, found.1.2))
    with_rest (inr none) = with_last none (decided n (omega arith))

-- two numbers are equal, or they are not
same_or_not : (a b : ℤ) → Either (a ≡ b)
same_or_not a b =
    by_lt_z a b (λ less. inr (λ same. omega (arith, ints)))
    (λ le. by_lt_z b a (λ more. inr (λ same. omega (arith, ints))) (λ ge. inl (omega (arith, ints))))

-- two points have no coordinate, one or both in common
no_length_or_not : (a b : Point) → Either (a ≡ b)
no_length_or_not a b = by_parts (same_or_not a.x b.x) (same_or_not a.y b.y)
  where
    by_parts : Either (a.x ≡ b.x) → Either (a.y ≡ b.y) → Either (a ≡ b)
    by_parts (inl x) (inl y) = inl (same_point a b x y)
    by_parts (inr x) y = inr (λ same. x (ap (λ (p : Point). p.x) same))
    by_parts (inl x) (inr y) = inr (λ same. y (ap (λ (p : Point). p.y) same))

slanted_or_not : (a b : Point) → Either ((a.x ≡ b.x → ⊥) × (a.y ≡ b.y → ⊥))
slanted_or_not a b = by_parts (same_or_not a.x b.x) (same_or_not a.y b.y)
  where
    by_parts : Either (a.x ≡ b.x) → Either (a.y ≡ b.y) → Either ((a.x ≡ b.x → ⊥) × (a.y ≡ b.y → ⊥))
    by_parts (inr x) (inr y) = inl (x, y)
    by_parts (inl x) y = inr (λ slanted. slanted.0 x)
    by_parts (inr x) (inl y) = inr (λ slanted. slanted.1 y)

-- two points that are neither the same nor slanted have a way
way_from_neither : (a b : Point) → (a ≡ b → ⊥) → ((a.x ≡ b.x → ⊥) × (a.y ≡ b.y → ⊥) → ⊥) → (way : Way) × HasWay way a b
way_from_neither a b apart straight = by_parts (same_or_not a.x b.x) (same_or_not a.y b.y)
  where
    by_parts : Either (a.x ≡ b.x) → Either (a.y ≡ b.y) → (way : Way) × HasWay way a b
    by_parts (inl x) (inl y) = absurd (apart (same_point a b x y))
    by_parts (inr x) (inl y) = some_way a b (inl (x, y))
    by_parts (inl x) (inr y) = some_way a b (inr (x, y))
    by_parts (inr x) (inr y) = absurd (straight (x, y))

-- ways that all pieces have, as a list
ways_below : (plan : Plan) (places : Places) → AllHaveWays plan places → (n : ℕ) → n ≤ length plan.pieces →
    (ways : List Way) × (length ways ≡ n) × HaveWaysBelow plan places ways n
ways_below plan places all zero fits = ([], refl, λ k inside. absurd (omega arith))
ways_below plan places all (suc n) fits = one_more (ways_below plan places all n (omega arith))
  where
    one_more : ((ways : List Way) × (length ways ≡ n) × HaveWaysBelow plan places ways n) →
        (ways : List Way) × (length ways ≡ suc n) × HaveWaysBelow plan places ways (suc n)
    one_more before =
        let way : (w : Way) × HasWay w (begin_of plan places n) (end_of plan places n) = all n (omega arith) in
        let more : List Way = before.0 ++ way.0 ∷ [] in
        let next : n + 1 ≡ suc n = omega arith in
        let after = ways_one_more plan places before.0 more n way.0 refl before.1 before.2 way.1 in
        (more, after.0 ∙ next, subst (λ (m : ℕ). HaveWaysBelow plan places more m) next after.1)

-- of two pieces that do not have both ends in common, a common end is the only one
only_end : (p q : Piece) (vertex : ℕ) → IsEnd vertex p → IsEnd vertex q → (HaveSameEnds p q → ⊥) →
    (other : ℕ) → IsEnd other p → IsEnd other q → other ≡ vertex
only_end p q vertex (inl a) (inl b) apart other (inl c) on_q = c ∙ sym a
only_end p q vertex (inl a) (inl b) apart other (inr c) (inl d) = d ∙ sym b
only_end p q vertex (inl a) (inl b) apart other (inr c) (inr d) = absurd (apart (inl (sym a ∙ b, sym c ∙ d)))
only_end p q vertex (inl a) (inr b) apart other (inl c) on_q = c ∙ sym a
only_end p q vertex (inl a) (inr b) apart other (inr c) (inr d) = d ∙ sym b
only_end p q vertex (inl a) (inr b) apart other (inr c) (inl d) = absurd (apart (inr (sym a ∙ b, sym c ∙ d)))
only_end p q vertex (inr a) (inl b) apart other (inr c) on_q = c ∙ sym a
only_end p q vertex (inr a) (inl b) apart other (inl c) (inl d) = d ∙ sym b
only_end p q vertex (inr a) (inl b) apart other (inl c) (inr d) = absurd (apart (inr (sym c ∙ d, sym a ∙ b)))
only_end p q vertex (inr a) (inr b) apart other (inr c) on_q = c ∙ sym a
only_end p q vertex (inr a) (inr b) apart other (inl c) (inr d) = d ∙ sym b
only_end p q vertex (inr a) (inr b) apart other (inl c) (inl d) = absurd (apart (inl (sym c ∙ d, sym a ∙ b)))

-- the only vertex that two pieces have in common, or there is none
abbrev OneEndOrNone : Piece → Piece → Type 0
OneEndOrNone p q =
    ((vertex : ℕ) × IsOnlyCommonEnd p q vertex) ⊎ ((vertex : ℕ) → IsEnd vertex p → IsEnd vertex q → HaveSameEnds p q)

same_ends_or_not : (p q : Piece) → Either (HaveSameEnds p q)
same_ends_or_not p q = by_ends (cases_eq p.from q.from) (cases_eq p.to q.to) (cases_eq p.from q.to) (cases_eq p.to q.from)
  where
    crossed : ((p.from ≡ q.from) × (p.to ≡ q.to) → ⊥) → Either (p.from ≡ q.to) → Either (p.to ≡ q.from) → Either (HaveSameEnds p q)
    crossed not_straight (inl c) (inl d) = inl (inr (c, d))
    crossed not_straight (inl c) (inr d) = inr (λ same. elim same [ inl s ↦ not_straight s | inr s ↦ d s.1 ])
    crossed not_straight (inr c) d = inr (λ same. elim same [ inl s ↦ not_straight s | inr s ↦ c s.0 ])

    by_ends : Either (p.from ≡ q.from) → Either (p.to ≡ q.to) → Either (p.from ≡ q.to) → Either (p.to ≡ q.from) → Either (HaveSameEnds p q)
    by_ends (inl a) (inl b) c d = inl (inl (a, b))
    by_ends (inl a) (inr b) c d = crossed (λ s. b s.1) c d
    by_ends (inr a) b c d = crossed (λ s. a s.0) c d

one_end_or_none : (p q : Piece) → OneEndOrNone p q
one_end_or_none p q = by_ends (same_ends_or_not p q)
  where
    found : (HaveSameEnds p q → ⊥) → (vertex : ℕ) → IsEnd vertex p → IsEnd vertex q → OneEndOrNone p q
    found apart vertex on_p on_q =
        inl (vertex, record { on_first = on_p; on_second = on_q; only = only_end p q vertex on_p on_q apart; apart = apart })

    none : (p.from ≡ q.from → ⊥) → (p.from ≡ q.to → ⊥) → (p.to ≡ q.from → ⊥) → (p.to ≡ q.to → ⊥) →
        (vertex : ℕ) → IsEnd vertex p → IsEnd vertex q → HaveSameEnds p q
    none a b c d vertex (inl on_p) (inl on_q) = absurd (a (sym on_p ∙ on_q))
    none a b c d vertex (inl on_p) (inr on_q) = absurd (b (sym on_p ∙ on_q))
    none a b c d vertex (inr on_p) (inl on_q) = absurd (c (sym on_p ∙ on_q))
    none a b c d vertex (inr on_p) (inr on_q) = absurd (d (sym on_p ∙ on_q))

    by_pairs : (HaveSameEnds p q → ⊥) → Either (p.from ≡ q.from) → Either (p.from ≡ q.to) → Either (p.to ≡ q.from) → Either (p.to ≡ q.to) → OneEndOrNone p q
    by_pairs apart (inl a) b c d = found apart p.from (inl refl) (inl a)
    by_pairs apart (inr a) (inl b) c d = found apart p.from (inl refl) (inr b)
    by_pairs apart (inr a) (inr b) (inl c) d = found apart p.to (inr refl) (inl c)
    by_pairs apart (inr a) (inr b) (inr c) (inl d) = found apart p.to (inr refl) (inr d)
    by_pairs apart (inr a) (inr b) (inr c) (inr d) = inr (none a b c d)

    by_ends : Either (HaveSameEnds p q) → OneEndOrNone p q
    by_ends (inl same) = inr (λ vertex on_p on_q. same)
    by_ends (inr apart) = by_pairs apart (cases_eq p.from q.from) (cases_eq p.from q.to) (cases_eq p.to q.from) (cases_eq p.to q.to)

-- the numbers between two, as a span
abbrev Spanned : ℤ → ℤ → Type 0
Spanned a b = (span : Interval) × ((z : ℤ) → (IsBetween a b z → IsIn span z) × (IsIn span z → IsBetween a b z))

span_of : (a b : ℤ) → Spanned a b
span_of a b = by_lt_z a b
    (λ less. (record { low = a; high = b }, λ z. (λ between. rising z less between, λ inside. inl inside)))
    (λ le. (record { low = b; high = a }, λ z. (λ between. falling z le between, λ inside. inr inside)))
  where
    rising : (z : ℤ) → a <ℤ b → IsBetween a b z → (a ≤ℤ z) × (z ≤ℤ b)
    rising z less (inl here) = here
    rising z less (inr here) = (omega (arith, ints), omega (arith, ints))

    falling : (z : ℤ) → b ≤ℤ a → IsBetween a b z → (b ≤ℤ z) × (z ≤ℤ a)
    falling z le (inl here) = (omega (arith, ints), omega (arith, ints))
    falling z le (inr here) = here

-- a piece with the points that it covers
abbrev Covering : List Point → Piece → Type 0
Covering points piece = (covered : Covered) × (covered.piece ≡ piece) × HasPointsOfExtent points covered

covering : (points : List Point) (piece : Piece) → Covering points piece
covering points piece =
    let x = span_of (place points piece.from).x (place points piece.to).x in
    let y = span_of (place points piece.from).y (place points piece.to).y in (
      record { piece = piece; extent = record { x = x.0; y = y.0 } },
      refl,
      λ z. (
        λ on. ((x.1 z.x).0 on.0, (y.1 z.y).0 on.1),
        λ inside. ((x.1 z.x).1 inside.0, (y.1 z.y).1 inside.1),
      ),
    )

-- what two extents have in common
abbrev common_of : PieceExtent → PieceExtent → PieceExtent
common_of a b = record {
  x = record { low = int_max a.x.low b.x.low; high = int_min a.x.high b.x.high };
  y = record { low = int_max a.y.low b.y.low; high = int_min a.y.high b.y.high };
}

common_is : (a b : PieceExtent) (z : Point) → (IsInside a z × IsInside b z → IsInside (common_of a b) z) × (IsInside (common_of a b) z → IsInside a z × IsInside b z)
common_is a b z = (
  λ both. ((omega (arith, ints, clamps), omega (arith, ints, clamps)), (omega (arith, ints, clamps), omega (arith, ints, clamps))),
  λ inside. (
    ((omega (arith, ints, clamps), omega (arith, ints, clamps)), (omega (arith, ints, clamps), omega (arith, ints, clamps))),
    ((omega (arith, ints, clamps), omega (arith, ints, clamps)), (omega (arith, ints, clamps), omega (arith, ints, clamps))),
  ),
)

-- the least point of an extent other than the excepted one, or none
abbrev LeastOrNone : Option Point → PieceExtent → Type 0
LeastOrNone except extent =
    (found : Option Point) × MatchOption found ((z : Point) → IsInside extent z → except ≡ Some z) (IsLeastPoint (IsInsideBut except extent))

after_corner_or_none : (extent : PieceExtent) → extent.x.low ≤ℤ extent.x.high → extent.y.low ≤ℤ extent.y.high → LeastOrNone (Some (corner_of extent)) extent
after_corner_or_none extent across along =
    by_lt_z extent.y.low extent.y.high (λ less. (Some _, above_least extent across less))
    (λ one_y. by_lt_z extent.x.low extent.x.high (λ less. (Some _, right_least extent less (omega (arith, ints))))
    (λ one_x. (None, λ z inside. ap Some (same_point (corner_of extent) z (omega (arith, ints)) (omega (arith, ints))))))

least_or_none : (except : Option Point) (extent : PieceExtent) → LeastOrNone except extent
least_or_none except extent =
    by_lt_z extent.x.high extent.x.low (λ empty. (None, λ z inside. absurd (omega (arith, ints))))
    (λ across. by_lt_z extent.y.high extent.y.low (λ empty. (None, λ z inside. absurd (omega (arith, ints))))
    (λ along. by_except except across along))
  where
    by_except : (other : Option Point) → extent.x.low ≤ℤ extent.x.high → extent.y.low ≤ℤ extent.y.high → LeastOrNone other extent
    by_except None across along = (Some _, corner_is_least extent None across along (λ same. cc))
    by_except (Some point) across along = by_corner (no_length_or_not point (corner_of extent))
      where
        by_corner : Either (point ≡ corner_of extent) → LeastOrNone (Some point) extent
        by_corner (inl same) = subst (λ (p : Point). LeastOrNone (Some p) extent) (sym same) (after_corner_or_none extent across along)
        by_corner (inr other') = (Some _, corner_is_least extent (Some point) across along (λ same. other' (let e : Some point ≡ Some (corner_of extent) = same in cc)))

-- the point that two pieces may share, or none
abbrev AllowedOrNone : List Point → Piece → Piece → Type 0
AllowedOrNone points p q =
    (except : Option Point) × ((z : Point) → (except ≡ Some z → IsAllowed points p q z) × (IsAllowed points p q z → except ≡ Some z))

allowed_or_none : (points : List Point) (p q : Piece) → AllowedOrNone points p q
allowed_or_none points p q = by_end (one_end_or_none p q)
  where
    by_end : OneEndOrNone p q → AllowedOrNone points p q
    by_end (inl end) = (Some (place points end.0), allowed_from_end points p q end.0 (place points end.0) end.1 refl)
    by_end (inr none) = (None, nothing_allowed points p q none)

-- two pieces meet, first at their least meeting, or they are apart
abbrev MeetOrApart : Plan → Places → ℕ → ℕ → Type 0
MeetOrApart plan places i j = ((z : Point) × IsLeastPoint (Meets plan places i j) z) ⊎ IsApart plan places i j

meet_or_apart : (plan : Plan) (places : Places) (i j : ℕ) → MeetOrApart plan places i j
meet_or_apart plan places i j =
    by_covering (covering places.xy (piece_at plan.pieces i)) (covering places.xy (piece_at plan.pieces j))
  where
    by_answer : (p q : Covered) → p.piece ≡ piece_at plan.pieces i → q.piece ≡ piece_at plan.pieces j → (found : Option Point) →
        MatchOption found
        ((z : Point) → IsOn places.xy p.piece z → IsOn places.xy q.piece z → IsAllowed places.xy p.piece q.piece z)
        (IsLeastPoint (Collides places.xy p.piece q.piece)) → MeetOrApart plan places i j
    by_answer p q is_p is_q None apart = inr (apart_from_pieces plan places i j places.xy p.piece q.piece refl is_p is_q apart)
    by_answer p q is_p is_q (Some z) least = inl (z, least_meeting plan places i j places.xy p.piece q.piece z refl is_p is_q least)

    by_covering : Covering places.xy (piece_at plan.pieces i) → Covering places.xy (piece_at plan.pieces j) → MeetOrApart plan places i j
    by_covering p q =
        let shared = common_of p.0.extent q.0.extent in
        let allowed = allowed_or_none places.xy p.0.piece q.0.piece in
        let least = least_or_none allowed.0 shared in
        by_answer p.0 q.0 p.1 q.1 least.0
        (collision_from_extents places.xy p.0 q.0 shared p.2 q.2 (common_is p.0.extent q.0.extent) allowed.0 least.0 allowed.1 least.1)

module _ (plan : Plan) (places : Places) where
  -- piece q after p meets it
  abbrev IsPartner : ℕ → ℕ → Type 0
  IsPartner p q = (p < q) × ((z : Point) × IsLeastPoint (Meets plan places p q) z)

  partner_or_not : (p q : ℕ) → Either (IsPartner p q)
  partner_or_not p q = by_meeting (cases_lt p q) (meet_or_apart plan places p q)
    where
      by_meeting : (p < q) ⊎ (q ≤ p) → MeetOrApart plan places p q → Either (IsPartner p q)
      by_meeting (inl less) (inl meeting) = inl (less, meeting)
      by_meeting (inl less) (inr apart) = inr (λ partner. no_meeting plan places p q apart partner.1.0 partner.1.1.0)
      by_meeting (inr more) meeting = inr (λ partner. omega (arith, partner.0, more))

  -- a piece that is no partner is apart
  apart_without : (p q : ℕ) → p < q → (IsPartner p q → ⊥) → IsApart plan places p q
  apart_without p q less none = by_meeting (meet_or_apart plan places p q)
    where
      by_meeting : MeetOrApart plan places p q → IsApart plan places p q
      by_meeting (inl meeting) = absurd (none (less, meeting))
      by_meeting (inr apart) = apart

  -- some piece after p meets it
  abbrev HasPartner : ℕ → Type 0
  HasPartner p = (q : ℕ) × IsFirst (IsPartner p) (length plan.pieces) q

  has_partner_or_not : (p : ℕ) → Either (HasPartner p)
  has_partner_or_not p = by_first (first_or_none (IsPartner p) (length plan.pieces) (λ q inside. partner_or_not p q))
    where
      by_first : FirstOrNone (IsPartner p) (length plan.pieces) → Either (HasPartner p)
      by_first (inl found) = inl found
      by_first (inr none) = inr (λ found. none found.0 found.1.0 found.1.1)

  all_apart_without : (p : ℕ) → (HasPartner p → ⊥) → (q : ℕ) → p < q → q < length plan.pieces → IsApart plan places p q
  all_apart_without p none = by_first (first_or_none (IsPartner p) (length plan.pieces) (λ q inside. partner_or_not p q))
    where
      by_first : FirstOrNone (IsPartner p) (length plan.pieces) → (q : ℕ) → p < q → q < length plan.pieces → IsApart plan places p q
      by_first (inl found) q less inside = absurd (none found)
      by_first (inr nobody) q less inside = apart_without p q less (nobody q inside)

  -- a first meeting, or all pieces are apart
  abbrev MeetingOrNone : Type 0
  MeetingOrNone =
      ((p : ℕ) × (q : ℕ) × (z : Point) × IsFirstMeeting plan places p q z)
      ⊎ ((p q : ℕ) → p < q → q < length plan.pieces → IsApart plan places p q)

  meeting_or_none : MeetingOrNone
  meeting_or_none = by_first (first_or_none HasPartner (length plan.pieces) (λ p inside. has_partner_or_not p))
    where
      first_meeting : (p : ℕ) → IsFirst HasPartner (length plan.pieces) p → MeetingOrNone
      first_meeting p first =
          let partner = first.1.1 in
          let q = first.1.0 in
          inl (
            p,
            q,
            partner.1.1.0,
            record {
              in_order = partner.1.0;
              in_plan = partner.0;
              least = partner.1.1.1;
              first = λ i j less inside before w meets. none_before i j less inside before w meets;
            },
          )
        where
          none_before : (i j : ℕ) → i < j → j < length plan.pieces → IsPairBefore i j p first.1.0 → (w : Point) → Meets plan places i j w → ⊥
          none_before i j less inside (inl earlier) w meets =
              no_meeting plan places i j (all_apart_without i (first.2 i earlier) j less inside) w meets
          none_before i j less inside (inr same) w meets =
              no_meeting plan places i j
              (subst (λ (k : ℕ). IsApart plan places k j) (sym same.0)
              (apart_without p j (omega (arith, less, same.0)) (first.1.1.2 j same.1))) w meets

      by_first : FirstOrNone HasPartner (length plan.pieces) → MeetingOrNone
      by_first (inl found) = first_meeting found.0 found.1
      by_first (inr none) = inr (λ p q less inside. all_apart_without p (none p (omega (arith, less, inside))) q less inside)

  -- all vertices are joined, or the first that is not
  abbrev ConnectedOrApart : Type 0
  ConnectedOrApart = ((v : ℕ) × IsFirstApart plan v) ⊎ IsConnected plan

  connected_or_not : 0 < plan.vertices → ConnectedOrApart
  connected_or_not some = by_first (first_or_none (λ v. IsJoined plan v → ⊥) plan.vertices (λ v inside. turned (joined_or_apart plan some v inside)))
    where
      turned : {P : Type 0} → Either P → Either (P → ⊥)
      turned (inl here) = inr (λ none. none here)
      turned (inr none) = inl none

      joined_from : (v : ℕ) → v < plan.vertices → ((IsJoined plan v → ⊥) → ⊥) → IsJoined plan v
      joined_from v inside not_apart = by_case (joined_or_apart plan some v inside)
        where
          by_case : Either (IsJoined plan v) → IsJoined plan v
          by_case (inl joined) = joined
          by_case (inr apart) = absurd (not_apart apart)

      by_first : FirstOrNone (λ v. IsJoined plan v → ⊥) plan.vertices → ConnectedOrApart
      by_first (inl found) =
          inl (found.0, (found.1.0, found.1.1, λ u less. joined_from u (omega (arith, less, found.1.0)) (found.1.2 u less)))
      by_first (inr none) = inr (λ v inside. joined_from v inside (none v inside))

  -- a shape or a first fault
  abbrev ShapeOrFault : Type 0
  ShapeOrFault = ((shape : Shape) × IsShapeOf plan places shape) ⊎ ((fault : ShapeFault) × FirstShapeFault plan places fault)

  shape_or_fault : CanCheck plan places → ShapeOrFault
  shape_or_fault can =
      by_length (first_or_none (HasNoLength plan places) (length plan.pieces) (λ i inside. no_length_or_not _ _))
    where
      by_meeting : AllHaveWays plan places → IsConnected plan → MeetingOrNone → ShapeOrFault
      by_meeting ways connected (inl meeting) =
          inr (Meeting meeting.0 meeting.1 meeting.2.x meeting.2.y, (ways, connected, meeting.3))
      by_meeting ways connected (inr apart) =
          let list = ways_below plan places ways (length plan.pieces) (omega arith) in
          inl (_, shape_from_parts plan places plan list.0 list.1 refl (record { one_for_each = list.1; each = list.2 }) connected apart can.places_fit)

      by_joined : AllHaveWays plan places → ConnectedOrApart → ShapeOrFault
      by_joined ways (inl apart) = inr (Disconnected apart.0, (ways, apart.1))
      by_joined ways (inr connected) = by_meeting ways connected meeting_or_none

      by_slant : ((i : ℕ) → i < length plan.pieces → HasNoLength plan places i → ⊥) → FirstOrNone (IsSlanted plan places) (length plan.pieces) → ShapeOrFault
      by_slant lengths (inl found) = inr (Slanted found.0, (lengths, found.1))
      by_slant lengths (inr straight) =
          by_joined (λ i inside. way_from_neither _ _ (lengths i inside) (straight i inside)) (connected_or_not can.some_vertex)

      by_length : FirstOrNone (HasNoLength plan places) (length plan.pieces) → ShapeOrFault
      by_length (inl found) = inr (ZeroPiece found.0, found.1)
      by_length (inr lengths) = by_slant lengths (first_or_none (IsSlanted plan places) (length plan.pieces) (λ i inside. slanted_or_not _ _))

  -- one shape or one first fault
  pub one_answer : CanCheck plan places → HasOneAnswer (IsShapeOf plan places) (FirstShapeFault plan places)
  one_answer can = record {
    some = shape_or_fault can;
    one_value = one_shape plan places;
    one_fault = one_fault plan places;
    not_both = no_fault_of_shape plan places;
  }
