-- A sweep over pairs of extents, from one pair of segments that share a point to the next.
use Rattle.std.specs.Prelude.{◌≡◌, ℕ, ◌+◌, ◌-◌, ◌*◌, ◌<◌, ◌≤◌, ◌⊎◌, Option, Some, None, List, length, MatchOption}
use Rattle.compact_types.specs.declared.places.Places.{Places}
use Rattle.compact_types.specs.declared.plan.Shape.{Shape}
use Rattle.bars.specs.Segments.{IsPair}
use Rattle.separation.specs.declared.extents.SegmentExtent.{SegmentExtent}
use Rattle.separation.specs.declared.sweep.SharingPair.{SharingPair}
use Rattle.separation.specs.declared.sweep.Position.{Position}
use Rattle.separation.specs.Meetings.{ShareAPoint}
use Rattle.separation.specs.inner.Extents.{extent_at}

-- s and t are the two segments, in one order or the other
abbrev pub AreThese : ℕ → ℕ → ℕ → ℕ → Type 0
AreThese a b s t = ((s ≡ a) × (t ≡ b)) ⊎ ((s ≡ b) × (t ≡ a))

-- the pair is that of extent i and of one after it and before place j
abbrev pub IsSeenWith : List SegmentExtent → ℕ → ℕ → ℕ → ℕ → Type 0
IsSeenWith extents i j s t =
    (b : ℕ) × (i < b) × (b < j) × AreThese (extent_at extents i).segment (extent_at extents b).segment s t

-- the pair is that of an extent before place i and of one after it
abbrev pub IsSeenBefore : List SegmentExtent → ℕ → ℕ → ℕ → Type 0
IsSeenBefore extents i s t = (a : ℕ) × (a < i) × IsSeenWith extents a (length extents) s t

-- the pair is one of all
abbrev pub IsSeen : List SegmentExtent → ℕ → ℕ → Type 0
IsSeen extents s t = IsSeenBefore extents (length extents) s t

-- a sweep that has come to the position has looked at the pair
abbrev pub IsSwept : List SegmentExtent → Position → ℕ → ℕ → Type 0
IsSwept extents at s t = IsSeenBefore extents at.first s t ⊎ IsSeenWith extents at.first at.second s t

-- of the pairs that were looked at, those that share a point had been looked at before
abbrev pub ShareBefore : Shape → Places → (ℕ → ℕ → Type 0) → (ℕ → ℕ → Type 0) → Type 0
ShareBefore shape places Seen Before =
    (s t : ℕ) → Seen s t → IsPair shape s t → ShareAPoint shape places s t → Before s t

-- the numbers are a pair of the two segments
abbrev pub IsPairOf : Shape → ℕ → ℕ → ℕ × ℕ → Type 0
IsPairOf shape a b pair = IsPair shape pair.0 pair.1 × AreThese a b pair.0 pair.1

-- the pair of the two segments shares a point exactly if it is given
abbrev pub SharesIfGiven : Shape → Places → ℕ → ℕ → Option (ℕ × ℕ) → Type 0
SharesIfGiven shape places a b given =
    MatchOption given
    ((s t : ℕ) → AreThese a b s t → IsPair shape s t → ShareAPoint shape places s t → ⊥)
    (λ pair. ShareAPoint shape places pair.0 pair.1)

-- the second position is the first, or comes after it
abbrev pub IsNotBefore : Position → Position → Type 0
IsNotBefore from at =
    (from.first < at.first) ⊎ ((from.first ≡ at.first) × (from.second ≤ at.second))

-- the meeting is a pair of the two extents at its position, which is not before this one
pub record IsMeetingFrom (shape : Shape) (extents : List SegmentExtent) (from : Position) (meeting : SharingPair) : Type 0 where
  pub pair : IsPair shape meeting.s meeting.t
  pub these : AreThese (extent_at extents meeting.at.first).segment (extent_at extents meeting.at.second).segment meeting.s meeting.t
  pub first_inside : meeting.at.first < length extents
  pub second_inside : meeting.at.second < length extents
  pub later : IsNotBefore from meeting.at

-- the pair shares a point, and no other from the position on to this one does
pub record IsFirstFrom (shape : Shape) (places : Places) (extents : List SegmentExtent) (from : Position) (meeting : SharingPair) : Type 0 where
  pub share : ShareAPoint shape places meeting.s meeting.t
  pub none_before : ShareBefore shape places (IsSwept extents meeting.at) (IsSwept extents from)

-- the first pair from the position on that shares a point, or nothing if none does
abbrev pub IsNextSharing : Shape → Places → List SegmentExtent → Position → Option SharingPair →
    Type 0
IsNextSharing shape places extents from found =
    MatchOption found
    (ShareBefore shape places (IsSeen extents) (IsSwept extents from))
    (IsFirstFrom shape places extents from)

-- the same of the pairs of the first extent of the position alone
abbrev pub IsNextInRow : Shape → Places → List SegmentExtent → Position → Option SharingPair →
    Type 0
IsNextInRow shape places extents from found =
    MatchOption found
    (ShareBefore shape places (IsSeenWith extents from.first (length extents)) (IsSeenWith extents from.first from.second))
    (IsFirstFrom shape places extents from)

-- the numbers of the segments of the pair, if there is one
abbrev pub segments_of_pair : Option SharingPair → Option (ℕ × ℕ)
segments_of_pair None = None
segments_of_pair (Some meeting) = Some (meeting.s, meeting.t)

-- where the sweep goes on after a pair
abbrev pub past : SharingPair → Position
past meeting = record { first = meeting.at.first; second = meeting.at.second + 1 }

-- how many positions are left, where a row has as many as there are extents and one more
abbrev pub left_from : List SegmentExtent → Position → ℕ
left_from extents at = (length extents - at.first) * (length extents + 1) + (length extents - at.second)
