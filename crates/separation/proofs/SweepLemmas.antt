-- What a sweep over pairs of extents has looked at, and what it finds.
use Rattle.std.proofs.Common.{◌≡◌, ℕ, ℤ, ◌+◌, ◌-◌, ◌*◌, ◌<◌, ◌≤◌, ◌≤ℤ◌, ◌<ℤ◌, int_lt, true, Option, Some, None, MatchOption, List, length, ◌⊎◌, inl, inr, subst, sym, ap, refl, ◌∙◌, arith, mul-le-mul_right}
use Rattle.std.proofs.lemmas.Bool.{cases_lt, cases_order}
use Rattle.std.proofs.lemmas.Int.{ints}
use Rattle.compact_types.specs.declared.places.Axis.{Axis}
use Rattle.compact_types.specs.declared.places.Places.{Places}
use Rattle.compact_types.specs.declared.plan.Shape.{Shape}
use Rattle.compact_types.specs.Drawings.{HasWays}
use Rattle.bars.specs.Segments.{IsPair}
use Rattle.bars.specs.Solutions.{HasDrawing}
use Rattle.separation.specs.declared.extents.SegmentExtent.{SegmentExtent}
use Rattle.separation.specs.declared.sweep.SharingPair.{SharingPair}
use Rattle.separation.specs.declared.sweep.Position.{Position}
use Rattle.separation.specs.Meetings.{ShareAPoint, IsSharingPair}
use Rattle.separation.specs.inner.Extents.{extent_at, AreExtentsAlong, BeginInOrder}
use Rattle.separation.specs.inner.Sweeps.{AreThese, IsSeenWith, IsSeenBefore, IsSeen, IsSwept, IsNotBefore, ShareBefore, IsMeetingFrom, IsFirstFrom, IsNextSharing, left_from, segments_of_pair, past}
use Rattle.separation.proofs.CandidateLemmas.{share_along}
use Rattle.separation.proofs.EndLemmas.{overlap_holds}

module _ (extents : List SegmentExtent) where
  -- one extent more after extent i
  pub seen_one_more : (i j n s t : ℕ) → n ≡ j + 1 → IsSeenWith extents i n s t →
      IsSeenWith extents i j s t ⊎ AreThese (extent_at extents i).segment (extent_at extents j).segment s t
  seen_one_more i j n s t next seen = by_order (cases_lt seen.0 j)
    where
      by_order : (seen.0 < j) ⊎ (j ≤ seen.0) → IsSeenWith extents i j s t ⊎ AreThese (extent_at extents i).segment (extent_at extents j).segment s t
      by_order (inl before) = inl (seen.0, seen.1, before, seen.3)
      by_order (inr here) =
          let last = seen.2 in
          let same : seen.0 ≡ j = omega (arith, here, next, last) in
          inr (subst (λ (b : ℕ). AreThese (extent_at extents i).segment (extent_at extents b).segment s t) same seen.3)

  -- one extent more that others come after
  pub seen_before_one_more : (i n s t : ℕ) → n ≡ i + 1 → IsSeenBefore extents n s t → IsSeenBefore extents i s t ⊎ IsSeenWith extents i (length extents) s t
  seen_before_one_more i n s t next seen = by_order (cases_lt seen.0 i)
    where
      by_order : (seen.0 < i) ⊎ (i ≤ seen.0) → IsSeenBefore extents i s t ⊎ IsSeenWith extents i (length extents) s t
      by_order (inl before) = inl (seen.0, before, seen.2)
      by_order (inr here) =
          let last = seen.1 in
          let same : seen.0 ≡ i = omega (arith, here, next, last) in
          inr (subst (λ (a : ℕ). IsSeenWith extents a (length extents) s t) same seen.2)

  -- a sweep that has come past a pair has looked at it, and else at what it had looked at before
  pub swept_past : (found : SharingPair) (s t : ℕ) → IsSwept extents (past found) s t →
      IsSwept extents found.at s t ⊎ AreThese (extent_at extents found.at.first).segment (extent_at extents found.at.second).segment s t
  swept_past found s t (inl before) = inl (inl before)
  swept_past found s t (inr seen) = by_case (seen_one_more found.at.first found.at.second (found.at.second + 1) s t refl seen)
    where
      by_case : IsSeenWith extents found.at.first found.at.second s t ⊎ AreThese (extent_at extents found.at.first).segment (extent_at extents found.at.second).segment s t →
          IsSwept extents found.at s t ⊎ AreThese (extent_at extents found.at.first).segment (extent_at extents found.at.second).segment s t
      by_case (inl with_first) = inl (inr with_first)
      by_case (inr these) = inr these

  -- at its start a sweep has looked at nothing
  pub none_swept : (s t : ℕ) → IsSwept extents (record { first = 0; second = 1 }) s t → ⊥
  none_swept s t (inl before) = let less = before.1 in omega (arith, less)
  none_swept s t (inr seen) = let first = seen.1 in let last = seen.2 in omega (arith, first, last)

  -- past a pair fewer positions are left
  pub fewer_left : (from : Position) (found : SharingPair) → IsNotBefore from found.at → found.at.first < length extents → found.at.second < length extents →
      left_from extents (past found) < left_from extents from
  fewer_left from found (inl row) first second =
      let n = length extents in
      let more : (n - found.at.first) + 1 ≤ n - from.first = omega (arith, row, first) in
      let rows : ((n - found.at.first) + 1) * (n + 1) ≤ (n - from.first) * (n + 1) = mul-le-mul_right (n + 1) more in
      let apart : ((n - found.at.first) + 1) * (n + 1) ≡ (n - found.at.first) * (n + 1) + (n + 1) = grind arith in
      omega (arith, rows, apart)
  fewer_left from found (inr same) first second =
      let row = same.0 in
      let column = same.1 in
      let rows : (length extents - found.at.first) * (length extents + 1) ≡ (length extents - from.first) * (length extents + 1) =
      ap (λ (k : ℕ). (length extents - k) * (length extents + 1)) (sym row) in
      omega (arith, rows, column, second)

-- an order of positions
pub not_before_trans : (a b c : Position) → IsNotBefore a b → IsNotBefore b c → IsNotBefore a c
not_before_trans a b c (inl p) (inl q) = inl (omega (arith, p, q))
not_before_trans a b c (inl p) (inr q) = inl (let e = q.0 in omega (arith, p, e))
not_before_trans a b c (inr p) (inl q) = inl (let e = p.0 in omega (arith, q, e))
not_before_trans a b c (inr p) (inr q) = inr (p.0 ∙ q.0, (let e = p.1 in let f = q.1 in omega (arith, e, f)))

pub meeting_from : (shape : Shape) (extents : List SegmentExtent) (from at : Position) (found : SharingPair) → IsNotBefore from at → IsMeetingFrom shape extents at found →
    IsMeetingFrom shape extents from found
meeting_from shape extents from at found order meeting = record {
  pair = meeting.pair;
  these = meeting.these;
  first_inside = meeting.first_inside;
  second_inside = meeting.second_inside;
  later = not_before_trans from at found.at order meeting.later;
}

module _ (shape : Shape) (places : Places) (extents : List SegmentExtent) where
  -- a row, after one extent more that shares no point
  pub row_one_more : (i j n : ℕ) (Before : ℕ → ℕ → Type 0) → n ≡ j + 1 → ShareBefore shape places (IsSeenWith extents i j) Before →
      ((s t : ℕ) → AreThese (extent_at extents i).segment (extent_at extents j).segment s t → IsPair shape s t → ShareAPoint shape places s t → ⊥) →
      ShareBefore shape places (IsSeenWith extents i n) Before
  row_one_more i j n Before next so_far none s t seen pair share = by_case (seen_one_more extents i j n s t next seen)
    where
      by_case : IsSeenWith extents i j s t ⊎ AreThese (extent_at extents i).segment (extent_at extents j).segment s t → Before s t
      by_case (inl before) = so_far s t before pair share
      by_case (inr these) = absurd (none s t these pair share)

  -- extents that begin past the end of extent i share no point with it
  pub none_past : (axis : Axis) (drawing : HasDrawing shape) (ways : HasWays shape places) (i j s t : ℕ) → AreExtentsAlong axis shape places extents → BeginInOrder extents →
      i < length extents → j < length extents → int_lt (extent_at extents i).right (extent_at extents j).left ≡ true →
      IsSeenWith extents i (length extents) s t → ShareAPoint shape places s t → IsSeenWith extents i j s t
  none_past axis drawing ways i j s t are in_order i_within j_within past seen share = by_order (cases_lt seen.0 j)
    where
      left_at : (b : ℕ) → (j < b) ⊎ (b ≡ j) → b < length extents → (extent_at extents j).left ≤ℤ (extent_at extents b).left
      left_at b (inl behind) within = in_order j b behind within
      left_at b (inr same) within = let equal : (extent_at extents b).left ≡ (extent_at extents j).left = ap (λ (k : ℕ). (extent_at extents k).left) same in omega (arith, ints, equal)

      behind_or_same : j ≤ seen.0 → (seen.0 ≡ j) ⊎ ((seen.0 < j) ⊎ (j < seen.0)) → (j < seen.0) ⊎ (seen.0 ≡ j)
      behind_or_same most (inl same) = inr same
      behind_or_same most (inr (inl less)) = absurd (omega (arith, most, less))
      behind_or_same most (inr (inr more)) = inl more

      less_than : (x y : ℤ) → int_lt x y ≡ true → x <ℤ y
      less_than x y less = grind (arith, ints)

      by_order : (seen.0 < j) ⊎ (j ≤ seen.0) → IsSeenWith extents i j s t
      by_order (inl before) = (seen.0, seen.1, before, seen.3)
      by_order (inr here) =
          let gap = less_than (extent_at extents i).right (extent_at extents j).left past in
          let left = left_at seen.0 (behind_or_same here (cases_order seen.0 j)) seen.2 in
          let holds = (share_along shape drawing places ways axis (extent_at extents i) (extent_at extents seen.0) s t (are i i_within) (are seen.0 seen.2) seen.3).1 share in
          let overlaps = overlap_holds (extent_at extents i) (extent_at extents seen.0) holds in
          let first = overlaps.x_first in
          absurd (omega (arith, ints, gap, left, first))

  -- the pair that a row comes to is the first from the position on
  pub first_in_row : (from : Position) (found : SharingPair) → from.first ≡ found.at.first → ShareAPoint shape places found.s found.t →
      ShareBefore shape places (IsSeenWith extents found.at.first found.at.second) (IsSeenWith extents from.first from.second) →
      IsFirstFrom shape places extents from found
  first_in_row from found row share so_far = record { share = share; none_before = none_before }
    where
      none_before : ShareBefore shape places (IsSwept extents found.at) (IsSwept extents from)
      none_before s t (inl before) pair share = inl (subst (λ (i : ℕ). IsSeenBefore extents i s t) (sym row) before)
      none_before s t (inr seen) pair share = inr (so_far s t seen pair share)

  -- a row more
  pub rows_one_more : (from at next : Position) → next.first ≡ at.first + 1 → next.second ≡ at.first + 2 → ShareBefore shape places (IsSwept extents at) (IsSwept extents from) →
      ShareBefore shape places (IsSeenWith extents at.first (length extents)) (IsSeenWith extents at.first at.second) →
      ShareBefore shape places (IsSwept extents next) (IsSwept extents from)
  rows_one_more from at next row column so_far none s t (inl before) pair share = by_case (seen_before_one_more extents at.first next.first s t row before)
    where
      by_case : IsSeenBefore extents at.first s t ⊎ IsSeenWith extents at.first (length extents) s t → IsSwept extents from s t
      by_case (inl earlier) = so_far s t (inl earlier) pair share
      by_case (inr seen) = so_far s t (inr (none s t seen pair share)) pair share
  rows_one_more from at next row column so_far none s t (inr seen) pair share =
      let first = seen.1 in
      let last = seen.2 in
      absurd (omega (arith, row, column, first, last))

  pub first_through : (from at : Position) (found : SharingPair) → ShareBefore shape places (IsSwept extents at) (IsSwept extents from) →
      IsFirstFrom shape places extents at found → IsFirstFrom shape places extents from found
  first_through from at found so_far first = record {
    share = first.share;
    none_before = λ s t swept pair share. so_far s t (first.none_before s t swept pair share) pair share;
  }

  -- all rows
  pub rows_end : (from at : Position) → length extents ≤ at.first → ShareBefore shape places (IsSwept extents at) (IsSwept extents from) →
      ShareBefore shape places (IsSeen extents) (IsSwept extents from)
  rows_end from at past so_far s t seen pair share =
      let less = seen.1 in so_far s t (inl (seen.0, omega (arith, less, past), seen.2)) pair share

  -- the pair that was found, by its numbers
  pub told_by_numbers : (P : Type 0) (from : Position) (found : Option SharingPair) (told : Option (ℕ × ℕ)) → told ≡ segments_of_pair found →
      MatchOption found (Unit {0}) (IsMeetingFrom shape extents from) → IsNextSharing shape places extents from found →
      (ShareBefore shape places (IsSeen extents) (IsSwept extents from) → P) →
      MatchOption told P (λ pair. IsSharingPair shape places pair.0 pair.1)
  told_by_numbers P from found told is meeting next holds =
      subst (λ (o : Option (ℕ × ℕ)). MatchOption o P (λ pair. IsSharingPair shape places pair.0 pair.1)) (sym is) (by_found found meeting next)
    where
      by_found : (found : Option SharingPair) → MatchOption found (Unit {0}) (IsMeetingFrom shape extents from) → IsNextSharing shape places extents from found →
          MatchOption (segments_of_pair found) P (λ pair. IsSharingPair shape places pair.0 pair.1)
      by_found None meeting none = holds none
      by_found (Some pair) meeting first = record { pair = meeting.pair; share = first.share }
