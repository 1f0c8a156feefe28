-- The best pair so far of a sweep.
use Rattle.std.proofs.Common.{◌≡◌, ℕ, List, ◌⊎◌, inl, inr, subst, sym}
use Rattle.compact_types.specs.declared.places.Places.{Places}
use Rattle.compact_types.specs.declared.plan.Shape.{Shape}
use Rattle.compact_types.specs.declared.search.Choice.{Choice}
use Rattle.bars.specs.Segments.{IsPair}
use Rattle.separation.specs.declared.candidates.Candidate.{Candidate}
use Rattle.separation.specs.declared.extents.SegmentExtent.{SegmentExtent}
use Rattle.separation.specs.declared.sweep.SharingPair.{SharingPair}
use Rattle.separation.specs.declared.sweep.Position.{Position}
use Rattle.separation.specs.Meetings.{ShareAPoint}
use Rattle.separation.specs.Reaching.{HasOpenSides}
use Rattle.separation.specs.inner.Candidates.{first_candidate, Covers, IsBestOf, IsCandidate}
use Rattle.separation.specs.inner.Extents.{extent_at}
use Rattle.separation.specs.inner.Sweeps.{AreThese, IsSeen, IsSwept, ShareBefore, IsMeetingFrom, IsFirstFrom, past}
use Rattle.separation.proofs.CandidateLemmas.{covers_itself, first_covers, first_found, first_keeps, one_order}
use Rattle.separation.proofs.SweepLemmas.{none_swept, swept_past}

module _ (shape : Shape) (choices : List Choice) (places : Places) (extents : List SegmentExtent) where
  -- a meeting with its number of open sides
  pub record IsCountOf (found : SharingPair) (c : Candidate) : Type 0 where
    pub s : c.s ≡ found.s
    pub t : c.t ≡ found.t
    pub open_sides : HasOpenSides shape choices found.s found.t c.«open»

  candidate_at : (from : Position) (found : SharingPair) (c : Candidate) → IsCountOf found c → IsMeetingFrom shape extents from found →
      IsFirstFrom shape places extents from found → IsCandidate shape choices places c
  candidate_at from found c count meeting first = record {
    pair = subst (λ (x : ℕ). IsPair shape x c.t) (sym count.s) (subst (λ (x : ℕ). IsPair shape found.s x) (sym count.t) meeting.pair);
    share = subst (λ (x : ℕ). ShareAPoint shape places x c.t) (sym count.s) (subst (λ (x : ℕ). ShareAPoint shape places found.s x) (sym count.t) first.share);
    open_sides = subst (λ (x : ℕ). HasOpenSides shape choices x c.t c.«open») (sym count.s)
        (subst (λ (x : ℕ). HasOpenSides shape choices found.s x c.«open») (sym count.t) count.open_sides);
  }

  -- the pair of the two extents is that of the candidate
  covered_here : (from : Position) (found : SharingPair) (c best : Candidate) → IsCountOf found c → IsMeetingFrom shape extents from found →
      Covers shape choices best c.s c.t → (s t : ℕ) → AreThese (extent_at extents found.at.first).segment (extent_at extents found.at.second).segment s t →
      IsPair shape s t → Covers shape choices best s t
  covered_here from found c best count meeting covers s t these pair =
      let own : Covers shape choices best found.s found.t =
      subst (λ (x : ℕ). Covers shape choices best x found.t) count.s (subst (λ (x : ℕ). Covers shape choices best c.s x) count.t covers) in
      let same = one_order _ _ found.s found.t s t meeting.pair.in_order pair.in_order meeting.these these in
      subst (λ (x : ℕ). Covers shape choices best x t) same.0 (subst (λ (x : ℕ). Covers shape choices best found.s x) same.1 own)

  pub best_first : (first : SharingPair) (c : Candidate) → IsCountOf first c → IsMeetingFrom shape extents (record { first = 0; second = 1 }) first →
      IsFirstFrom shape places extents (record { first = 0; second = 1 }) first → IsBestOf shape choices places (IsSwept extents (past first)) c
  best_first first c count meeting is = record {
    candidate = candidate_at _ first c count meeting is;
    covered = λ s t swept pair share. by_case s t pair share (swept_past extents first s t swept);
  }
    where
      candidate : IsCandidate shape choices places c
      candidate = candidate_at _ first c count meeting is

      by_case : (s t : ℕ) → IsPair shape s t → ShareAPoint shape places s t →
          IsSwept extents first.at s t ⊎ AreThese (extent_at extents first.at.first).segment (extent_at extents first.at.second).segment s t →
          Covers shape choices c s t
      by_case s t pair share (inl before) = absurd (none_swept extents s t (is.none_before s t before pair share))
      by_case s t pair share (inr these) = covered_here _ first c c count meeting (covers_itself shape choices c candidate.open_sides) s t these pair

  pub best_next : (at : Position) (found : SharingPair) (best c : Candidate) → IsBestOf shape choices places (IsSwept extents at) best → IsCountOf found c →
      IsMeetingFrom shape extents at found → IsFirstFrom shape places extents at found →
      IsBestOf shape choices places (IsSwept extents (past found)) (first_candidate best c)
  best_next at found best c so_far count meeting is = record {
    candidate = first_found shape choices places best c candidate so_far.candidate;
    covered = λ s t swept pair share. by_case s t pair share (swept_past extents found s t swept);
  }
    where
      candidate : IsCandidate shape choices places c
      candidate = candidate_at at found c count meeting is

      by_case : (s t : ℕ) → IsPair shape s t → ShareAPoint shape places s t →
          IsSwept extents found.at s t ⊎ AreThese (extent_at extents found.at.first).segment (extent_at extents found.at.second).segment s t →
          Covers shape choices (first_candidate best c) s t
      by_case s t pair share (inl before) =
          first_keeps shape choices best c s t (so_far.covered s t (is.none_before s t before pair share) pair share)
      by_case s t pair share (inr these) =
          covered_here at found c (first_candidate best c) count meeting (first_covers shape choices best c candidate.open_sides) s t these pair

  pub best_end : (at : Position) (best : Candidate) → IsBestOf shape choices places (IsSwept extents at) best →
      ShareBefore shape places (IsSeen extents) (IsSwept extents at) → IsBestOf shape choices places (IsSeen extents) best
  best_end at best so_far none = record {
    candidate = so_far.candidate;
    covered = λ s t seen pair share. so_far.covered s t (none s t seen pair share) pair share;
  }
