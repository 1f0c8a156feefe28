-- What a sort of the extents leaves, and what the walk over all of them finds.
use Rattle.std.proofs.Common.{◌≡◌, ℕ, ◌<◌, List, length, ◌⊎◌, inl, inr, subst, sym, ap, ◌∙◌, arith}
use Rattle.std.specs.List.{Contains}
use Rattle.std.proofs.lemmas.List.{get_or_default}
use Rattle.std.specs.List.Sorted.{IsPermutation}
use Rattle.std.proofs.lemmas.Bool.{cases_order}
use Rattle.std.proofs.lemmas.List.Elements.{Contains-get_or, All-from_get_or, All-get_or}
use Rattle.std.proofs.lemmas.List.Sorted.{All-permutation, Contains-permutation}
use Rattle.compact_types.specs.declared.places.Axis.{Axis}
use Rattle.compact_types.specs.declared.places.Places.{Places}
use Rattle.compact_types.specs.declared.plan.Shape.{Shape}
use Rattle.compact_types.specs.declared.search.Choice.{Choice}
use Rattle.compact_types.specs.Drawings.{IsDrawing}
use Rattle.bars.specs.Segments.{segment_count, IsPair}
use Rattle.bars.specs.Solutions.{HasDrawing, Solves}
use Rattle.separation.specs.declared.candidates.Candidate.{Candidate}
use Rattle.separation.specs.declared.extents.SegmentExtent.{SegmentExtent}
use Rattle.separation.specs.Branching.{IsBranchPair, IsNotAfter}
use Rattle.separation.specs.inner.Extents.{nowhere, extent_at, IsExtentAlong, AreExtentsAlong, AreInShape}
use Rattle.separation.specs.inner.Candidates.{IsBestOf}
use Rattle.separation.specs.inner.Sweeps.{IsSeen, IsSeenBefore, IsSwept, ShareBefore}
use Rattle.separation.proofs.CompleteExtensions.{drawn_from_apart, first_there}
use Rattle.separation.proofs.CandidateLemmas.{one_count}
use Rattle.separation.proofs.SweepLemmas.{none_swept}

-- what holds of each extent holds of each once they are sorted
sorted_keeps : (P : SegmentExtent → Type 0) (before after : List SegmentExtent) → IsPermutation before after →
    ((k : ℕ) → k < length before → P (extent_at before k)) → (k : ℕ) → k < length after → P (extent_at after k)
sorted_keeps P before after moved each k within =
    All-get_or P after k nowhere within (All-permutation P before after moved (All-from_get_or P before nowhere each))

pub sorted_in_shape : (shape : Shape) (before after : List SegmentExtent) → IsPermutation before after → length before ≡ segment_count shape →
    ((s : ℕ) → s < segment_count shape → (extent_at before s).segment ≡ s) → AreInShape shape after
sorted_in_shape shape before after moved fits own =
    sorted_keeps (λ extent. extent.segment < segment_count shape) before after moved
    (λ k within. (let below : k < segment_count shape = omega (arith, within, fits) in let is = own k below in omega (arith, is, below)))

pub sorted_extents : (axis : Axis) (shape : Shape) (places : Places) (before after : List SegmentExtent) → IsPermutation before after → AreExtentsAlong axis shape places before →
    AreExtentsAlong axis shape places after
sorted_extents axis shape places before after moved are = sorted_keeps (λ extent. IsExtentAlong axis shape places extent) before after moved are

module _ (shape : Shape) (before after : List SegmentExtent) (moved : IsPermutation before after) (fits : length before ≡ segment_count shape)
    (own : (s : ℕ) → s < segment_count shape → (extent_at before s).segment ≡ s) where
  -- each segment has its place
  position : (s : ℕ) → s < segment_count shape → (k : ℕ) × (k < length after) × ((extent_at after k).segment ≡ s)
  position s within =
      let inside : s < length before = omega (arith, within, fits) in
      let stands = Contains-permutation before after (extent_at before s) moved (Contains-get_or before s nowhere inside) in
      found stands
    where
      found : Contains after (extent_at before s) → (k : ℕ) × (k < length after) × ((extent_at after k).segment ≡ s)
      found stands = (
        stands.0,
        stands.1,
        ap (λ (extent : SegmentExtent). extent.segment) (get_or_default after stands.0 nowhere (extent_at before s) stands.1 ∙ stands.2) ∙ own s within,
      )

  -- so the walk sees each pair
  pub each_seen : (s t : ℕ) → IsPair shape s t → IsSeenBefore after (length after) s t
  each_seen s t pair = by_order (cases_order (position s (first_there shape s t pair)).0 (position t pair.in_shape).0)
    where
      first : (k : ℕ) × (k < length after) × ((extent_at after k).segment ≡ s)
      first = position s (first_there shape s t pair)

      second : (k : ℕ) × (k < length after) × ((extent_at after k).segment ≡ t)
      second = position t pair.in_shape

      by_order : (first.0 ≡ second.0) ⊎ ((first.0 < second.0) ⊎ (second.0 < first.0)) → IsSeenBefore after (length after) s t
      by_order (inl same) =
          let segments : (extent_at after first.0).segment ≡ (extent_at after second.0).segment = ap (λ (k : ℕ). (extent_at after k).segment) same in
          let less = pair.in_order in
          let is_s = first.2 in
          let is_t = second.2 in
          absurd (omega (arith, segments, less, is_s, is_t))
      by_order (inr (inl before)) = (first.0, first.1, (second.0, before, second.1, inl (sym first.2, sym second.2)))
      by_order (inr (inr behind)) = (second.0, second.1, (first.0, behind, first.1, inr (sym first.2, sym second.2)))

module _ (shape : Shape) (choices : List Choice) (places : Places) (extents : List SegmentExtent)
    (seen : (s t : ℕ) → IsPair shape s t → IsSeen extents s t) where
  -- where nothing is found the places are a drawing
  pub drawing_from_none : HasDrawing shape → Solves shape choices places →
      ShareBefore shape places (IsSeen extents) (IsSwept extents (record { first = 0; second = 1 })) → IsDrawing shape places
  drawing_from_none drawing solves none =
      drawn_from_apart shape drawing places solves.ways solves.places_fit
      (λ s t pair share. none_swept extents s t (none s t (seen s t pair) pair share))

  -- what is found is the pair of the branch
  pub pair_from_best : (c : Candidate) → IsBestOf shape choices places (IsSeen extents) c → IsBranchPair shape choices places c.s c.t
  pair_from_best c best = record {
    pair = best.candidate.pair;
    share = best.candidate.share;
    fewest = λ u v m n pair share has_m has_n. (
        let covers = best.covered u v (seen u v pair) pair share in
        subst (λ (x : ℕ). IsNotAfter x c.s c.t n u v) (one_count shape choices c.s c.t _ m best.candidate.open_sides has_m) (covers n has_n));
  }
