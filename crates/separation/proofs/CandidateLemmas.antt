-- The best pair so far, and what a step of the walk makes of it.
use Rattle.std.proofs.Common.{◌≡◌, ℕ, ◌<◌, ◌≤◌, Bool, true, false, ◌&&◌, ◌||◌, ◌==◌, nat_lt, List, slice_index_or, if◌then◌else◌, ◌⊎◌, inl, inr, subst, sym, ap, refl, ◌∙◌, arith}
use Rattle.std.specs.List.{count_by}
use Rattle.std.proofs.lemmas.Bool.{cases_Bool, cases_order, or_cases, or_parts, and_parts, and_cases, eqb-true, eqb-false, ltb-true, ltb-false, cond-true, cond-false}
use Rattle.std.proofs.lemmas.List.FromFn.{fill_by_all}
use Rattle.std.proofs.lemmas.Int.{ints}
use Rattle.compact_types.specs.declared.places.Axis.{Axis}
use Rattle.compact_types.specs.declared.places.Axis.TheVariants.{X, Y}
use Rattle.compact_types.specs.declared.places.Places.{Places}
use Rattle.compact_types.specs.declared.plan.Shape.{Shape}
use Rattle.compact_types.specs.declared.search.Choice.{Choice}
use Rattle.compact_types.specs.Drawings.{HasWays}
use Rattle.bars.specs.Segments.{segment_count, ShareVertex}
use Rattle.bars.specs.Solutions.{HasDrawing}
use Rattle.bars.proofs.Laws.{low_vertex, high_vertex, low_at, high_at, bounds_from_on}
use Rattle.separation.specs.declared.candidates.Candidate.{Candidate}
use Rattle.separation.specs.declared.extents.SegmentExtent.{SegmentExtent}
use Rattle.separation.specs.Branching.{IsNotAfter}
use Rattle.separation.specs.Meetings.{ShareAPoint}
use Rattle.separation.specs.Reaching.{HasOpenSides}
use Rattle.separation.specs.inner.Extents.{IsExtent, IsExtentAlong, overlap, turned_along}
use Rattle.separation.specs.inner.Candidates.{comes_before, first_candidate, IsCandidate, Covers}
use Rattle.separation.specs.inner.Sweeps.{AreThese}
use Rattle.separation.proofs.CompleteExtensions as centre
use Rattle.separation.proofs.EndLemmas.{overlap_holds, overlap_from}

-- the order of pairs by their open sides and then by list order
pub not_after_trans : (m s t n u v o w x : ℕ) → IsNotAfter m s t n u v → IsNotAfter n u v o w x → IsNotAfter m s t o w x
not_after_trans m s t n u v o w x (inl a) (inl b) = inl (omega arith)
not_after_trans m s t n u v o w x (inl a) (inr b) = inl (let e = b.0 in omega (arith, a, e))
not_after_trans m s t n u v o w x (inr a) (inl b) = inl (let e = a.0 in omega (arith, b, e))
not_after_trans m s t n u v o w x (inr a) (inr b) = inr (a.0 ∙ b.0, by_first a.1 b.1)
  where
    by_first : (s < u) ⊎ ((s ≡ u) × (t ≤ v)) → (u < w) ⊎ ((u ≡ w) × (v ≤ x)) → (s < w) ⊎ ((s ≡ w) × (t ≤ x))
    by_first (inl a) (inl b) = inl (omega arith)
    by_first (inl a) (inr b) = inl (let e = b.0 in omega (arith, a, e))
    by_first (inr a) (inl b) = inl (let e = a.0 in omega (arith, b, e))
    by_first (inr a) (inr b) = inr (a.0 ∙ b.0, (let e = a.1 in let f = b.1 in omega (arith, e, f)))

before_true : (c d : Candidate) → comes_before c d ≡ true → IsNotAfter c.«open» c.s c.t d.«open» d.s d.t
before_true c d holds = by_open (or_cases (nat_lt c.«open» d.«open») _ holds)
  where
    by_second : (nat_lt c.s d.s ≡ true) ⊎ (((c.s == d.s) && nat_lt c.t d.t) ≡ true) → (c.s < d.s) ⊎ ((c.s ≡ d.s) × (c.t ≤ d.t))
    by_second (inl less) = inl (ltb-true _ _ less)
    by_second (inr equal) = let both = and_parts (c.s == d.s) (nat_lt c.t d.t) equal in inr (eqb-true _ _ both.0, (let less = ltb-true _ _ both.1 in omega (arith, less)))

    by_open : (nat_lt c.«open» d.«open» ≡ true) ⊎ (((c.«open» == d.«open») && (nat_lt c.s d.s || ((c.s == d.s) && nat_lt c.t d.t))) ≡ true) →
        IsNotAfter c.«open» c.s c.t d.«open» d.s d.t
    by_open (inl less) = inl (ltb-true _ _ less)
    by_open (inr equal) = let both = and_parts (c.«open» == d.«open») _ equal in inr (eqb-true _ _ both.0, by_second (or_cases (nat_lt c.s d.s) _ both.1))

before_false : (c d : Candidate) → comes_before c d ≡ false → IsNotAfter d.«open» d.s d.t c.«open» c.s c.t
before_false c d fails = by_open (or_parts (nat_lt c.«open» d.«open») _ fails)
  where
    by_third : (d.s < c.s) ⊎ (c.s ≡ d.s) → ((c.s == d.s) && nat_lt c.t d.t) ≡ false → (d.s < c.s) ⊎ ((d.s ≡ c.s) × (d.t ≤ c.t))
    by_third (inl less) not_both = inl less
    by_third (inr same) not_both = inr (sym same, by_case (and_cases (c.s == d.s) (nat_lt c.t d.t) not_both))
      where
        by_case : ((c.s == d.s) ≡ false) ⊎ (nat_lt c.t d.t ≡ false) → d.t ≤ c.t
        by_case (inl other) = absurd (eqb-false _ _ other same)
        by_case (inr not_less) = ltb-false _ _ not_less

    less_or_same : d.s ≤ c.s → (c.s ≡ d.s) ⊎ ((c.s < d.s) ⊎ (d.s < c.s)) → (d.s < c.s) ⊎ (c.s ≡ d.s)
    less_or_same most (inl same) = inr same
    less_or_same most (inr (inl less)) = absurd (omega (arith, most, less))
    less_or_same most (inr (inr more)) = inl more

    by_rest : (nat_lt c.s d.s || ((c.s == d.s) && nat_lt c.t d.t)) ≡ false → (d.s < c.s) ⊎ ((d.s ≡ c.s) × (d.t ≤ c.t))
    by_rest none =
        let parts = or_parts (nat_lt c.s d.s) ((c.s == d.s) && nat_lt c.t d.t) none in
        by_third (less_or_same (ltb-false _ _ parts.0) (cases_order c.s d.s)) parts.1

    by_same : (d.«open» < c.«open») ⊎ (c.«open» ≡ d.«open») → ((c.«open» == d.«open») && (nat_lt c.s d.s || ((c.s == d.s) && nat_lt c.t d.t))) ≡ false → IsNotAfter d.«open» d.s d.t c.«open» c.s c.t
    by_same (inl less) not_both = inl less
    by_same (inr same) not_both = by_case (and_cases (c.«open» == d.«open») _ not_both)
      where
        by_case : ((c.«open» == d.«open») ≡ false) ⊎ ((nat_lt c.s d.s || ((c.s == d.s) && nat_lt c.t d.t)) ≡ false) → IsNotAfter d.«open» d.s d.t c.«open» c.s c.t
        by_case (inl other) = absurd (eqb-false _ _ other same)
        by_case (inr none) = inr (sym same, by_rest none)

    order_of : d.«open» ≤ c.«open» → (c.«open» ≡ d.«open») ⊎ ((c.«open» < d.«open») ⊎ (d.«open» < c.«open»)) → (d.«open» < c.«open») ⊎ (c.«open» ≡ d.«open»)
    order_of most (inl same) = inr same
    order_of most (inr (inl less)) = absurd (omega (arith, most, less))
    order_of most (inr (inr more)) = inl more

    by_open : (nat_lt c.«open» d.«open» ≡ false) × (((c.«open» == d.«open») && (nat_lt c.s d.s || ((c.s == d.s) && nat_lt c.t d.t))) ≡ false) →
        IsNotAfter d.«open» d.s d.t c.«open» c.s c.t
    by_open parts = by_same (order_of (ltb-false _ _ parts.0) (cases_order c.«open» d.«open»)) parts.1

-- two truth values that are true together
same_flag : (a b : Bool) → (a ≡ true → b ≡ true) → (b ≡ true → a ≡ true) → a ≡ b
same_flag true true there back = refl
same_flag true false there back = sym (there refl)
same_flag false true there back = back refl
same_flag false false there back = refl

module _ (shape : Shape) (choices : List Choice) where
  -- a pair has one number of open sides
  pub one_count : (s t m n : ℕ) → HasOpenSides shape choices s t m → HasOpenSides shape choices s t n → m ≡ n
  one_count s t m n first second =
      sym first.2 ∙ ap (λ (flags : List Bool). count_by (λ (flag : Bool). flag) flags) same ∙ second.2
    where
      each : (k : ℕ) → k < 4 → slice_index_or first.0 k false ≡ slice_index_or second.0 k false
      each k below =
          same_flag _ _ (λ holds. (second.1.each k below).1 ((first.1.each k below).0 holds)) (λ holds. (first.1.each k below).1 ((second.1.each k below).0 holds))

      same : first.0 ≡ second.0
      same =
          fill_by_all (λ k. slice_index_or second.0 k false) first.0 4 false first.1.four each ∙
          sym (fill_by_all (λ k. slice_index_or second.0 k false) second.0 4 false second.1.four (λ k below. refl))

  -- the first of the best so far and one more covers what the best so far covers
  pub first_keeps : (b c : Candidate) (s t : ℕ) → Covers shape choices b s t → Covers shape choices (first_candidate b c) s t
  first_keeps b c s t covers = by_test (cases_Bool (comes_before c b))
    where
      by_test : (comes_before c b ≡ true) ⊎ (comes_before c b ≡ false) → Covers shape choices (if comes_before c b then c else b) s t
      by_test (inl before) =
          subst (λ (o : Candidate). Covers shape choices o s t) (sym (cond-true (comes_before c b) c b before))
          (λ n has. not_after_trans _ _ _ _ _ _ _ _ _ (before_true c b before) (covers n has))
      by_test (inr after) = subst (λ (o : Candidate). Covers shape choices o s t) (sym (cond-false (comes_before c b) c b after)) covers

  -- a candidate covers its own pair
  pub covers_itself : (c : Candidate) → HasOpenSides shape choices c.s c.t c.«open» → Covers shape choices c c.s c.t
  covers_itself c its n has = inr (one_count c.s c.t c.«open» n its has, inr (refl, omega arith))

  -- and the first of the best so far and one more covers the one more
  pub first_covers : (b c : Candidate) → HasOpenSides shape choices c.s c.t c.«open» → Covers shape choices (first_candidate b c) c.s c.t
  first_covers b c its = by_test (cases_Bool (comes_before c b))
    where
      by_test : (comes_before c b ≡ true) ⊎ (comes_before c b ≡ false) → Covers shape choices (if comes_before c b then c else b) c.s c.t
      by_test (inl before) =
          subst (λ (o : Candidate). Covers shape choices o c.s c.t) (sym (cond-true (comes_before c b) c b before)) (covers_itself c its)
      by_test (inr after) =
          subst (λ (o : Candidate). Covers shape choices o c.s c.t) (sym (cond-false (comes_before c b) c b after))
          (λ n has. not_after_trans _ _ _ _ _ _ _ _ _ (before_false c b after) (covers_itself c its n has))

  -- it is a candidate, if both are
  pub first_found : (places : Places) (b c : Candidate) → IsCandidate shape choices places c → IsCandidate shape choices places b →
      IsCandidate shape choices places (first_candidate b c)
  first_found places b c is found = by_test (cases_Bool (comes_before c b))
    where
      by_test : (comes_before c b ≡ true) ⊎ (comes_before c b ≡ false) → IsCandidate shape choices places (if comes_before c b then c else b)
      by_test (inl before) = subst (λ (o : Candidate). IsCandidate shape choices places o) (sym (cond-true (comes_before c b) c b before)) is
      by_test (inr after) = subst (λ (o : Candidate). IsCandidate shape choices places o) (sym (cond-false (comes_before c b) c b after)) found

-- extents that overlap do so once both are turned
overlap_turned : (a b : SegmentExtent) → overlap a b ≡ true → overlap (turned_along Y a) (turned_along Y b) ≡ true
overlap_turned a b holds =
    let o = overlap_holds a b holds in
    overlap_from (turned_along Y a) (turned_along Y b) (record { x_first = o.y_first; x_second = o.y_second; y_first = o.x_first; y_second = o.x_second })

module _ (shape : Shape) (drawing : HasDrawing shape) (places : Places) (ways : HasWays shape places) where
  -- the numbers of an extent are the bounds of its segment
  pub record AreBounds (e : SegmentExtent) (within : e.segment < segment_count shape) : Type 0 where
    pub left : low_at shape e.segment within drawing places ways X ≡ e.left
    pub right : high_at shape e.segment within drawing places ways X ≡ e.right
    pub low : low_at shape e.segment within drawing places ways Y ≡ e.low
    pub high : high_at shape e.segment within drawing places ways Y ≡ e.high

  pub bounds_of : (e : SegmentExtent) (is : IsExtent shape places e) → AreBounds e is.within
  bounds_of e is = record {
    left = (let u = low_vertex shape e.segment is.within drawing X in is.left u.0 u.1.is_vertex u.2);
    right = (let u = high_vertex shape e.segment is.within drawing X in is.right u.0 u.1.is_vertex u.2);
    low = (let u = low_vertex shape e.segment is.within drawing Y in is.low u.0 u.1.is_vertex u.2);
    high = (let u = high_vertex shape e.segment is.within drawing Y in is.high u.0 u.1.is_vertex u.2);
  }

  -- segments whose extents overlap share a point
  pub share_from_extents : (a b : SegmentExtent) → IsExtent shape places a → IsExtent shape places b → overlap a b ≡ true → ShareAPoint shape places a.segment b.segment
  share_from_extents a b is_a is_b holds =
      let o = overlap_holds a b holds in
      let x_first = o.x_first in
      let x_second = o.x_second in
      let y_first = o.y_first in
      let y_second = o.y_second in
      let first = bounds_of a is_a in
      let second = bounds_of b is_b in
      let al = first.left in let ar = first.right in let ao = first.low in let ah = first.high in
      let bl = second.left in let br = second.right in let bo = second.low in let bh = second.high in
      centre.share_from_overlaps shape drawing places ways a.segment b.segment is_a.within is_b.within
      (record { first = omega (arith, ints, x_first, bl, ar); second = omega (arith, ints, x_second, al, br) })
      (record { first = omega (arith, ints, y_first, bo, ah); second = omega (arith, ints, y_second, ao, bh) })

  -- the extents of segments that share a point overlap
  pub overlap_from_share : (a b : SegmentExtent) → IsExtent shape places a → IsExtent shape places b → ShareAPoint shape places a.segment b.segment → overlap a b ≡ true
  overlap_from_share a b is_a is_b share =
      let first = bounds_of a is_a in
      let second = bounds_of b is_b in
      let al = first.left in let ar = first.right in let ao = first.low in let ah = first.high in
      let bl = second.left in let br = second.right in let bo = second.low in let bh = second.high in
      let in_a = bounds_from_on shape a.segment is_a.within drawing places ways share.0 share.1.0 share.1.1 share.1.2 in
      let in_b = bounds_from_on shape b.segment is_b.within drawing places ways share.0 share.2.0 share.2.1 share.2.2 in
      let ax = in_a.above X in let ax' = in_a.below X in let ay = in_a.above Y in let ay' = in_a.below Y in
      let bx = in_b.above X in let bx' = in_b.below X in let by = in_b.above Y in let by' = in_b.below Y in
      overlap_from a b (record {
        x_first = omega (arith, ints, ax', bx, ar, bl);
        x_second = omega (arith, ints, ax, bx', al, br);
        y_first = omega (arith, ints, ay', by, ah, bo);
        y_second = omega (arith, ints, ay, by', ao, bh);
      })

  -- the same of a pair of them, in one order or the other
  pub share_of_these : (a b : SegmentExtent) (s t : ℕ) → IsExtent shape places a → IsExtent shape places b → AreThese a.segment b.segment s t →
      (overlap a b ≡ true → ShareAPoint shape places s t) × (ShareAPoint shape places s t → overlap a b ≡ true)
  share_of_these a b s t is_a is_b (inl these) = (
    λ holds. subst (λ (x : ℕ). ShareAPoint shape places x t) (sym these.0) (subst (λ (x : ℕ). ShareAPoint shape places a.segment x) (sym these.1) (share_from_extents a b is_a is_b holds)),
    λ share. overlap_from_share a b is_a is_b (subst (λ (x : ℕ). ShareAPoint shape places x b.segment) these.0 (subst (λ (x : ℕ). ShareAPoint shape places s x) these.1 share)),
  )
  share_of_these a b s t is_a is_b (inr these) = (
    λ holds. (
        let share = share_from_extents a b is_a is_b holds in
        let turned : ShareAPoint shape places b.segment a.segment = (share.0, share.2, share.1) in
        subst (λ (x : ℕ). ShareAPoint shape places x t) (sym these.0) (subst (λ (x : ℕ). ShareAPoint shape places b.segment x) (sym these.1) turned)),
    λ share. (
        let at : ShareAPoint shape places b.segment a.segment = subst (λ (x : ℕ). ShareAPoint shape places x a.segment) these.0 (subst (λ (x : ℕ). ShareAPoint shape places s x) these.1 share) in
        overlap_from_share a b is_a is_b (at.0, at.2, at.1)),
  )

  -- the same along either axis
  pub share_along : (axis : Axis) (a b : SegmentExtent) (s t : ℕ) → IsExtentAlong axis shape places a → IsExtentAlong axis shape places b → AreThese a.segment b.segment s t →
      (overlap a b ≡ true → ShareAPoint shape places s t) × (ShareAPoint shape places s t → overlap a b ≡ true)
  share_along X a b s t is_a is_b these = share_of_these a b s t is_a is_b these
  share_along Y a b s t is_a is_b these =
      let both = share_of_these (turned_along Y a) (turned_along Y b) s t is_a is_b these in
      (λ holds. both.0 (overlap_turned a b holds), λ share. overlap_turned (turned_along Y a) (turned_along Y b) (both.1 share))

-- two pairs of the same two segments are one
pub one_order : (a b s t u v : ℕ) → s < t → u < v → AreThese a b s t → AreThese a b u v → (s ≡ u) × (t ≡ v)
one_order a b s t u v first second (inl p) (inl q) = (p.0 ∙ sym q.0, p.1 ∙ sym q.1)
one_order a b s t u v first second (inr p) (inr q) = (p.0 ∙ sym q.0, p.1 ∙ sym q.1)
one_order a b s t u v first second (inl p) (inr q) = let pa = p.0 in let pb = p.1 in let qa = q.0 in let qb = q.1 in absurd (omega (arith, first, second, pa, pb, qa, qb))
one_order a b s t u v first second (inr p) (inl q) = let pa = p.0 in let pb = p.1 in let qa = q.0 in let qb = q.1 in absurd (omega (arith, first, second, pa, pb, qa, qb))

-- the vertex that two segments share
pub shared_by_these : (shape : Shape) (a b s t : ℕ) → AreThese a b s t → ShareVertex shape a b → ShareVertex shape s t
shared_by_these shape a b s t (inl these) share =
    subst (λ (x : ℕ). ShareVertex shape x t) (sym these.0) (subst (λ (x : ℕ). ShareVertex shape a x) (sym these.1) share)
shared_by_these shape a b s t (inr these) share =
    let turned : ShareVertex shape b a = (share.0, share.2, share.1) in
    subst (λ (x : ℕ). ShareVertex shape x t) (sym these.0) (subst (λ (x : ℕ). ShareVertex shape b x) (sym these.1) turned)
