-- Pieces that go on from one vertex to the next, at most one to and at most one from each vertex.
use Rattle.std.proofs.Common.{◌≡◌, ℕ, ℤ, ◌<ℤ◌, ◌≤ℤ◌, ◌⊎◌, inl, inr, subst, sym, ap, refl, arith}
use Rattle.std.proofs.lemmas.Int.{ints, by_lt_z}

-- the second vertex is reached from the first along pieces that go, each from its low end to its high end
pub data Climbs (Goes : ℕ → Type 0) (low high : ℕ → ℕ) (first : ℕ) : ℕ → Type 0 where
  stays : Climbs Goes low high first first
  steps : (i : ℕ) → Goes i → Climbs Goes low high first (low i) → Climbs Goes low high first (high i)

module _ (Goes : ℕ → Type 0) (low high : ℕ → ℕ) where
  abbrev Up : ℕ → ℕ → Type 0
  Up v w = Climbs Goes low high v w

  pub climbs_through : (u v w : ℕ) → Up u v → Up v w → Up u w
  climbs_through u v w first stays = first
  climbs_through u v w first (steps i goes before) = steps i goes (climbs_through u v (low i) first before)

  one_step : (i : ℕ) → Goes i → Up (low i) (high i)
  one_step i goes = steps i goes stays

  from_same : (u v w : ℕ) → u ≡ v → Up u w → Up v w
  from_same u v w same up = subst (λ (x : ℕ). Up x w) same up

  to_same : (u v w : ℕ) → v ≡ w → Up u v → Up u w
  to_same u v w same up = subst (λ (x : ℕ). Up u x) same up

  -- it stays, or its first piece begins at its beginning
  pub first_step : (v w : ℕ) → Up v w → (v ≡ w) ⊎ ((i : ℕ) × Goes i × (low i ≡ v) × Up (high i) w)
  first_step v w stays = inl refl
  first_step v w (steps i goes before) = by_before (first_step v (low i) before)
    where
      by_before : (v ≡ low i) ⊎ ((j : ℕ) × Goes j × (low j ≡ v) × Up (high j) (low i)) →
          (v ≡ high i) ⊎ ((j : ℕ) × Goes j × (low j ≡ v) × Up (high j) (high i))
      by_before (inl same) = inr (i, goes, sym same, stays)
      by_before (inr found) = inr (found.0, found.1, found.2, steps i goes found.3)

  -- it stays, or its last piece ends at its end
  pub last_step : (v w : ℕ) → Up v w → (v ≡ w) ⊎ ((i : ℕ) × Goes i × (high i ≡ w) × Up v (low i))
  last_step v w stays = inl refl
  last_step v w (steps i goes before) = inr (i, goes, refl, before)

  module _ (f : ℕ → ℤ) (rises : (i : ℕ) → Goes i → f (low i) <ℤ f (high i)) where
    -- a climb stays where it is, or rises
    pub climb_rises : (v w : ℕ) → Up v w → (v ≡ w) ⊎ (f v <ℤ f w)
    climb_rises v w stays = inl refl
    climb_rises v w (steps i goes before) = by_before (climb_rises v (low i) before)
      where
        by_before : (v ≡ low i) ⊎ (f v <ℤ f (low i)) → (v ≡ high i) ⊎ (f v <ℤ f (high i))
        by_before (inl same) = inr (subst (λ (x : ℕ). f x <ℤ f (high i)) (sym same) (rises i goes))
        by_before (inr less) = inr (let rise = rises i goes in omega (arith, ints, less, rise))

    -- a climb does not fall
    pub climb_grows : (v w : ℕ) → Up v w → f v ≤ℤ f w
    climb_grows v w up = by_case (climb_rises v w up)
      where
        by_case : (v ≡ w) ⊎ (f v <ℤ f w) → f v ≤ℤ f w
        by_case (inl same) = let equal : f v ≡ f w = ap f same in omega (arith, ints, equal)
        by_case (inr less) = omega (arith, ints, less)

    -- each number between its beginning and its end is between the ends of a piece of it
    pub covered : (v w : ℕ) (z : ℤ) → Up v w → f v ≤ℤ z → z ≤ℤ f w →
        (v ≡ w) ⊎ ((i : ℕ) × Goes i × (f (low i) ≤ℤ z) × (z ≤ℤ f (high i)) × Up v (low i))
    covered v w z stays from to = inl refl
    covered v w z (steps i goes before) from to = by_lt_z z (f (low i))
        (λ less. inr (by_before less (covered v (low i) z before from (omega (arith, ints, less)))))
        (λ more. inr (i, goes, omega (arith, ints, more), to, before))
      where
        by_before : z <ℤ f (low i) → (v ≡ low i) ⊎ ((j : ℕ) × Goes j × (f (low j) ≤ℤ z) × (z ≤ℤ f (high j)) × Up v (low j)) →
            (j : ℕ) × Goes j × (f (low j) ≤ℤ z) × (z ≤ℤ f (high j)) × Up v (low j)
        by_before less (inl same) = let equal : f v ≡ f (low i) = ap f same in absurd (omega (arith, ints, less, equal, from))
        by_before less (inr found) = found

  module _ (one_from : (i j : ℕ) → Goes i → Goes j → low i ≡ low j → i ≡ j) (one_to : (i j : ℕ) → Goes i → Goes j → high i ≡ high j → i ≡ j) where
    -- one of the two vertices is reached from the other
    abbrev pub Comparable : ℕ → ℕ → Type 0
    Comparable v w = Up v w ⊎ Up w v

    -- from a vertex on or before the beginning of a piece on or behind it
    pub comparable_on : (v i : ℕ) → Goes i → Comparable v (low i) → Comparable v (high i)
    comparable_on v i goes (inl up) = inl (steps i goes up)
    comparable_on v i goes (inr down) = by_first (first_step (low i) v down)
      where
        by_first : (low i ≡ v) ⊎ ((j : ℕ) × Goes j × (low j ≡ low i) × Up (high j) v) → Comparable v (high i)
        by_first (inl same) = inl (from_same _ _ _ same (one_step i goes))
        by_first (inr found) =
            let equal = one_from found.0 i found.1 goes found.2 in
            inr (from_same _ _ _ (ap high equal) found.3)

    pub comparable_back : (v i : ℕ) → Goes i → Comparable v (high i) → Comparable v (low i)
    comparable_back v i goes (inr down) = inr (climbs_through _ _ _ (one_step i goes) down)
    comparable_back v i goes (inl up) = by_last (last_step v (high i) up)
      where
        by_last : (v ≡ high i) ⊎ ((j : ℕ) × Goes j × (high j ≡ high i) × Up v (low j)) → Comparable v (low i)
        by_last (inl same) = inr (to_same _ _ _ (sym same) (one_step i goes))
        by_last (inr found) =
            let equal = one_to found.0 i found.1 goes found.2 in
            inl (to_same _ _ _ (ap low equal) found.3)

    -- a vertex comparable with a piece stands before it or behind it
    pub beside : (v i : ℕ) → Goes i → Comparable v (low i) → Up v (low i) ⊎ Up (high i) v
    beside v i goes (inl up) = inl up
    beside v i goes (inr down) = by_first (first_step (low i) v down)
      where
        by_first : (low i ≡ v) ⊎ ((j : ℕ) × Goes j × (low j ≡ low i) × Up (high j) v) → Up v (low i) ⊎ Up (high i) v
        by_first (inl same) = inl (from_same _ _ _ same stays)
        by_first (inr found) = inr (from_same _ _ _ (ap high (one_from found.0 i found.1 goes found.2)) found.3)

    -- of two different comparable pieces one stands behind the other
    pub one_behind : (i j : ℕ) → Goes i → Goes j → (i ≡ j → ⊥) → Comparable (low i) (low j) → Up (high i) (low j) ⊎ Up (high j) (low i)
    one_behind i j goes_i goes_j differ (inl up) = by_beside (beside (low j) i goes_i (inr up))
      where
        by_beside : Up (low j) (low i) ⊎ Up (high i) (low j) → Up (high i) (low j) ⊎ Up (high j) (low i)
        by_beside (inr behind) = inl behind
        by_beside (inl before) = by_first (first_step (low j) (low i) before)
          where
            by_first : (low j ≡ low i) ⊎ ((k : ℕ) × Goes k × (low k ≡ low j) × Up (high k) (low i)) → Up (high i) (low j) ⊎ Up (high j) (low i)
            by_first (inl same) = absurd (differ (one_from i j goes_i goes_j (sym same)))
            by_first (inr found) = inr (from_same _ _ _ (ap high (one_from found.0 j found.1 goes_j found.2)) found.3)
    one_behind i j goes_i goes_j differ (inr down) = by_beside (beside (low i) j goes_j (inr down))
      where
        by_beside : Up (low i) (low j) ⊎ Up (high j) (low i) → Up (high i) (low j) ⊎ Up (high j) (low i)
        by_beside (inr behind) = inr behind
        by_beside (inl before) = by_first (first_step (low i) (low j) before)
          where
            by_first : (low i ≡ low j) ⊎ ((k : ℕ) × Goes k × (low k ≡ low i) × Up (high k) (low j)) → Up (high i) (low j) ⊎ Up (high j) (low i)
            by_first (inl same) = absurd (differ (one_from i j goes_i goes_j same))
            by_first (inr found) = inl (from_same _ _ _ (ap high (one_from found.0 i found.1 goes_i found.2)) found.3)
