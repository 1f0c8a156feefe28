-- Keys are ordered.
use Rattle.std.proofs.Common.{◌≡◌, ℤ, List, [], ◌∷◌, length, ◌⊎◌, inl, inr, sym, ◌∙◌, arith}
use Rattle.std.specs.Prelude.{◌<ℤ◌}
use Rattle.std.proofs.lemmas.Int.{ints}
use Rattle.compact_types.specs.declared.places.Key.{Key}
use Rattle.compact_types.specs.Orders.{numbers_of, IsListBefore, IsBefore}
use Rattle.compact_types.proofs.OneBest.{Compared, compare_numbers, compare_points, same_places}

-- no list comes before itself
pub list_not_before_itself : (list : List ℤ) → IsListBefore list list → ⊥
list_not_before_itself [] before = before
list_not_before_itself (a ∷ list) (inl less) = omega (arith, ints)
list_not_before_itself (a ∷ list) (inr (same, before)) = list_not_before_itself list before

-- what comes before one that comes before a third comes before the third
pub list_before_trans : (k l m : List ℤ) → IsListBefore k l → IsListBefore l m → IsListBefore k m
list_before_trans [] l m first second = absurd first
list_before_trans (a ∷ k) [] m first second = absurd first
list_before_trans (a ∷ k) (b ∷ l) [] first second = absurd second
list_before_trans (a ∷ k) (b ∷ l) (c ∷ m) (inl less) (inl more) = inl (omega (arith, ints))
list_before_trans (a ∷ k) (b ∷ l) (c ∷ m) (inl less) (inr (same, after)) = inl (omega (arith, ints))
list_before_trans (a ∷ k) (b ∷ l) (c ∷ m) (inr (same, before)) (inl more) = inl (omega (arith, ints))
list_before_trans (a ∷ k) (b ∷ l) (c ∷ m) (inr (same, before)) (inr (again, after)) =
    inr (same ∙ again, list_before_trans k l m before after)

-- no key comes before itself
pub not_before_itself : (k : Key) → IsBefore k k → ⊥
not_before_itself k (inl less) = omega (arith, ints)
not_before_itself k (inr (same, before)) = list_not_before_itself _ before

-- keys before keys before keys
pub before_trans : (k l m : Key) → IsBefore k l → IsBefore l m → IsBefore k m
before_trans k l m (inl less) (inl more) = inl (omega (arith, ints))
before_trans k l m (inl less) (inr (same, after)) = inl (omega (arith, ints))
before_trans k l m (inr (same, before)) (inl more) = inl (omega (arith, ints))
before_trans k l m (inr (same, before)) (inr (again, after)) =
    inr (same ∙ again, list_before_trans _ (numbers_of l.places.xy) _ before after)

-- keys of equal parts
pub same_key : (k l : Key) → k.worth ≡ l.worth → k.places ≡ l.places → k ≡ l
same_key k l worth places = λ i. record { worth = worth i; places = places i }

-- two keys with equally many points are equal, or one comes before the other
pub before_or_equal : (k l : Key) → length k.places.xy ≡ length l.places.xy →
    IsBefore k l ⊎ ((k ≡ l) ⊎ IsBefore l k)
before_or_equal k l long = by_worth (compare_numbers k.worth l.worth)
  where
    by_points : k.worth ≡ l.worth → Compared k.places.xy l.places.xy → IsBefore k l ⊎ ((k ≡ l) ⊎ IsBefore l k)
    by_points same (inl before) = inl (inr (same, before))
    by_points same (inr (inl equal)) = inr (inl (same_key k l same (same_places k.places l.places equal)))
    by_points same (inr (inr after)) = inr (inr (inr (sym same, after)))

    by_worth : (k.worth <ℤ l.worth) ⊎ ((k.worth ≡ l.worth) ⊎ (l.worth <ℤ k.worth)) →
        IsBefore k l ⊎ ((k ≡ l) ⊎ IsBefore l k)
    by_worth (inl less) = inl (inl less)
    by_worth (inr (inl same)) = by_points same (compare_points k.places.xy l.places.xy long)
    by_worth (inr (inr more)) = inr (inr (inl more))
