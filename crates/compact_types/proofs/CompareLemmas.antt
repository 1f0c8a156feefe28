-- The answer of a comparison says the order of keys exactly.
use Rattle.std.proofs.Common.{◌≡◌, ℕ, zero, suc, ◌<◌, ◌≤◌, List, [], ◌∷◌, length, inl, inr, refl, sym, ap, subst, ◌∙◌, arith}
use Rattle.std.specs.Prelude.{◌<ℤ◌}
use Rattle.std.proofs.lemmas.List.{ext_get_or}
use Rattle.std.specs.Cmp.{int_ranks}
use Rattle.std.specs.Ordering.{MatchOrdering, int_cmp}
use Rattle.std.specs.declared.cmp.Ordering.{Ordering}
use Rattle.std.specs.declared.cmp.Ordering.TheVariants.{Less, Equal, Greater}
use Rattle.compact_types.specs.declared.places.Point.{Point}
use Rattle.compact_types.specs.declared.places.Places.{Places}
use Rattle.compact_types.specs.declared.places.Key.{Key}
use Rattle.compact_types.specs.Lookups.{origin, place}
use Rattle.compact_types.specs.Orders.{numbers_of, IsListBefore, IsBefore, IsPointBefore, SaysOrder}
use Rattle.compact_types.proofs.OneBest.{same_places}
use Rattle.compact_types.proofs.OrderLemmas.{not_before_itself, before_trans, same_key}

-- the points before place i are the same
abbrev pub AreSameBelow : ℕ → List Point → List Point → Type 0
AreSameBelow i ps qs = (k : ℕ) → k < i → place ps k ≡ place qs k

-- the first point that differs decides
pub first_point_decides : (ps qs : List Point) (i : ℕ) → i < length ps → i < length qs → AreSameBelow i ps qs →
    IsPointBefore (place ps i) (place qs i) → IsListBefore (numbers_of ps) (numbers_of qs)
first_point_decides [] qs i in_first in_second same before = absurd (omega arith)
first_point_decides (p ∷ ps) [] i in_first in_second same before = absurd (omega arith)
first_point_decides (p ∷ ps) (q ∷ qs) zero in_first in_second same (inl less) = inl less
first_point_decides (p ∷ ps) (q ∷ qs) zero in_first in_second same (inr (level, less)) = inr (level, inl less)
first_point_decides (p ∷ ps) (q ∷ qs) (suc i) in_first in_second same before =
    let here : p ≡ q = same 0 (omega arith) in
    inr (
      ap (λ (r : Point). r.x) here,
      inr (
        ap (λ (r : Point). r.y) here,
        first_point_decides ps qs i (omega arith) (omega arith) (λ k below. same (suc k) (omega arith)) before,
      ),
    )

-- the order of the first points that differ is that of the lists
pub decided_by_point : (order : Ordering) (ps qs : List Point) (i : ℕ) → i < length ps → length ps ≡ length qs → AreSameBelow i ps qs →
    MatchOrdering order (IsPointBefore (place ps i) (place qs i)) (place ps i ≡ place qs i) (IsPointBefore (place qs i) (place ps i)) →
    (order ≡ Equal → ⊥) →
    MatchOrdering order (IsListBefore (numbers_of ps) (numbers_of qs)) (ps ≡ qs) (IsListBefore (numbers_of qs) (numbers_of ps))
decided_by_point Less ps qs i inside long same before differ =
    first_point_decides ps qs i inside (omega (arith, inside, long)) same before
decided_by_point Equal ps qs i inside long same before differ = absurd (differ refl)
decided_by_point Greater ps qs i inside long same before differ =
    first_point_decides qs ps i (omega (arith, inside, long)) inside (λ k below. sym (same k below)) before

-- lists whose points are all the same
pub same_points : (ps qs : List Point) (n : ℕ) → length ps ≤ n → length ps ≡ length qs → AreSameBelow n ps qs → ps ≡ qs
same_points ps qs n all long same = ext_get_or origin ps qs long (λ k inside. same k (omega (arith, all, inside)))

-- what is less, equal or greater is exactly that
pub says_order : (k l : Key) (order : Ordering) → MatchOrdering order (IsBefore k l) (k ≡ l) (IsBefore l k) → SaysOrder k l order
says_order k l Less before = record {
  less = (λ is. before, λ is. refl);
  equal = (λ is. (cc), λ same. absurd (not_before_itself l (subst (λ (m : Key). IsBefore m l) same before)));
  greater = (λ is. (cc), λ after. absurd (not_before_itself k (before_trans k l k before after)));
}
says_order k l Equal same = record {
  less = (λ is. (cc), λ before. absurd (not_before_itself l (subst (λ (m : Key). IsBefore m l) same before)));
  equal = (λ is. same, λ is. refl);
  greater = (λ is. (cc), λ after. absurd (not_before_itself l (subst (λ (m : Key). IsBefore l m) same after)));
}
says_order k l Greater after = record {
  less = (λ is. (cc), λ before. absurd (not_before_itself k (before_trans k l k before after)));
  equal = (λ is. (cc), λ same. absurd (not_before_itself l (subst (λ (m : Key). IsBefore l m) same after)));
  greater = (λ is. after, λ is. refl);
}

-- different worths decide
pub from_worth : (k l : Key) (order : Ordering) → (order ≡ Equal → ⊥) → order ≡ int_cmp k.worth l.worth → SaysOrder k l order
from_worth k l order differ is = says_order k l order (by_order order differ
    (subst (λ (o : Ordering). MatchOrdering o (k.worth <ℤ l.worth) (k.worth ≡ l.worth) (l.worth <ℤ k.worth)) (sym is) (int_ranks k.worth l.worth)))
  where
    by_order : (o : Ordering) → (o ≡ Equal → ⊥) → MatchOrdering o (k.worth <ℤ l.worth) (k.worth ≡ l.worth) (l.worth <ℤ k.worth) →
        MatchOrdering o (IsBefore k l) (k ≡ l) (IsBefore l k)
    by_order Less differ less = inl less
    by_order Equal differ same = absurd (differ refl)
    by_order Greater differ more = inl more

-- between equal worths the places decide
pub from_places : (k l : Key) (order : Ordering) → Equal ≡ int_cmp k.worth l.worth →
    MatchOrdering order (IsListBefore (numbers_of k.places.xy) (numbers_of l.places.xy)) (k.places ≡ l.places) (IsListBefore (numbers_of l.places.xy) (numbers_of k.places.xy)) →
    SaysOrder k l order
from_places k l order level decided = says_order k l order (by_order order decided)
  where
    worth : k.worth ≡ l.worth
    worth = subst (λ (o : Ordering). MatchOrdering o (k.worth <ℤ l.worth) (k.worth ≡ l.worth) (l.worth <ℤ k.worth)) (sym level) (int_ranks k.worth l.worth)

    by_order : (o : Ordering) →
        MatchOrdering o (IsListBefore (numbers_of k.places.xy) (numbers_of l.places.xy)) (k.places ≡ l.places) (IsListBefore (numbers_of l.places.xy) (numbers_of k.places.xy)) →
        MatchOrdering o (IsBefore k l) (k ≡ l) (IsBefore l k)
    by_order Less before = inr (worth, before)
    by_order Equal same = same_key k l worth same
    by_order Greater after = inr (sym worth, after)

-- both
pub ruleset decided_keys = (from_worth, from_places)

-- lists that are the places
pub places_from_points : (a b : Places) (ps qs : List Point) (order : Ordering) → ps ≡ a.xy → qs ≡ b.xy →
    MatchOrdering order (IsListBefore (numbers_of ps) (numbers_of qs)) (ps ≡ qs) (IsListBefore (numbers_of qs) (numbers_of ps)) →
    MatchOrdering order (IsListBefore (numbers_of a.xy) (numbers_of b.xy)) (a ≡ b) (IsListBefore (numbers_of b.xy) (numbers_of a.xy))
places_from_points a b ps qs Less of_a of_b before =
    subst (λ (l : List Point). IsListBefore (numbers_of l) (numbers_of b.xy)) of_a
    (subst (λ (l : List Point). IsListBefore (numbers_of ps) (numbers_of l)) of_b before)
places_from_points a b ps qs Equal of_a of_b same = same_places a b (sym of_a ∙ same ∙ of_b)
places_from_points a b ps qs Greater of_a of_b after =
    subst (λ (l : List Point). IsListBefore (numbers_of b.xy) (numbers_of l)) of_a
    (subst (λ (l : List Point). IsListBefore (numbers_of l) (numbers_of ps)) of_b after)
