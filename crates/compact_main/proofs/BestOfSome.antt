-- The best of some drawings of a shape, and of these and others.
use Rattle.std.proofs.Common.{List, length, ◌⊎◌, inl, inr, sym, ◌∙◌, subst}
use Rattle.std.specs.Prelude.{◌≡◌}
use Rattle.compact_types.specs.declared.places.Key.{Key}
use Rattle.compact_types.specs.declared.places.Places.{Places}
use Rattle.compact_types.specs.declared.plan.Shape.{Shape}
use Rattle.compact_types.specs.declared.search.Choice.{Choice}
use Rattle.compact_types.specs.Bests.{total_length, key_of}
use Rattle.compact_types.specs.Drawings.{IsDrawing, IsFromZero}
use Rattle.compact_types.specs.Orders.{IsBefore}
use Rattle.compact_types.proofs.Laws.{before_or_equal, before_trans}
use Rattle.bars.specs.Solutions.{Fit}
use Rattle.shape_graphs.specs.Measures.{IsLeastKey}
use Rattle.shape_graphs.specs.Separation.{IsComplete}

-- the key is the least of some complete choices
pub record IsLeastOfSome (shape : Shape) (key : Key) : Type 0 where
  pub choices : List Choice
  pub fit : Fit shape choices
  pub complete : IsComplete shape choices
  pub least : IsLeastKey total_length shape choices key

-- no drawing from zero that has P comes before the key
abbrev pub NoneBefore : Shape → (Places → Type 0) → Key → Type 0
NoneBefore shape P key =
    (other : Places) → IsDrawing shape other → P other → IsFromZero other → IsBefore (key_of total_length shape other) key → ⊥

-- a key before which no drawing that has P comes, or no drawing has it
abbrev pub HasBest : Shape → (Places → Type 0) → Type 0
HasBest shape P =
    ((key : Key) × IsLeastOfSome shape key × NoneBefore shape P key) ⊎ ((other : Places) → IsDrawing shape other → P other → ⊥)

module _ (shape : Shape) where
  -- of fewer drawings
  pub best_of_fewer : {P Q : Places → Type 0} → ((other : Places) → IsDrawing shape other → Q other → P other) →
      HasBest shape P → HasBest shape Q
  best_of_fewer within (inl (key, some, first)) =
      inl (key, some, λ other drawing q. first other drawing (within other drawing q))
  best_of_fewer within (inr none) = inr (λ other drawing q. none other drawing (within other drawing q))

  -- of drawings that have P, and of those that have Q
  pub best_of_both : {P Q : Places → Type 0} → HasBest shape P → HasBest shape Q → HasBest shape (λ other. P other ⊎ Q other)
  best_of_both {P} {Q} (inl (k, some, first)) (inl (l, some_too, second)) = by_order (before_or_equal k l alike)
    where
      alike : length k.places.xy ≡ length l.places.xy
      alike = some.least.solves.places_fit ∙ sym some_too.least.solves.places_fit

      first_of_both : IsBefore k l → NoneBefore shape (λ other. P other ⊎ Q other) k
      first_of_both before other drawing (inl p) from_zero sooner = first other drawing p from_zero sooner
      first_of_both before other drawing (inr q) from_zero sooner = second other drawing q from_zero (before_trans _ k l sooner before)

      second_of_both : IsBefore l k → NoneBefore shape (λ other. P other ⊎ Q other) l
      second_of_both before other drawing (inl p) from_zero sooner = first other drawing p from_zero (before_trans _ l k sooner before)
      second_of_both before other drawing (inr q) from_zero sooner = second other drawing q from_zero sooner

      either_of_both : k ≡ l → NoneBefore shape (λ other. P other ⊎ Q other) k
      either_of_both same other drawing (inl p) from_zero sooner = first other drawing p from_zero sooner
      either_of_both same other drawing (inr q) from_zero sooner =
          second other drawing q from_zero (subst (λ (key : Key). IsBefore (key_of total_length shape other) key) same sooner)

      by_order : IsBefore k l ⊎ ((k ≡ l) ⊎ IsBefore l k) → HasBest shape (λ other. P other ⊎ Q other)
      by_order (inl before) = inl (k, some, first_of_both before)
      by_order (inr (inl same)) = inl (k, some, either_of_both same)
      by_order (inr (inr after)) = inl (l, some_too, second_of_both after)
  best_of_both {P} {Q} (inl (k, some, first)) (inr none) = inl (k, some, first_alone)
    where
      first_alone : NoneBefore shape (λ other. P other ⊎ Q other) k
      first_alone other drawing (inl p) from_zero sooner = first other drawing p from_zero sooner
      first_alone other drawing (inr q) from_zero sooner = none other drawing q
  best_of_both {P} {Q} (inr none) (inl (l, some, second)) = inl (l, some, second_alone)
    where
      second_alone : NoneBefore shape (λ other. P other ⊎ Q other) l
      second_alone other drawing (inl p) from_zero sooner = none other drawing p
      second_alone other drawing (inr q) from_zero sooner = second other drawing q from_zero sooner
  best_of_both {P} {Q} (inr none) (inr none_too) = inr neither
    where
      neither : (other : Places) → IsDrawing shape other → P other ⊎ Q other → ⊥
      neither other drawing (inl p) = none other drawing p
      neither other drawing (inr q) = none_too other drawing q
