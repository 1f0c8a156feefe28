-- The extension that a drawing gives: pair by pair in list order, the least side that holds.
use Rattle.std.specs.Prelude.{◌≡◌, ℕ, ◌<◌, ◌≤◌, ◌⊎◌, List, length, take}
use Rattle.compact_types.specs.declared.places.Places.{Places}
use Rattle.compact_types.specs.declared.search.Choice.{Choice}
use Rattle.compact_types.specs.declared.plan.Shape.{Shape}
use Rattle.compact_types.specs.Orders.{IsPairBefore}
use Rattle.bars.specs.Segments.{IsPair}
use Rattle.bars.specs.Sides.{SideHolds}
use Rattle.bars.specs.Solutions.{IsChoice, choice_at}
use Rattle.shape_graphs.specs.Separation.{IsSeparated}

-- the first j choices are those of pairs before (s, t)
abbrev pub AreBefore : List Choice → ℕ → ℕ → ℕ → Type 0
AreBefore choices j s t =
    (i : ℕ) → i < j → IsPairBefore (choice_at choices i).s (choice_at choices i).t s t

-- the side holds in the places, and no lesser side does
pub record IsLeastSide (shape : Shape) (places : Places) (s t side : ℕ) : Type 0 where
  pub holds : SideHolds shape places s t side
  pub least : (lesser : ℕ) → lesser < side → SideHolds shape places s t lesser → ⊥

-- when its turn came the pair was separated by the choices before it, or it was chosen
pub record IsPairSettled (shape : Shape) (choices : List Choice) (s t j : ℕ) : Type 0 where
  pub turn : j ≤ length choices
  pub before : AreBefore choices j s t
  pub either : IsSeparated shape (take j choices) s t
      ⊎ ((j < length choices) × ((choice_at choices j).s ≡ s) × ((choice_at choices j).t ≡ t))

-- The choices go through the pairs in list order: each pair that the choices before it do not
-- separate is chosen, with the least side that holds in the places, and no other is.
pub record IsExtensionOf (shape : Shape) (places : Places) (choices : List Choice) : Type 0 where
  pub each : (i : ℕ) → i < length choices → IsChoice shape (choice_at choices i)
  pub in_order : (j : ℕ) → j < length choices →
      AreBefore choices j (choice_at choices j).s (choice_at choices j).t
  pub needed : (j : ℕ) → j < length choices →
      IsSeparated shape (take j choices) (choice_at choices j).s (choice_at choices j).t → ⊥
  pub least : (j : ℕ) → j < length choices →
      IsLeastSide shape places (choice_at choices j).s (choice_at choices j).t (choice_at choices j).side
  pub settled : (s t : ℕ) → IsPair shape s t → (j : ℕ) × IsPairSettled shape choices s t j
