-- The choices of the pairs before one.
use Rattle.std.specs.Prelude.{◌≡◌, ℕ, ◌<◌, List, length, take, int_lt, if◌then◌else◌}
use Rattle.compact_types.specs.declared.places.Places.{Places}
use Rattle.compact_types.specs.declared.search.Choice.{Choice}
use Rattle.compact_types.specs.declared.plan.Shape.{Shape}
use Rattle.compact_types.specs.Drawings.{IsDrawing}
use Rattle.compact_types.specs.Orders.{IsPairBefore}
use Rattle.bars.specs.Segments.{IsPair}
use Rattle.bars.specs.Solutions.{IsChoice, choice_at}
use Rattle.shape_graphs.specs.Separation.{IsSeparated}
use Rattle.separation.specs.declared.extents.SegmentExtent.{SegmentExtent}
use Rattle.separation.specs.declared.sides.Reach.{Reach}
use Rattle.separation.specs.Extensions.{AreBefore, IsLeastSide, IsPairSettled}
use Rattle.separation.specs.Reaching.{IsReachOf}
use Rattle.separation.specs.inner.Extents.{extent_at, AreExtents}

-- the choices are those of the pairs before (s, t), and the rows are those of their graphs
pub record AreChosen (shape : Shape) (reach : Reach) (choices : List Choice) (s t : ℕ) : Type 0 where
  pub reach_of : IsReachOf shape choices reach
  pub each : (i : ℕ) → i < length choices → IsChoice shape (choice_at choices i)
  pub earlier : AreBefore choices (length choices) s t
  pub in_order : (j : ℕ) → j < length choices →
      AreBefore choices j (choice_at choices j).s (choice_at choices j).t
  pub needed : (j : ℕ) → j < length choices →
      IsSeparated shape (take j choices) (choice_at choices j).s (choice_at choices j).t → ⊥
  pub settled : (u v : ℕ) → IsPair shape u v → IsPairBefore u v s t →
      (j : ℕ) × IsPairSettled shape choices u v j

-- each choice has the least side that holds in the places
abbrev pub AreLeast : Shape → Places → List Choice → Type 0
AreLeast shape places choices =
    (j : ℕ) → j < length choices →
    IsLeastSide shape places (choice_at choices j).s (choice_at choices j).t (choice_at choices j).side

-- the least side that keeps two extents apart, and 3 where no lesser does
abbrev pub least_side : SegmentExtent → SegmentExtent → ℕ
least_side a b =
    if int_lt a.right b.left then 0
    else (if int_lt b.right a.left then 1 else (if int_lt a.high b.low then 2 else 3))

-- how far the choices of a drawing's pairs have come, from some given choices on
pub record AreChosenSince (shape : Shape) (extents : List SegmentExtent) (reach : Reach) (since choices : List Choice) (s t : ℕ) : Type 0 where
  pub chosen : AreChosen shape reach choices s t
  pub least : (places : Places) → IsDrawing shape places → AreExtents shape places extents →
      ((k : ℕ) → k < length extents → (extent_at extents k).segment ≡ k) →
      AreLeast shape places since → AreLeast shape places choices
