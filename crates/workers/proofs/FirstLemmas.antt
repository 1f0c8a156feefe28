-- The first incumbent: why there is a least key, and why it is that of a drawing.
use Rattle.std.proofs.Common.{◌≡◌, ℤ, List, subst, arith}
use Rattle.std.proofs.lemmas.Int.{ints}
use Rattle.compact_types.specs.declared.places.Axis.{Axis}
use Rattle.compact_types.specs.declared.places.Key.{Key}
use Rattle.compact_types.specs.declared.places.Places.{Places}
use Rattle.compact_types.specs.declared.plan.Shape.{Shape}
use Rattle.compact_types.specs.declared.search.Choice.{Choice}
use Rattle.compact_types.specs.Bests.{Objective, worth_of}
use Rattle.compact_types.specs.Drawings.{IsDrawing}
use Rattle.bars.specs.Solutions.{Fit, Solves}
use Rattle.shape_graphs.specs.declared.graph.Cycle.{Cycle}
use Rattle.shape_graphs.specs.declared.measure.Verdict.{Verdict}
use Rattle.shape_graphs.specs.declared.measure.Verdict.TheVariants.{Cyclic, Above}
use Rattle.shape_graphs.specs.Graphs.{arcs_of}
use Rattle.shape_graphs.specs.Measures.{IsAsked, IsBoundAbove, IsFirstCyclic, IsLeastKey, IsRight}
use Rattle.shape_graphs.specs.Separation.{IsComplete}
use Rattle.shape_graphs.proofs.Laws.{cycle_is_one, no_cycle_where_solved}
use Rattle.separation.proofs.Laws.{drawn_from_complete}
use Rattle.board.specs.Facts.{IsDrawnKey}

module _ (objective : Objective) (shape : Shape) (choices : List Choice) (places : Places) (drawing : IsDrawing shape places) (fit : Fit shape choices) (solves : Solves shape choices places) where
  -- choices that a drawing solves have no cycle
  pub never_cyclic : {P : Type 0} (verdict : Verdict P) (axis : Axis) (cycle : Cycle) → IsRight objective shape choices verdict → verdict ≡ Cyclic axis cycle → ⊥
  never_cyclic {P} verdict axis cycle right is =
      let first : IsFirstCyclic shape choices axis cycle.arcs = subst (λ (v : Verdict P). IsRight objective shape choices v) is right in
      no_cycle_where_solved shape choices (places, drawing) fit places solves axis (cycle_is_one (arcs_of axis shape choices) cycle.arcs first.cycle)

  -- no bound of theirs is above the worth of a solution
  pub never_above : {P : Type 0} (verdict : Verdict P) (bound stop : ℤ) (proof : P) → IsRight objective shape choices verdict →
      IsAsked (worth_of objective shape places) verdict → verdict ≡ Above bound stop proof → ⊥
  never_above {P} verdict bound stop proof right asked is =
      let above : IsBoundAbove objective shape choices bound stop = subst (λ (v : Verdict P). IsRight objective shape choices v) is right in
      let same : stop ≡ worth_of objective shape places = subst (λ (v : Verdict P). IsAsked (worth_of objective shape places) v) is asked in
      let low = above.none_less places solves in
      let high = above.above in
      omega (arith, ints, same, low, high)

-- the least key of complete choices is that of a drawing from zero
pub drawn_from_least : (objective : Objective) (shape : Shape) (choices : List Choice) (places : Places) (key : Key) → IsDrawing shape places →
    Fit shape choices → IsComplete shape choices → IsLeastKey objective shape choices key → IsDrawnKey objective shape key
drawn_from_least objective shape choices places key drawing fit complete least = record {
  drawing = drawn_from_complete shape choices key.places (places, drawing) fit least.solves complete;
  from_zero = least.from_zero;
  worth = least.worth;
}
