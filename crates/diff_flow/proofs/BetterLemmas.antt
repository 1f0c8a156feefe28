-- A best flow beside one that it shows not to be best.
use Rattle.std.proofs.Common.{◌≡◌, ℕ, ◌<◌, ℤ, pos, List, length, refl, ap, ◌∙◌, arith}
use Rattle.std.specs.Prelude.{◌+ℤ◌, ◌≤ℤ◌}
use Rattle.std.proofs.lemmas.Int.{ints}
use Rattle.shape_graphs.specs.declared.graph.DiffGraph.{DiffGraph}
use Rattle.shape_graphs.specs.Arcs.{arc_at}
use Rattle.shape_graphs.specs.Flows.{Balances, bound_of, IsBestFlow, IsTight}
use Rattle.diff_flow.specs.declared.steps.Steps.{Steps}
use Rattle.diff_flow.specs.declared.better.Better.{Better}
use Rattle.diff_flow.specs.Improving.{IsBestByNumbers, IsShownBest}
use Rattle.diff_flow.specs.Tight.{AreTight}
use Rattle.diff_flow.specs.inner.Bettering.{IsBetter}
use Rattle.diff_flow.specs.inner.Steps.{along_at, AreStepsOf, AreMet}
use Rattle.diff_flow.specs.inner.Numbers.{height}
use Rattle.diff_flow.proofs.Duality.{bound_below, tight_where_equal, equal_where_tight, best_by_tight}
use Rattle.diff_flow.proofs.TightLemmas.{tight_where_met}
use Rattle.diff_flow.proofs.BestLemmas.{best_by_numbers}

-- numbers prove the flow best
pub best_by : (graph : DiffGraph) (amounts : List ℕ) → IsBestByNumbers graph.nodes graph.arcs amounts → IsBestFlow graph.nodes graph.arcs amounts
best_by graph amounts is =
    best_by_tight graph.nodes graph.arcs amounts is.tight.0 graph.ends is.balances is.tight.1.solution is.tight.1.tight

pub shown_by : (graph : DiffGraph) (amounts : List ℕ) → IsBestByNumbers graph.nodes graph.arcs amounts → IsShownBest graph.nodes graph.arcs amounts amounts
shown_by graph amounts is = record { same = refl; best = best_by graph amounts is; tight = is.tight }

-- numbers that meet the open steps of a balanced flow prove it best
pub best_where_met : (graph : DiffGraph) (steps : Steps) (amounts : List ℕ) (h : ℕ → ℕ) → AreStepsOf graph.arcs steps.list.items →
    Balances graph.nodes graph.arcs amounts → AreMet steps.list.items amounts h → IsBestByNumbers graph.nodes graph.arcs amounts
best_where_met graph steps amounts h are balances met =
    best_by_numbers graph.nodes graph.arcs steps.list.items amounts amounts h graph.ends graph.within graph.few are balances
    balances.one_for_each (λ v inside. refl) met

module _ (graph : DiffGraph) (steps : Steps) (amounts : List ℕ) (better : Better) (are : AreStepsOf graph.arcs steps.list.items)
    (arcs : steps.arcs ≡ length graph.arcs) (balances : Balances graph.nodes graph.arcs amounts) (is : IsBetter graph steps amounts better) where
  tight : AreTight graph.nodes graph.arcs better.flow.amounts (λ v. pos (height better.numbers.items v))
  tight = tight_where_met graph.nodes graph.arcs steps.list.items better.flow.amounts graph.ends are graph.within (height better.numbers.items) is.met

  -- the flow is not tight for the numbers
  not_just : IsTight graph.arcs amounts (λ v. pos (height better.numbers.items v)) → ⊥
  not_just just =
      let i_in : better.slack < length graph.arcs = omega (arith, is.slack.inside, arcs) in
      let here = just better.slack i_in is.slack.some in
      let step = are.along better.slack i_in in
      let from : height better.numbers.items (along_at steps.list.items better.slack).from ≡ height better.numbers.items (arc_at graph.arcs better.slack).from =
      ap (height better.numbers.items) step.from in
      let to : height better.numbers.items (along_at steps.list.items better.slack).to ≡ height better.numbers.items (arc_at graph.arcs better.slack).to =
      ap (height better.numbers.items) step.to in
      omega (arith, ints, here, from, to, step.up, is.slack.more)

  not_more : bound_of graph.arcs amounts ≤ℤ bound_of graph.arcs better.flow.amounts
  not_more =
      let p = λ (v : ℕ). pos (height better.numbers.items v) in
      let below = bound_below graph.nodes graph.arcs amounts p graph.ends balances tight.solution in
      let equal = equal_where_tight graph.nodes graph.arcs better.flow.amounts p graph.ends is.best.balances tight.tight in
      omega (arith, ints, below, equal)

  not_equal : bound_of graph.arcs amounts ≡ bound_of graph.arcs better.flow.amounts → ⊥
  not_equal same =
      let p = λ (v : ℕ). pos (height better.numbers.items v) in
      let equal = equal_where_tight graph.nodes graph.arcs better.flow.amounts p graph.ends is.best.balances tight.tight in
      not_just (tight_where_equal graph.nodes graph.arcs amounts p graph.ends balances tight.solution (same ∙ equal))

  -- so its bound is less
  pub better_is_higher : (bound_of graph.arcs amounts +ℤ pos 1) ≤ℤ bound_of graph.arcs better.flow.amounts
  better_is_higher = strict (bound_of graph.arcs amounts) (bound_of graph.arcs better.flow.amounts) not_more not_equal
    where
      strict : (a b : ℤ) → a ≤ℤ b → (a ≡ b → ⊥) → (a +ℤ pos 1) ≤ℤ b
      strict a b le apart = omega (arith, ints, le, apart)

  -- and it is not best
  pub better_not_best : IsBestFlow graph.nodes graph.arcs amounts → ⊥
  better_not_best best =
      let most = best.best better.flow.amounts is.best.balances in
      omega (arith, ints, most, better_is_higher)
