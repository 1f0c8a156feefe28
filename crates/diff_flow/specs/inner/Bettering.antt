-- What is found where a flow is not best.
use Rattle.std.specs.Prelude.{◌≡◌, ℕ, ◌^◌, ◌<◌, ◌≤◌, List, length}
use Rattle.shape_graphs.specs.declared.graph.DiffGraph.{DiffGraph}
use Rattle.diff_flow.specs.declared.steps.Steps.{Steps}
use Rattle.diff_flow.specs.declared.better.Better.{Better}
use Rattle.diff_flow.specs.Improving.{IsBestByNumbers}
use Rattle.diff_flow.specs.inner.Steps.{AreMet}
use Rattle.diff_flow.specs.inner.Numbers.{height}
use Rattle.diff_flow.specs.inner.Routing.{IsSlack}

-- a best flow, numbers that are tight for it, and an arc where they show that the other is not best
pub record IsBetter (graph : DiffGraph) (steps : Steps) (amounts : List ℕ)
    (better : Better) : Type 0 where
  pub best : IsBestByNumbers graph.nodes graph.arcs better.flow.amounts
  pub one_for_each : length better.numbers.items ≡ steps.nodes
  pub low : (v : ℕ) → v < steps.nodes → height better.numbers.items v ≤ 2 ^ 60
  pub met : AreMet steps.list.items better.flow.amounts (height better.numbers.items)
  pub slack : IsSlack steps.arcs steps.list.items amounts better.numbers.items better.slack
