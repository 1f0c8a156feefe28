-- Flows whose loads are few enough to be numbered.
use Rattle.std.specs.Prelude.{◌≤◌, length}
use Rattle.compact_types.specs.declared.search.Flows.{Flows}
use Rattle.shape_graphs.specs.declared.graph.TheConstants.{MOST_ARCS}

-- the flows have at most as many amounts as a graph has arcs
pub record HaveFewAmounts (flows : Flows) : Type 0 where
  pub x : length flows.x.amounts ≤ MOST_ARCS
  pub y : length flows.y.amounts ≤ MOST_ARCS
