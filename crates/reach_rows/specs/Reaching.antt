-- The rows of a graph.
use Rattle.std.specs.Prelude.{◌≡◌, ℕ, List}
use Rattle.shape_graphs.specs.declared.graph.Arc.{Arc}
use Rattle.reach_rows.specs.Bits.{AreBitsOf}
use Rattle.reach_rows.specs.declared.rows.ReachRows.{ReachRows}

-- the rows are those of a graph: they say of which nodes a path leads to which
pub record AreRowsOf (rows : ReachRows) (nodes : ℕ) (arcs : List Arc) : Type 0 where
  pub nodes_of : rows.nodes ≡ nodes
  pub paths : AreBitsOf rows.words rows.bits.items nodes arcs
