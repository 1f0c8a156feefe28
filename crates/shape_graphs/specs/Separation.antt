-- Which pairs of segments the graphs of a list of choices keep apart (Klau and Mutzel's separated
-- segments and complete extensions).
use Rattle.std.specs.Prelude.{ℕ, ◌<◌, List}
use Rattle.compact_types.specs.declared.search.Choice.{Choice}
use Rattle.compact_types.specs.declared.plan.Shape.{Shape}
use Rattle.bars.specs.Segments.{IsPair}
use Rattle.bars.specs.Sides.{side_axis}
use Rattle.shape_graphs.specs.Paths.{HasPath}
use Rattle.shape_graphs.specs.Graphs.{side_arc, arcs_of}

-- a path leads already where the arc of this side would
abbrev pub HasSidePath : Shape → List Choice → ℕ → ℕ → ℕ → Type 0
HasSidePath shape choices s t side =
    HasPath (arcs_of (side_axis side) shape choices) (side_arc shape s t side).from (side_arc shape s t side).to

-- one of the four sides is kept
abbrev pub IsSeparated : Shape → List Choice → ℕ → ℕ → Type 0
IsSeparated shape choices s t = (side : ℕ) × (side < 4) × HasSidePath shape choices s t side

-- every pair without a common vertex is separated
abbrev pub IsComplete : Shape → List Choice → Type 0
IsComplete shape choices = (s t : ℕ) → IsPair shape s t → IsSeparated shape choices s t
