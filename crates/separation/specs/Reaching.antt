-- The rows of the two graphs of an extension, and which sides of a pair are open.
use Rattle.std.specs.Prelude.{◌≡◌, ◌↔◌, ℕ, ◌<◌, ◌⊎◌, Bool, false, true, List, length, slice_index_or}
use Rattle.std.specs.List.{count_by}
use Rattle.compact_types.specs.declared.places.Axis.TheVariants.{X, Y}
use Rattle.compact_types.specs.declared.search.Choice.{Choice}
use Rattle.compact_types.specs.declared.plan.Shape.{Shape}
use Rattle.bars.specs.Segments.{node_count}
use Rattle.bars.specs.Sides.{side_axis}
use Rattle.bars.specs.Solutions.{Fit}
use Rattle.shape_graphs.specs.Graphs.{side_arc, arcs_of}
use Rattle.shape_graphs.specs.Paths.{HasPath}
use Rattle.reach_rows.specs.Reaching.{AreRowsOf}
use Rattle.separation.specs.declared.sides.Reach.{Reach}

-- the rows are those of the two graphs of the choices
pub record IsReachOf (shape : Shape) (choices : List Choice) (reach : Reach) : Type 0 where
  pub x : AreRowsOf reach.x (node_count X shape) (arcs_of X shape choices)
  pub y : AreRowsOf reach.y (node_count Y shape) (arcs_of Y shape choices)

-- the rows are those of the two graphs of some extension of the shape
abbrev pub IsReach : Shape → Reach → Type 0
IsReach shape reach = (choices : List Choice) × Fit shape choices × IsReachOf shape choices reach

-- the arc of the side would close a cycle: it is a loop, or a path leads from its end to its beginning
abbrev pub ClosesCycle : Shape → List Choice → ℕ → ℕ → ℕ → Type 0
ClosesCycle shape choices s t side =
    ((side_arc shape s t side).to ≡ (side_arc shape s t side).from)
    ⊎ HasPath (arcs_of (side_axis side) shape choices) (side_arc shape s t side).to (side_arc shape s t side).from

-- the side is open: its arc closes no cycle
abbrev pub IsSideOpen : Shape → List Choice → ℕ → ℕ → ℕ → Type 0
IsSideOpen shape choices s t side = ClosesCycle shape choices s t side → ⊥

-- the flags say which of the four sides are open
pub record AreOpenSides (shape : Shape) (choices : List Choice) (s t : ℕ) (flags : List Bool) : Type 0 where
  pub four : length flags ≡ 4
  pub each : (side : ℕ) → side < 4 → (slice_index_or flags side false ≡ true) ↔ IsSideOpen shape choices s t side

-- so many of the four sides are open
abbrev pub HasOpenSides : Shape → List Choice → ℕ → ℕ → ℕ → Type 0
HasOpenSides shape choices s t n =
    (flags : List Bool) × AreOpenSides shape choices s t flags × (count_by (λ (flag : Bool). flag) flags ≡ n)
