-- The sample drawing of a number n: a spine of n nodes, an arm at each of them, and a hook at every
-- 25th arm. Places are in grid steps.
use Rattle.std.specs.Prelude.{◌≡◌, ℕ, zero, suc, ◌+◌, ◌-◌, ◌*◌, ◌/◌, ◌<◌, ℤ, pos, ◌≤ℤ◌, List, ◌++◌}
use Rattle.std.specs.Prelude.{length, slice_index_or, nat_lt, if◌then◌else◌, codes, decimal}
use Rattle.std.specs.Fmt.{signed_decimal}
use Rattle.std.specs.Int.{int_max}
use Rattle.compact_types.specs.declared.places.Axis.{Axis}
use Rattle.compact_types.specs.declared.places.Axis.TheVariants.{X, Y}
use Rattle.compact_types.specs.declared.places.Point.{Point}
use Rattle.compact_types.specs.declared.places.Places.{Places}
use Rattle.compact_types.specs.declared.plan.Piece.{Piece}
use Rattle.compact_types.specs.declared.plan.Plan.{Plan}
use Rattle.compact_types.specs.declared.plan.Shape.{Shape}
use Rattle.compact_types.specs.declared.plan.Way.{Way}
use Rattle.compact_types.specs.declared.plan.Way.TheVariants.{East, High}
use Rattle.compact_types.specs.Bests.{total_length, IsBest, worth_of}
use Rattle.compact_types.specs.Lookups.{origin, no_piece, place, along}
use Rattle.drawing_check.specs.Shapes.{IsShapeOf}
use Rattle.cert_text.specs.declared.tree.CertNode.{CertNode}
use Rattle.cert_text.specs.declared.trimming.TheConstants.{MOST_SPLITS}
use Rattle.cert_text.specs.Accepting.{Accepts}
use Rattle.cert_text.specs.Trees.{IsShallow}
use Rattle.compact_main.specs.declared.sample.TheConstants.{HOOK_SPACING}
use Rattle.compact_main.specs.Summaries.{number_line}

-- how many hooks there are: the number by the spacing, rounded up
abbrev pub hooks_of : ℕ → ℕ
hooks_of number = (number + (HOOK_SPACING - 1)) / HOOK_SPACING

-- the arm that has the hook j: the first, and each 25th after it
abbrev pub hooked : ℕ → ℕ
hooked j = HOOK_SPACING * j

-- the vertices: the nodes of the spine, which have the numbers i from 0, then the end of the arm at
-- each of them, then the end of each hook
abbrev pub arm_node : ℕ → ℕ → ℕ
arm_node number i = number + i

abbrev pub hook_node : ℕ → ℕ → ℕ
hook_node number j = 2 * number + j

abbrev pub sample_vertices : ℕ → ℕ
sample_vertices number = 2 * number + hooks_of number

-- their places: the spine goes up, two steps from node to node, an arm one step east, and a
-- hook one step up from the end of its arm
abbrev pub grid_point : ℕ → ℕ → Point
grid_point x y = record { x = pos x; y = pos y }

abbrev pub spine_place : ℕ → Point
spine_place i = grid_point 0 (2 * i)

abbrev pub arm_place : ℕ → Point
arm_place i = grid_point 1 (2 * i)

abbrev pub hook_place : ℕ → Point
hook_place j = grid_point 1 (2 * hooked j + 1)

abbrev pub sample_place : ℕ → ℕ → Point
sample_place number vertex =
    if nat_lt vertex number then spine_place vertex
    else (if nat_lt vertex (2 * number) then arm_place (vertex - number)
    else hook_place (vertex - 2 * number))

-- the pieces: those of the spine, from node to node, then the arms, then the hooks
abbrev pub spine_piece : ℕ → Piece
spine_piece i = record { from = i; to = i + 1 }

abbrev pub arm_piece : ℕ → ℕ → Piece
arm_piece number i = record { from = i; to = arm_node number i }

abbrev pub hook_piece : ℕ → ℕ → Piece
hook_piece number j = record { from = arm_node number (hooked j); to = hook_node number j }

abbrev pub sample_pieces : ℕ → ℕ
sample_pieces number = (number - 1) + number + hooks_of number

abbrev pub sample_piece : ℕ → ℕ → Piece
sample_piece number index =
    if nat_lt index (number - 1) then spine_piece index
    else (if nat_lt index (2 * number - 1) then arm_piece number (index - (number - 1))
    else hook_piece number (index - (2 * number - 1)))

-- the way of each: only arms go east
abbrev pub sample_way : ℕ → ℕ → Way
sample_way number index =
    if nat_lt index (number - 1) then High
    else (if nat_lt index (2 * number - 1) then East
    else High)

-- the list is f 0, .., f (n - 1) and no more; a look-up past its end gives the absent value
pub record IsTable {T : Type 0} (absent : T) (f : ℕ → T) (n : ℕ) (list : List T) : Type 0 where
  pub long : length list ≡ n
  pub each : (i : ℕ) → i < n → slice_index_or list i absent ≡ f i

-- the plan has exactly these vertices and pieces, and the places are exactly these
pub record IsSample (number : ℕ) (plan : Plan) (places : Places) : Type 0 where
  pub vertices : plan.vertices ≡ sample_vertices number
  pub pieces : IsTable no_piece (sample_piece number) (sample_pieces number) plan.pieces
  pub points : IsTable origin (sample_place number) (sample_vertices number) places.xy

-- the greatest of f 0, .., f n
abbrev pub greatest_to : (ℕ → ℤ) → ℕ → ℤ
greatest_to f zero = f 0
greatest_to f (suc n) = int_max (greatest_to f n) (f (suc n))

-- the greatest coordinate along the axis: the width or the height of a drawing from zero
abbrev pub greatest_along : Axis → Places → ℤ
greatest_along axis places =
    greatest_to (λ v. along axis (place places.xy v)) (length places.xy - 1)

-- one vertex has this coordinate along the axis, and none has a greater one
pub record IsGreatest (axis : Axis) (places : Places) (greatest : ℤ) : Type 0 where
  pub reached : (v : ℕ) × (v < length places.xy) × (along axis (place places.xy v) ≡ greatest)
  pub none_above : (v : ℕ) → v < length places.xy → (along axis (place places.xy v)) ≤ℤ greatest

-- what is told of the sample: its size, and the length, the width and the height of its best
-- drawing
abbrev pub sample_text : ℕ → Plan → ℤ → ℤ → ℤ → List ℕ
sample_text number plan total width height =
    number_line (codes "sample") (decimal number)
    ++ number_line (codes "vertices") (decimal plan.vertices)
    ++ number_line (codes "pieces") (decimal (length plan.pieces))
    ++ number_line (codes "length") (signed_decimal total)
    ++ number_line (codes "width") (signed_decimal width)
    ++ number_line (codes "height") (signed_decimal height)
    ++ codes "proved\n"

-- what is told of the sample drawing of a number, of which there are best places and a certificate
-- that shows by itself that they are: it is accepted, and no entry lies under too many splits
pub record IsSampleOutput (number : ℕ) (written : List ℕ) : Type 0 where
  pub shape : Shape
  pub places : Places
  pub sample : IsSample number shape.plan places
  pub drawing : IsShapeOf shape.plan places shape
  pub best_places : Places
  pub best : IsBest total_length shape best_places
  pub nodes : List CertNode
  pub accepted : Accepts shape best_places nodes
  pub shallow : IsShallow MOST_SPLITS nodes
  pub told : written ≡ sample_text number shape.plan (worth_of total_length shape best_places)
      (greatest_along X best_places) (greatest_along Y best_places)
