-- Rows and columns: vertices joined by pieces along an axis are in one line along it. A row is a
-- line along X, a column a line along Y.
use Rattle.std.specs.Prelude.{ℕ, zero, suc, Bool, true, false, ◌==◌, length, if◌then◌else◌}
use Rattle.compact_types.specs.declared.places.Axis.{Axis}
use Rattle.compact_types.specs.declared.places.Axis.TheVariants.{X, Y}
use Rattle.compact_types.specs.declared.plan.Shape.{Shape}
use Rattle.compact_types.specs.Groups.{merged}
use Rattle.compact_types.specs.Lookups.{piece_at, way_at, axis_of}

abbrev pub is_axis : Axis → Axis → Bool
is_axis X X = true
is_axis X Y = false
is_axis Y X = false
is_axis Y Y = true

-- whether the piece goes along the axis
abbrev pub is_along : Axis → Shape → ℕ → Bool
is_along axis shape i = is_axis (axis_of (way_at shape.ways i)) axis

-- the least vertex that the first n pieces join with v along the axis: a piece makes one line of the
-- lines of its ends, whose least vertex is the lesser of theirs
unfoldable pub least_by : Axis → Shape → ℕ → ℕ → ℕ
least_by axis shape zero v = v
least_by axis shape (suc n) v =
    if is_along axis shape n
    then merged (least_by axis shape n) (piece_at shape.plan.pieces n).from (piece_at shape.plan.pieces n).to v
    else least_by axis shape n v

-- the least vertex in the line of v along the axis
abbrev pub least_in_line : Axis → Shape → ℕ → ℕ
least_in_line axis shape v = least_by axis shape (length shape.plan.pieces) v

-- how many of the numbers below n pass the test
abbrev pub count_to : (ℕ → Bool) → ℕ → ℕ
count_to test zero = zero
count_to test (suc n) = if test n then suc (count_to test n) else count_to test n

-- whether the vertex is the least of its line
abbrev pub is_least : Axis → Shape → ℕ → Bool
is_least axis shape v = least_in_line axis shape v == v

-- how many lines there are along the axis: rows for X, columns for Y
abbrev pub line_count : Axis → Shape → ℕ
line_count axis shape = count_to (is_least axis shape) shape.plan.vertices

-- the number of the line of v along the axis: lines are numbered in the order of their least vertices
abbrev pub line_of : Axis → Shape → ℕ → ℕ
line_of axis shape v = count_to (is_least axis shape) (least_in_line axis shape v)

abbrev pub row_of : Shape → ℕ → ℕ
row_of shape v = line_of X shape v

abbrev pub column_of : Shape → ℕ → ℕ
column_of shape v = line_of Y shape v
