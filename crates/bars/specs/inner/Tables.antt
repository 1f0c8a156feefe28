-- What the tables of rows, columns and segments hold.
use Rattle.std.specs.Prelude.{◌≡◌, ℕ, ◌<◌, List, length, slice_index}
use Rattle.compact_types.specs.declared.places.Axis.{Axis}
use Rattle.compact_types.specs.declared.plan.Shape.{Shape}
use Rattle.bars.specs.declared.lines.Lines.{Lines}
use Rattle.bars.specs.Lines.{line_of, line_count, count_to, is_least}

-- the number of the line of each vertex, and how many lines there are
pub record AreLines (axis : Axis) (shape : Shape) (lines : Lines) : Type 0 where
  pub one_for_each : length lines.of.items ≡ shape.plan.vertices
  pub each : (v : ℕ) → v < shape.plan.vertices → slice_index lines.of.items v ≡ line_of axis shape v
  pub count : lines.count ≡ line_count axis shape

-- the same for the vertices below n: their lines, and how many lines begin among them
pub record AreNumbered (axis : Axis) (shape : Shape) (n : ℕ) (numbers : List ℕ) (count : ℕ) : Type 0 where
  pub one_for_each : length numbers ≡ n
  pub each : (v : ℕ) → v < n → slice_index numbers v ≡ line_of axis shape v
  pub counted : count ≡ count_to (is_least axis shape) n
