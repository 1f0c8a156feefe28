-- Vertices that lead down to the least of their line.
use Rattle.std.specs.Prelude.{◌≡◌, ℕ, List, length}
use Rattle.compact_types.specs.declared.places.Axis.{Axis}
use Rattle.compact_types.specs.declared.plan.Shape.{Shape}
use Rattle.compact_types.specs.Groups.{GoDown, IsLabelling}
use Rattle.bars.specs.Lines.{least_by}

-- each leads down to the least vertex that the first n pieces join with it along the axis
pub record AreLeads (axis : Axis) (shape : Shape) (n : ℕ) (leads : List ℕ) : Type 0 where
  pub one_for_each : length leads ≡ shape.plan.vertices
  pub down : GoDown leads
  pub labelling : IsLabelling leads (least_by axis shape n)
