-- The shape that a plan and its places give.
use Rattle.std.specs.Prelude.{◌≡◌}
use Rattle.compact_types.specs.declared.places.Places.{Places}
use Rattle.compact_types.specs.declared.plan.Plan.{Plan}
use Rattle.compact_types.specs.declared.plan.Shape.{Shape}
use Rattle.compact_types.specs.Connected.{IsConnected}
use Rattle.compact_types.specs.Drawings.{IsCrossingFree}

-- the plan is connected, and the places are crossing-free for the shape, whose plan it is
pub record IsShapeOf (plan : Plan) (places : Places) (shape : Shape) : Type 0 where
  pub same_plan : shape.plan ≡ plan
  pub connected : IsConnected plan
  pub crossing_free : IsCrossingFree shape places
