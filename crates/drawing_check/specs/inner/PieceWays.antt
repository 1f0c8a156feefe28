-- The ways of the pieces of a plan, as a list.
use Rattle.std.specs.Prelude.{◌≡◌, ℕ, ◌<◌, List, length}
use Rattle.compact_types.specs.declared.places.Places.{Places}
use Rattle.compact_types.specs.declared.plan.Plan.{Plan}
use Rattle.compact_types.specs.declared.plan.Way.{Way}
use Rattle.compact_types.specs.Lookups.{way_at}
use Rattle.compact_types.specs.Ways.{HasWay}
use Rattle.compact_types.specs.Drawings.{begin_of, end_of}

-- these are the ways of the pieces, one for each
pub record AreWays (plan : Plan) (places : Places) (ways : List Way) : Type 0 where
  pub one_for_each : length ways ≡ length plan.pieces
  pub each : (i : ℕ) → i < length plan.pieces →
      HasWay (way_at ways i) (begin_of plan places i) (end_of plan places i)
