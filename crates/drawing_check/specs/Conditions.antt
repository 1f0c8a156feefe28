-- What both checks ask of their caller.
use Rattle.std.specs.Prelude.{◌≡◌, ◌<◌, ◌≤◌, length}
use Rattle.compact_types.specs.declared.limits.TheConstants.{MOST_PIECES, GREATEST_THOUSANDTHS}
use Rattle.compact_types.specs.declared.places.Places.{Places}
use Rattle.compact_types.specs.declared.plan.Plan.{Plan}
use Rattle.compact_types.specs.Magnitudes.{AreWithin}

-- a point for each vertex and at least one, few pieces, and no coordinate far out
pub record CanCheck (plan : Plan) (places : Places) : Type 0 where
  pub places_fit : length places.xy ≡ plan.vertices
  pub some_vertex : 0 < plan.vertices
  pub few_pieces : length plan.pieces ≤ MOST_PIECES
  pub within_reach : AreWithin GREATEST_THOUSANDTHS places
