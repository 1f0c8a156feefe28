-- The first incumbent of a search.
use Rattle.std.specs.Prelude.{List}
use Rattle.compact_types.specs.declared.places.Key.{Key}
use Rattle.compact_types.specs.declared.places.Places.{Places}
use Rattle.compact_types.specs.declared.plan.Shape.{Shape}
use Rattle.compact_types.specs.declared.search.Choice.{Choice}
use Rattle.compact_types.specs.Bests.{Objective}
use Rattle.shape_graphs.specs.Measures.{IsLeastKey}
use Rattle.separation.specs.Extensions.{IsExtensionOf}

-- the key is the least one of the extension that the drawing gives
pub record IsFirstKey
    (objective : Objective) (shape : Shape) (places : Places) (key : Key) : Type 0 where
  pub choices : List Choice
  pub extension : IsExtensionOf shape places choices
  pub least : IsLeastKey objective shape choices key
