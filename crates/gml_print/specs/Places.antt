-- The tree of a drawing with new places of its vertices.
use Rattle.std.specs.Prelude.{◌≡◌, ℕ, ◌≤◌, ℤ, pos, ◌*ℤ◌, List, [], ◌∷◌, length, map}
use Rattle.compact_types.specs.declared.places.Point.{Point}
use Rattle.compact_types.specs.declared.places.Places.{Places}
use Rattle.compact_types.specs.Lookups.{place, along}
use Rattle.compact_types.specs.Magnitudes.{AreWithin, IsNowhereNegative}
use Rattle.compact_types.specs.declared.limits.TheConstants.{GREATEST_PLACE, MOST_PITCH, THOUSANDTHS}
use Rattle.gml_text.specs.declared.tree.Tree.{Tree}
use Rattle.gml_text.specs.declared.tree.Value.{Value}
use Rattle.gml_text.specs.declared.tree.Value.TheVariants.{Whole}
use Rattle.drawing_read.specs.declared.reading.Reading.{Reading}
use Rattle.drawing_read.specs.declared.reading.Spot.{Spot}
use Rattle.drawing_read.specs.Readings.{IsReading}
use Rattle.gml_print.specs.Numbers.{number_text}
use Rattle.gml_print.specs.Placing.{put_value}

-- the coordinate of a spot: that of its vertex along its axis
abbrev pub coordinate_at : Places → Spot → ℤ
coordinate_at places spot = along spot.axis (place places.xy spot.vertex)

-- the whole numeral of so many times the coordinate of a spot
abbrev pub numeral_for : Places → ℕ → Spot → Value
numeral_for places pitch spot = Whole (number_text (pos pitch *ℤ coordinate_at places spot))

-- the tree with that numeral in place of the value at each spot's path
abbrev pub placed : Tree → List Spot → Places → ℕ → Tree
placed tree [] places pitch = tree
placed tree (spot ∷ spots) places pitch =
    placed (put_value spot.path (numeral_for places pitch spot) tree) spots places pitch

-- the places can be written into the tree of this reading, with so many units between neighbours
pub record CanPut (tree : Tree) (reading : Reading) (places : Places) (pitch : ℕ) : Type 0 where
  pub read : IsReading tree reading
  pub one_for_each : length places.xy ≡ reading.plan.vertices
  pub not_below : IsNowhereNegative places
  pub within : AreWithin GREATEST_PLACE places
  pub some_pitch : 1 ≤ pitch
  pub most_pitch : pitch ≤ MOST_PITCH

-- a place in thousandths, with so many units between neighbours
abbrev pub in_thousandths : ℕ → Point → Point
in_thousandths pitch point =
    record { x = THOUSANDTHS *ℤ pos pitch *ℤ point.x; y = THOUSANDTHS *ℤ pos pitch *ℤ point.y }

-- the reading with these places of its vertices: the same plan and the same spots
abbrev pub moved_reading : Reading → Places → ℕ → Reading
moved_reading reading places pitch = record {
  plan = reading.plan;
  places = record { xy = map (in_thousandths pitch) places.xy };
  spots = reading.spots;
}
