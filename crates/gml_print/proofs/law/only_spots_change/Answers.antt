use Rattle.std.proofs.Common.{◌≡◌, List, [], ◌∷◌, Some}
use Rattle.std.specs.List.{All}
use Rattle.std.proofs.lemmas.List.Elements.{All-nil, All-cons, All-head, All-tail}
use Rattle.drawing_read.specs.declared.reading.Spot.{Spot}
use Rattle.gml_print.proofs.SpotValues.{Each, others_stay, numerals_stand, rest_stays}
use Rattle.gml_print.proofs.SpotParts.{reading_fit}
use Rattle.gml_print.specs.Paths.{value_at, Part}
use Rattle.gml_print.specs.Places.{placed, numeral_for}
use Rattle.gml_print.proofs.law.only_spots_change.Goals as goal

all_from_each : (P : Spot → Type 0) (spots : List Spot) → Each P spots → All P spots
all_from_each P [] each = All-nil P
all_from_each P (spot ∷ spots) each = All-cons P spot spots each.0 (all_from_each P spots each.1)

each_from_all : (P : Spot → Type 0) (spots : List Spot) → All P spots → Each P spots
each_from_all P [] all = tt
each_from_all P (spot ∷ spots) all = (All-head P spot spots all, each_from_all P spots (All-tail P spot spots all))

pub returns : goal.returns
returns c = record {
  numerals = λ tree reading places pitch can.
      let fit = reading_fit tree reading can.read in
      all_from_each (λ spot. value_at spot.path (placed tree reading.spots places pitch) ≡ Some (numeral_for places pitch spot)) reading.spots
      (numerals_stand places pitch tree reading.spots fit.part fit.there);
  others = λ tree reading places pitch path all.
      others_stay places pitch tree reading.spots path (each_from_all (λ spot. Part path spot.path) reading.spots all);
  rest = λ tree reading places pitch can. rest_stays places pitch tree reading.spots (reading_fit tree reading can.read).part;
}
