-- The numerals of spots whose paths part: each stands at its spot, and nothing else changes.
use Rattle.std.proofs.Common.{◌≡◌, ℕ, List, [], ◌∷◌, Some, refl, ap, ◌∙◌}
use Rattle.gml_text.specs.declared.tree.Tree.{Tree}
use Rattle.gml_text.specs.declared.tree.Value.{Value}
use Rattle.gml_text.specs.declared.tree.Value.TheVariants.{Text}
use Rattle.compact_types.specs.declared.places.Places.{Places}
use Rattle.drawing_read.specs.declared.reading.Spot.{Spot}
use Rattle.gml_print.specs.Placing.{put_value}
use Rattle.gml_print.specs.Places.{numeral_for, placed}
use Rattle.gml_print.specs.Paths.{value_at, Part, blanked}
use Rattle.gml_print.proofs.PathLemmas.{part_back, puts_commute, put_again, put_stands, put_elsewhere}

-- what holds of each spot
abbrev pub Each : (Spot → Type 0) → List Spot → Type 0
Each P [] = Unit {0}
Each P (spot ∷ spots) = P spot × Each P spots

pub each_weaker : (P Q : Spot → Type 0) (spots : List Spot) → ((spot : Spot) → P spot → Q spot) → Each P spots → Each Q spots
each_weaker P Q [] more each = tt
each_weaker P Q (spot ∷ spots) more each = (more spot each.0, each_weaker P Q spots more each.1)

pub each_of_two : (P Q R : Spot → Type 0) (spots : List Spot) → ((spot : Spot) → P spot → Q spot → R spot) → Each P spots → Each Q spots → Each R spots
each_of_two P Q R [] more first second = tt
each_of_two P Q R (spot ∷ spots) more first second = (more spot first.0 second.0, each_of_two P Q R spots more first.1 second.1)

-- the path parts from that of each spot
abbrev pub PartsFrom : List ℕ → List Spot → Type 0
PartsFrom path spots = Each (λ spot. Part path spot.path) spots

-- the paths of any two of the spots part
abbrev pub AllPart : List Spot → Type 0
AllPart [] = Unit {0}
AllPart (spot ∷ spots) = PartsFrom spot.path spots × AllPart spots

-- a value stands at the spot
abbrev pub IsAt : Tree → Spot → Type 0
IsAt tree spot = (old : Value) × (value_at spot.path tree ≡ Some old)

module _ (places : Places) (pitch : ℕ) where
  pub others_stay : (tree : Tree) (spots : List Spot) (path : List ℕ) → PartsFrom path spots → value_at path (placed tree spots places pitch) ≡ value_at path tree
  others_stay tree [] path parts = refl
  others_stay tree (spot ∷ spots) path parts =
      others_stay (put_value spot.path (numeral_for places pitch spot) tree) spots path parts.1
      ∙ put_elsewhere path spot.path (numeral_for places pitch spot) tree parts.0

  pub numerals_stand : (tree : Tree) (spots : List Spot) → AllPart spots → Each (IsAt tree) spots →
      Each (λ spot. value_at spot.path (placed tree spots places pitch) ≡ Some (numeral_for places pitch spot)) spots
  numerals_stand tree [] part at = tt
  numerals_stand tree (spot ∷ spots) part at =
      let new = put_value spot.path (numeral_for places pitch spot) tree in (
        others_stay new spots spot.path part.0 ∙ put_stands spot.path (numeral_for places pitch spot) tree at.0.0 at.0.1,
        numerals_stand new spots part.1
            (each_of_two (λ other. Part spot.path other.path) (IsAt tree) (IsAt new) spots
            (λ other part at. (at.0, put_elsewhere other.path spot.path (numeral_for places pitch spot) tree (part_back spot.path other.path part) ∙ at.1))
            part.0 at.1),
      )

  put_over : (path : List ℕ) (value : Value) (tree : Tree) (spots : List Spot) → PartsFrom path spots →
      put_value path value (placed tree spots places pitch) ≡ placed (put_value path value tree) spots places pitch
  put_over path value tree [] parts = refl
  put_over path value tree (spot ∷ spots) parts =
      put_over path value (put_value spot.path (numeral_for places pitch spot) tree) spots parts.1
      ∙ ap (λ (t : Tree). placed t spots places pitch) (puts_commute path spot.path value (numeral_for places pitch spot) tree parts.0)

  -- with the values at the spots blanked the trees are the same
  pub rest_stays : (tree : Tree) (spots : List Spot) → AllPart spots → blanked (placed tree spots places pitch) spots ≡ blanked tree spots
  rest_stays tree [] part = refl
  rest_stays tree (spot ∷ spots) part =
      ap (λ (t : Tree). blanked t spots)
      (put_over spot.path (Text []) (put_value spot.path (numeral_for places pitch spot) tree) spots part.0
      ∙ ap (λ (t : Tree). placed t spots places pitch) (put_again spot.path (Text []) (numeral_for places pitch spot) tree))
      ∙ rest_stays (put_value spot.path (Text []) tree) spots part.1
