-- Values by their paths in a tree, and a tree without some of them.
use Rattle.std.specs.Prelude.{◌≡◌, ℕ, List, [], ◌∷◌, Option, None, Some, ◌⊎◌, slice_get}
use Rattle.std.specs.Prelude.{option_and_then}
use Rattle.gml_text.specs.declared.tree.Tree.{Tree, out-Tree}
use Rattle.gml_text.specs.declared.tree.Pair.{Pair}
use Rattle.gml_text.specs.declared.tree.Value.{Value}
use Rattle.gml_text.specs.declared.tree.Value.TheVariants.{Text}
use Rattle.drawing_read.specs.declared.reading.Spot.{Spot}
use Rattle.drawing_read.specs.Lookups.{list_in}
use Rattle.gml_print.specs.Placing.{put_value}

-- the value to which a path of places leads from a value, list by list, if it leads to one
abbrev pub value_below : List ℕ → Value → Option Value
value_below [] value = Some value
value_below (place ∷ path) value =
    option_and_then
    (λ pairs. option_and_then (λ pair. value_below path pair.value) (slice_get pairs place))
    (list_in value)

-- the value in the list to which a path of places leads
abbrev pub value_in : List ℕ → List Pair → Option Value
value_in [] pairs = None
value_in (place ∷ path) pairs =
    option_and_then (λ pair. value_below path pair.value) (slice_get pairs place)

-- the value in the tree to which a path of places leads
abbrev pub value_at : List ℕ → Tree → Option Value
value_at path tree = value_in path (out-Tree tree).pairs

-- the paths go to different places somewhere, so neither leads through the end of the other
abbrev pub Part : List ℕ → List ℕ → Type 0
Part [] other = ⊥
Part (a ∷ path) [] = ⊥
Part (a ∷ path) (b ∷ other) = (a ≡ b → ⊥) ⊎ Part path other

-- the tree with an empty string in place of the value at each spot's path
abbrev pub blanked : Tree → List Spot → Tree
blanked tree [] = tree
blanked tree (spot ∷ spots) = blanked (put_value spot.path (Text []) tree) spots
