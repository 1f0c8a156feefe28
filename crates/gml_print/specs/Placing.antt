-- A tree with another value at the end of a path.
use Rattle.std.specs.Prelude.{ℕ, List, [], ◌∷◌, Option, None, Some, slice_get, slice_set}
use Rattle.gml_text.specs.declared.tree.Tree.{Tree, out-Tree, roll-Tree}
use Rattle.gml_text.specs.declared.tree.Pair.{Pair}
use Rattle.gml_text.specs.declared.tree.Value.{Value}
use Rattle.gml_text.specs.declared.tree.Value.TheVariants.{Whole, Real, Text, Inner}

-- the pair with its value changed
abbrev pub with_changed_value : (Value → Value) → Pair → Pair
with_changed_value change pair = record { key = pair.key; value = change pair.value; at = pair.at }

-- the pairs with the value of the pair at a place changed; nothing is changed where there is no
-- such pair
abbrev pub set_changed : List Pair → ℕ → (Value → Value) → Option Pair → List Pair
set_changed pairs place change None = pairs
set_changed pairs place change (Some pair) = slice_set pairs place (with_changed_value change pair)

abbrev pub change_at : ℕ → (Value → Value) → List Pair → List Pair
change_at place change pairs = set_changed pairs place change (slice_get pairs place)

-- the value below the old one to which a path of places leads, list by list, is the new one; all
-- else is as it was
abbrev pub replaced : List ℕ → Value → Value → Value
replaced [] new old = new
replaced (place ∷ path) new (Whole word) = Whole word
replaced (place ∷ path) new (Real word) = Real word
replaced (place ∷ path) new (Text inside) = Text inside
replaced (place ∷ path) new (Inner tree) =
    Inner (roll-Tree (record { pairs = change_at place (replaced path new) (out-Tree tree).pairs }))

-- the tree with the new value at the end of a path; a path that leads to no value changes nothing
abbrev pub put_value : List ℕ → Value → Tree → Tree
put_value [] new tree = tree
put_value (place ∷ path) new tree =
    roll-Tree (record { pairs = change_at place (replaced path new) (out-Tree tree).pairs })
