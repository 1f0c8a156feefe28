-- Trees that differ at most in where their values stand in a text.
use Rattle.std.specs.Prelude.{◌≡◌}
use Rattle.gml_text.specs.declared.tree.Tree.{Tree, Tree-F, roll-Tree, fold-Tree}
use Rattle.gml_text.specs.declared.tree.Pair.{Pair, Pair-F}
use Rattle.gml_text.specs.declared.tree.Value.{Value, Value-F}
use Rattle.gml_text.specs.declared.tree.Value.TheOpen as layer
use Rattle.gml_text.specs.declared.tree.Value.TheVariants.{Whole, Real, Text, Inner}

abbrev pub value_without_offsets : Value-F Value Pair Tree → Value
value_without_offsets (layer.Whole word) = Whole word
value_without_offsets (layer.Real word) = Real word
value_without_offsets (layer.Text inside) = Text inside
value_without_offsets (layer.Inner tree) = Inner tree

abbrev pub pair_without_offset : Pair-F Value Pair Tree → Pair
pair_without_offset pair = record { key = pair.key; value = pair.value; at = 0 }

abbrev pub list_without_offsets : Tree-F Value Pair Tree → Tree
list_without_offsets tree = roll-Tree (record { pairs = tree.pairs })

-- the tree with 0 for the offset of each value, at every depth
abbrev pub without_offsets : Tree → Tree
without_offsets =
    fold-Tree Value Pair Tree value_without_offsets pair_without_offset list_without_offsets

-- the trees differ at most in the offsets of their values
abbrev pub IsAlike : Tree → Tree → Type 0
IsAlike a b = without_offsets a ≡ without_offsets b
