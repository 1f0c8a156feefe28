-- The text of a tree in pieces, as it is written.
use Rattle.std.specs.Prelude.{ℕ, suc, List}
use Rattle.gml_text.specs.declared.tree.Pair.{Pair}
use Rattle.gml_text.specs.declared.tree.Value.{Value}
use Rattle.gml_text.specs.declared.tree.Value.TheVariants.{Whole, Real, Text, Inner}
use Rattle.gml_print.specs.Printing.{quoted, bracketed, line, printed_at}

-- the text of a value at the depth of its key
abbrev pub value_text : Value → ℕ → List ℕ
value_text (Whole word) depth = word
value_text (Real word) depth = word
value_text (Text inside) depth = quoted inside
value_text (Inner tree) depth = bracketed depth (printed_at tree (suc depth))

-- the lines of a pair
abbrev pub pair_text : Pair → ℕ → List ℕ
pair_text pair depth = line depth pair.key (value_text pair.value depth)
