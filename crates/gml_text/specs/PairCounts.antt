-- How many pairs there are, at all depths.
use Rattle.std.specs.Prelude.{ℕ, ◌+◌, List, sum, sum_by}
use Rattle.gml_text.specs.declared.tree.Tree.{Tree, Tree-F, fold-Tree}
use Rattle.gml_text.specs.declared.tree.Pair.{Pair, Pair-F, fold-Pair}
use Rattle.gml_text.specs.declared.tree.Value.{Value, Value-F, fold-Value}
use Rattle.gml_text.specs.declared.tree.Value.TheOpen.{Whole, Real, Text, Inner}

-- a list has the pairs of its tree, any other value none
abbrev pub value_count_step : Value-F ℕ ℕ ℕ → ℕ
value_count_step (Whole word) = 0
value_count_step (Real word) = 0
value_count_step (Text inside) = 0
value_count_step (Inner count) = count

-- the pair itself and the pairs of its value
abbrev pub pair_count_step : Pair-F ℕ ℕ ℕ → ℕ
pair_count_step pair = pair.value + 1

-- the pairs of a list, each with those of its value
abbrev pub list_count_step : Tree-F ℕ ℕ ℕ → ℕ
list_count_step tree = sum tree.pairs

-- how many pairs a value has, a pair with itself, a list of pairs, a tree
abbrev pub count_in_value : Value → ℕ
count_in_value = fold-Value ℕ ℕ ℕ value_count_step pair_count_step list_count_step

abbrev pub count_in_pair : Pair → ℕ
count_in_pair = fold-Pair ℕ ℕ ℕ value_count_step pair_count_step list_count_step

abbrev pub count_in_pairs : List Pair → ℕ
count_in_pairs pairs = sum_by count_in_pair pairs

abbrev pub pair_count : Tree → ℕ
pair_count = fold-Tree ℕ ℕ ℕ value_count_step pair_count_step list_count_step
