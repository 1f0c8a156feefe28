-- How many lists stand within one another.
use Rattle.std.specs.Prelude.{ℕ, suc, max, List, [], ◌∷◌}
use Rattle.gml_text.specs.declared.tree.Tree.{Tree, Tree-F, fold-Tree}
use Rattle.gml_text.specs.declared.tree.Pair.{Pair, Pair-F, fold-Pair}
use Rattle.gml_text.specs.declared.tree.Value.{Value, Value-F, fold-Value}
use Rattle.gml_text.specs.declared.tree.Value.TheOpen.{Whole, Real, Text, Inner}

-- the greatest of the numbers that the function gives, 0 where there is none
abbrev pub greatest_by : {X : Type 0} → (X → ℕ) → List X → ℕ
greatest_by f [] = 0
greatest_by f (x ∷ xs) = max (f x) (greatest_by f xs)

-- a list is one deeper than what it has
abbrev pub value_depth_step : Value-F ℕ ℕ ℕ → ℕ
value_depth_step (Whole word) = 0
value_depth_step (Real word) = 0
value_depth_step (Text inside) = 0
value_depth_step (Inner depth) = suc depth

abbrev pub pair_depth_step : Pair-F ℕ ℕ ℕ → ℕ
pair_depth_step pair = pair.value

abbrev pub list_depth_step : Tree-F ℕ ℕ ℕ → ℕ
list_depth_step tree = greatest_by (λ depth. depth) tree.pairs

-- how deep a value is, a pair, a list of pairs, a tree
abbrev pub depth_of_value : Value → ℕ
depth_of_value = fold-Value ℕ ℕ ℕ value_depth_step pair_depth_step list_depth_step

abbrev pub depth_of_pair : Pair → ℕ
depth_of_pair = fold-Pair ℕ ℕ ℕ value_depth_step pair_depth_step list_depth_step

abbrev pub depth_of_pairs : List Pair → ℕ
depth_of_pairs pairs = greatest_by depth_of_pair pairs

abbrev pub depth_of : Tree → ℕ
depth_of = fold-Tree ℕ ℕ ℕ value_depth_step pair_depth_step list_depth_step
