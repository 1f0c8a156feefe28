-- What holds of each value because it holds of the values in its list.
use Rattle.std.proofs.Common.{ℕ, List, [], ◌∷◌, sym, ◌∙◌, ap, subst}
use Rattle.gml_text.specs.declared.tree.Tree.{Tree, out-Tree, Tree', outs-Tree', Row_of-Pair, end_of-Pair, more_of-Pair, items-the_row-Pair, items_shown-the_row-Pair-0}
use Rattle.gml_text.specs.declared.tree.Pair.{Pair}
use Rattle.gml_text.specs.declared.tree.Value.{Value}
use Rattle.gml_text.specs.declared.tree.Value.TheVariants.{Whole, Real, Text, Inner}

-- the fact holds of the value of each pair
abbrev pub EachValue : (Value → Type 0) → List Pair → Type 0
EachValue Q [] = Unit {0}
EachValue Q (pair ∷ pairs) = Q pair.value × EachValue Q pairs

-- a fact holds of every value if it holds of numerals and strings, and of a list where it holds of each value in it
module _
    (Q : Value → Type 0)
    (whole : (word : List ℕ) → Q (Whole word))
    (real : (word : List ℕ) → Q (Real word))
    (inside : (bytes : List ℕ) → Q (Text bytes))
    (inner : (tree : Tree) → EachValue Q (out-Tree tree).pairs → Q (Inner tree)) where
  mutual
    pub by_value : (value : Value) → Q value
    by_value (Whole word) = whole word
    by_value (Real word) = real word
    by_value (Text bytes) = inside bytes
    by_value (Inner tree) = inner tree (each_in tree)

    pub each_in : (tree : Tree) → EachValue Q (out-Tree tree).pairs
    each_in (Tree' shape row) =
        subst (EachValue Q) (sym (ap (λ r. r.pairs) (outs-Tree' shape row) ∙ items_shown-the_row-Pair-0 shape row)) (each_of row)

    each_of : {n : _} (row : Row_of-Pair n) → EachValue Q (items-the_row-Pair n row)
    each_of end_of-Pair = tt
    each_of (more_of-Pair key value at rest) = (by_value value, each_of rest)
