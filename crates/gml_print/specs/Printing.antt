-- The text of a tree.
use Rattle.std.specs.Prelude.{ℕ, zero, suc, List, [], ◌∷◌, ◌++◌}
use Rattle.std.specs.List.{flat_map}
use Rattle.gml_text.specs.declared.marks.TheConstants.{LINE_FEED, SPACE, QUOTE}
use Rattle.gml_text.specs.declared.marks.TheConstants.{OPENING_BRACKET, CLOSING_BRACKET}
use Rattle.gml_text.specs.declared.tree.Tree.{Tree, Tree-F, fold-Tree}
use Rattle.gml_text.specs.declared.tree.Pair.{Pair-F}
use Rattle.gml_text.specs.declared.tree.Value.{Value-F}
use Rattle.gml_text.specs.declared.tree.Value.TheOpen.{Whole, Real, Text, Inner}

-- two spaces for each depth
abbrev pub indentation : ℕ → List ℕ
indentation zero = []
indentation (suc depth) = SPACE ∷ SPACE ∷ indentation depth

-- a string between its quotes
abbrev pub quoted : List ℕ → List ℕ
quoted inside = QUOTE ∷ inside ++ QUOTE ∷ []

-- a list: `[` at the end of its line, what it has, and a line with `]` at the depth of its key
abbrev pub bracketed : ℕ → List ℕ → List ℕ
bracketed depth lines =
    OPENING_BRACKET ∷ LINE_FEED ∷ lines ++ indentation depth ++ CLOSING_BRACKET ∷ []

-- the key, a space, the value and a line feed, behind two spaces for each depth
abbrev pub line : ℕ → List ℕ → List ℕ → List ℕ
line depth key value = indentation depth ++ key ++ SPACE ∷ value ++ LINE_FEED ∷ []

-- the text of a value at the depth of its key, from the texts of a list's pairs
abbrev pub value_text_step : Value-F (ℕ → List ℕ) (ℕ → List ℕ) (ℕ → List ℕ) → ℕ → List ℕ
value_text_step (Whole word) depth = word
value_text_step (Real word) depth = word
value_text_step (Text inside) depth = quoted inside
value_text_step (Inner lines) depth = bracketed depth (lines (suc depth))

abbrev pub pair_text_step : Pair-F (ℕ → List ℕ) (ℕ → List ℕ) (ℕ → List ℕ) → ℕ → List ℕ
pair_text_step pair depth = line depth pair.key (pair.value depth)

abbrev pub list_text_step : Tree-F (ℕ → List ℕ) (ℕ → List ℕ) (ℕ → List ℕ) → ℕ → List ℕ
list_text_step tree depth = flat_map (λ lines. lines depth) tree.pairs

-- the lines of the pairs of a tree that stands inside so many lists
abbrev pub printed_at : Tree → ℕ → List ℕ
printed_at = fold-Tree (ℕ → List ℕ) (ℕ → List ℕ) (ℕ → List ℕ) value_text_step pair_text_step
    list_text_step

-- The text of a tree: one line for each pair that is no list. Numerals stand as they were read,
-- strings with their quotes.
abbrev pub printed : Tree → List ℕ
printed tree = printed_at tree 0
