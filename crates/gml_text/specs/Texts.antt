-- Which tree a GML text has: a relation by cases over whole texts.
use Rattle.std.specs.Prelude.{◌≡◌, ℕ, suc, ◌+◌, ◌<◌, true, false, List, [], ◌∷◌, ◌++◌, length}
use Rattle.gml_text.specs.declared.limits.TheConstants.{MOST_DEPTH}
use Rattle.gml_text.specs.declared.marks.TheConstants.{LINE_FEED, QUOTE, HASH}
use Rattle.gml_text.specs.declared.marks.TheConstants.{OPENING_BRACKET, CLOSING_BRACKET}
use Rattle.gml_text.specs.declared.tree.Tree.{Tree, out-Tree, roll-Tree}
use Rattle.gml_text.specs.declared.tree.Pair.{Pair}
use Rattle.gml_text.specs.declared.tree.Value.{Value}
use Rattle.gml_text.specs.declared.tree.Value.TheVariants.{Whole, Real, Text, Inner}
use Rattle.gml_text.specs.Bytes.{is_space, begins_with_word, ends_in_word, lacks, are_spaces}
use Rattle.gml_text.specs.Bytes.{is_key}
use Rattle.gml_text.specs.Numerals.{is_whole_numeral, IsRealNumeral}

mutual
  -- a text that begins at an offset inside so many open lists is a list of pairs, white space and
  -- comments
  pub data Pairs : (depth offset : ℕ) → List ℕ → List Pair → Type 0 where
    no_more : (depth offset : ℕ) → Pairs depth offset [] []
    a_space : (depth offset : ℕ) (text : List ℕ) (pairs : List Pair) (b : ℕ) →
        Pairs depth offset text pairs → is_space b ≡ true →
        Pairs depth offset (text ++ b ∷ []) pairs
    a_comment : (depth offset : ℕ) (text : List ℕ) (pairs : List Pair) (words : List ℕ) →
        Pairs depth offset text pairs → ends_in_word text ≡ false → lacks LINE_FEED words ≡ true →
        Pairs depth offset (text ++ HASH ∷ words ++ LINE_FEED ∷ []) pairs
    one_more : (depth offset : ℕ) (text : List ℕ) (pairs : List Pair) (piece : List ℕ)
        (pair : Pair) →
        Pairs depth offset text pairs → ends_in_word text ≡ false →
        OnePair depth (offset + length text) piece pair →
        Pairs depth offset (text ++ piece) (pairs ++ pair ∷ [])

  -- a key, white space where it is needed, and a value
  pub data OnePair : (depth offset : ℕ) → List ℕ → Pair → Type 0 where
    a_pair : (depth offset : ℕ) (key gap text : List ℕ) (value : Value) →
        is_key key ≡ true → are_spaces gap ≡ true →
        (begins_with_word text ≡ true → gap ≡ [] → ⊥) →
        HasValue depth (offset + length key + length gap) text value →
        OnePair depth offset (key ++ gap ++ text)
        (record { key = key; value = value; at = offset + length key + length gap })

  pub data HasValue : (depth offset : ℕ) → List ℕ → Value → Type 0 where
    a_whole_numeral : (depth offset : ℕ) (word : List ℕ) →
        is_whole_numeral word ≡ true → HasValue depth offset word (Whole word)
    a_real_numeral : (depth offset : ℕ) (word : List ℕ) →
        IsRealNumeral word → HasValue depth offset word (Real word)
    a_string : (depth offset : ℕ) (inside : List ℕ) → lacks QUOTE inside ≡ true →
        HasValue depth offset (QUOTE ∷ inside ++ QUOTE ∷ []) (Text inside)
    a_list : (depth offset : ℕ) (inside : List ℕ) (pairs : List Pair) → depth < MOST_DEPTH →
        Pairs (suc depth) (suc offset) inside pairs →
        HasValue depth offset (OPENING_BRACKET ∷ inside ++ CLOSING_BRACKET ∷ [])
        (Inner (roll-Tree (record { pairs = pairs })))

-- the whole text is a list of pairs; its last comment may go on to the text's end
pub data IsText : List ℕ → List Pair → Type 0 where
  to_the_end : (text : List ℕ) (pairs : List Pair) → Pairs 0 0 text pairs → IsText text pairs
  in_a_comment : (text : List ℕ) (pairs : List Pair) (words : List ℕ) →
      Pairs 0 0 text pairs → ends_in_word text ≡ false → lacks LINE_FEED words ≡ true →
      IsText (text ++ HASH ∷ words) pairs

-- the text has this tree
abbrev pub Spells : List ℕ → Tree → Type 0
Spells text tree = IsText text (out-Tree tree).pairs
