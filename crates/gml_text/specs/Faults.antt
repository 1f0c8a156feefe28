-- The first fault of a text: the front that is right, what stands there, and the rest.
use Rattle.std.specs.Prelude.{◌≡◌, ℕ, suc, ◌+◌, ◌<◌, true, false, List, ◌∷◌, ◌++◌, length, Option}
use Rattle.std.specs.Prelude.{None, Some, ◌==◌}
use Rattle.gml_text.specs.declared.fault.GmlFault.{GmlFault}
use Rattle.gml_text.specs.declared.fault.GmlKind.TheVariants.{BadKey, BadValue, BadNumeral}
use Rattle.gml_text.specs.declared.fault.GmlKind.TheVariants.{OpenString, OpenList}
use Rattle.gml_text.specs.declared.fault.GmlKind.TheVariants.{StrayClose, TooDeep}
use Rattle.gml_text.specs.declared.limits.TheConstants.{MOST_DEPTH}
use Rattle.gml_text.specs.declared.marks.TheConstants.{LINE_FEED, QUOTE, HASH}
use Rattle.gml_text.specs.declared.marks.TheConstants.{OPENING_BRACKET, CLOSING_BRACKET}
use Rattle.gml_text.specs.declared.tree.Pair.{Pair}
use Rattle.gml_text.specs.Bytes.{is_space, is_word_byte, begins_numeral, is_key}
use Rattle.gml_text.specs.Bytes.{ends_in_word, first_word, lacks, are_spaces}
use Rattle.gml_text.specs.Numerals.{Numeral, HasParts}
use Rattle.gml_text.specs.Texts.{Pairs}

-- a text after which a key may stand, inside so many open lists; where the innermost open `[`
-- stands, if there is one
pub data KeyPlace : (depth : ℕ) → List ℕ → Option ℕ → Type 0 where
  at_the_top : (text : List ℕ) (pairs : List Pair) → Pairs 0 0 text pairs → KeyPlace 0 text None
  in_a_list : (depth : ℕ) (front : List ℕ) (around : Option ℕ) (key gap inside : List ℕ)
      (pairs : List Pair) →
      KeyPlace depth front around → ends_in_word front ≡ false →
      is_key key ≡ true → are_spaces gap ≡ true → depth < MOST_DEPTH →
      Pairs (suc depth) (length (front ++ key ++ gap) + 1) inside pairs →
      KeyPlace (suc depth) (front ++ key ++ gap ++ OPENING_BRACKET ∷ inside)
      (Some (length (front ++ key ++ gap)))

-- a text that ends in a key, and maybe white space, so that a value must follow
pub data ValuePlace : (depth : ℕ) → List ℕ → Type 0 where
  after_a_key : (depth : ℕ) (front : List ℕ) (around : Option ℕ) (key gap : List ℕ) →
      KeyPlace depth front around → ends_in_word front ≡ false →
      is_key key ≡ true → are_spaces gap ≡ true →
      ValuePlace depth (front ++ key ++ gap)

-- the text has this fault, and none before it
pub data FirstFault : List ℕ → GmlFault → Type 0 where
  bad_key : (depth : ℕ) (front : List ℕ) (around : Option ℕ) (b : ℕ) (rest : List ℕ) →
      KeyPlace depth front around →
      is_space b ≡ false → (b == HASH) ≡ false → (b == CLOSING_BRACKET) ≡ false →
      (is_word_byte b ≡ true → ends_in_word front ≡ false) →
      is_key (first_word (b ∷ rest)) ≡ false →
      FirstFault (front ++ b ∷ rest) (record { at = length front; kind = BadKey })
  no_value : (depth : ℕ) (text : List ℕ) →
      ValuePlace depth text → FirstFault text (record { at = length text; kind = BadValue })
  bad_value : (depth : ℕ) (front : List ℕ) (b : ℕ) (rest : List ℕ) →
      ValuePlace depth front →
      is_space b ≡ false → (b == QUOTE) ≡ false → (b == OPENING_BRACKET) ≡ false →
      begins_numeral b ≡ false →
      (is_word_byte b ≡ true → ends_in_word front ≡ false) →
      FirstFault (front ++ b ∷ rest) (record { at = length front; kind = BadValue })
  bad_numeral : (depth : ℕ) (front : List ℕ) (b : ℕ) (rest : List ℕ) →
      ValuePlace depth front → ends_in_word front ≡ false → begins_numeral b ≡ true →
      ((n : Numeral) → HasParts (first_word (b ∷ rest)) n → ⊥) →
      FirstFault (front ++ b ∷ rest) (record { at = length front; kind = BadNumeral })
  open_string : (depth : ℕ) (front rest : List ℕ) →
      ValuePlace depth front → lacks QUOTE rest ≡ true →
      FirstFault (front ++ QUOTE ∷ rest) (record { at = length front; kind = OpenString })
  open_list : (depth : ℕ) (text : List ℕ) (at : ℕ) →
      KeyPlace depth text (Some at) → FirstFault text (record { at = at; kind = OpenList })
  open_list_in_a_comment : (depth : ℕ) (front : List ℕ) (at : ℕ) (words : List ℕ) →
      KeyPlace depth front (Some at) → ends_in_word front ≡ false → lacks LINE_FEED words ≡ true →
      FirstFault (front ++ HASH ∷ words) (record { at = at; kind = OpenList })
  stray_close : (front rest : List ℕ) →
      KeyPlace 0 front None →
      FirstFault (front ++ CLOSING_BRACKET ∷ rest) (record { at = length front; kind = StrayClose })
  too_deep : (front rest : List ℕ) →
      ValuePlace MOST_DEPTH front →
      FirstFault (front ++ OPENING_BRACKET ∷ rest) (record { at = length front; kind = TooDeep })
