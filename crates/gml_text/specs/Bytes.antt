-- The bytes of a GML text and its words.
use Rattle.std.specs.Prelude.{ℕ, Bool, false, List, [], ◌∷◌, ◌==◌, nat_le, ◌&&◌, ◌||◌, not}
use Rattle.std.specs.Prelude.{take_while}
use Rattle.std.specs.List.{list_all}
use Rattle.gml_text.specs.declared.marks.TheConstants.{TAB, LINE_FEED, CARRIAGE_RETURN, SPACE}
use Rattle.gml_text.specs.declared.marks.TheConstants.{QUOTE, OPENING_BRACKET, CLOSING_BRACKET}
use Rattle.gml_text.specs.declared.marks.TheConstants.{UNDERSCORE, PLUS, MINUS, POINT, ZERO, NINE}
use Rattle.gml_text.specs.declared.marks.TheConstants.{CAPITAL_A, CAPITAL_Z, SMALL_A, SMALL_Z}

abbrev pub is_digit : ℕ → Bool
is_digit b = nat_le ZERO b && nat_le b NINE

abbrev pub is_letter : ℕ → Bool
is_letter b = (nat_le CAPITAL_A b && nat_le b CAPITAL_Z) || (nat_le SMALL_A b && nat_le b SMALL_Z)

-- white space
abbrev pub is_space : ℕ → Bool
is_space b = (b == SPACE) || ((b == TAB) || ((b == LINE_FEED) || (b == CARRIAGE_RETURN)))

-- a byte of a word: no white space, no bracket and no quote
abbrev pub is_word_byte : ℕ → Bool
is_word_byte b =
    not (is_space b || ((b == OPENING_BRACKET) || ((b == CLOSING_BRACKET) || (b == QUOTE))))

-- whether the last byte is one of a word, or `before` where there is no byte
abbrev pub ends_in_word_after : Bool → List ℕ → Bool
ends_in_word_after before [] = before
ends_in_word_after before (b ∷ bytes) = ends_in_word_after (is_word_byte b) bytes

-- whether a word of the text reaches its end, so that a further byte would go on with it
abbrev pub ends_in_word : List ℕ → Bool
ends_in_word text = ends_in_word_after false text

-- whether the first byte is one of a word
abbrev pub begins_with_word : List ℕ → Bool
begins_with_word [] = false
begins_with_word (b ∷ bytes) = is_word_byte b

-- the longest run of bytes of a word at the front
abbrev pub first_word : List ℕ → List ℕ
first_word text = take_while is_word_byte text

-- the byte does not occur
abbrev pub lacks : ℕ → List ℕ → Bool
lacks b text = list_all (λ c. not (c == b)) text

abbrev pub are_spaces : List ℕ → Bool
are_spaces text = list_all is_space text

abbrev pub begins_key : ℕ → Bool
begins_key b = is_letter b || (b == UNDERSCORE)

abbrev pub goes_on_key : ℕ → Bool
goes_on_key b = is_letter b || (is_digit b || (b == UNDERSCORE))

-- a key: a letter or `_`, and then letters, digits and `_`
abbrev pub is_key : List ℕ → Bool
is_key [] = false
is_key (b ∷ bytes) = begins_key b && list_all goes_on_key bytes

-- a word with this first byte stands for a number, or for nothing: a digit, a sign or a point
abbrev pub begins_numeral : ℕ → Bool
begins_numeral b = is_digit b || ((b == PLUS) || ((b == MINUS) || (b == POINT)))
