-- The parts of any word, and whether they are those of a numeral.
use Rattle.std.specs.Prelude.{ℕ, ◌+◌, Bool, true, false, List, [], ◌∷◌, length, drop, Option}
use Rattle.std.specs.Prelude.{None, Some, ◌==◌, nat_lt, ◌&&◌, ◌||◌, is_some, if◌then◌else◌}
use Rattle.std.specs.List.{take_while, prefix_len}
use Rattle.gml_text.specs.declared.number.NumeralKind.{NumeralKind}
use Rattle.gml_text.specs.declared.number.NumeralKind.TheVariants.{Whole, Real}
use Rattle.gml_text.specs.declared.marks.TheConstants.{PLUS, MINUS, POINT, CAPITAL_E, SMALL_E}
use Rattle.gml_text.specs.Bytes.{is_digit}
use Rattle.gml_text.specs.Numerals.{Sign, no_sign, plus, minus, Exponent, Numeral, fraction_digits}
use Rattle.gml_text.specs.Numerals.{are_digits, is_sign}

-- the sign at the front
abbrev pub sign_of : List ℕ → Sign
sign_of [] = no_sign
sign_of (b ∷ bytes) = if b == PLUS then plus else if b == MINUS then minus else no_sign

-- what follows the sign at the front
abbrev pub after_sign : List ℕ → List ℕ
after_sign [] = []
after_sign (b ∷ bytes) = if is_sign b then bytes else b ∷ bytes

-- the digits at the front
abbrev pub front_digits : List ℕ → List ℕ
front_digits text = take_while is_digit text

-- what follows the digits at the front
abbrev pub after_digits : List ℕ → List ℕ
after_digits text = drop (prefix_len is_digit text) text

-- the digits after a point at the front
abbrev pub fraction_of : List ℕ → Option (List ℕ)
fraction_of [] = None
fraction_of (b ∷ bytes) = if b == POINT then Some (front_digits bytes) else None

-- what follows a point at the front and its digits
abbrev pub after_fraction : List ℕ → List ℕ
after_fraction [] = []
after_fraction (b ∷ bytes) = if b == POINT then after_digits bytes else b ∷ bytes

-- what is left is the exponent: its letter, its sign, and its digits up to the end
abbrev pub exponent_of : List ℕ → Option Exponent
exponent_of [] = None
exponent_of (b ∷ bytes) =
    Some (record { letter = b; sign = sign_of bytes; digits = after_sign bytes })

-- the parts of a word after its sign
abbrev pub parts_after : Sign → List ℕ → Numeral
parts_after sign body = record {
  sign = sign;
  whole = front_digits body;
  fraction = fraction_of (after_digits body);
  exponent = exponent_of (after_fraction (after_digits body));
}

-- the parts of a word, whether or not it is a numeral
unfoldable pub parts_of : List ℕ → Numeral
parts_of word = parts_after (sign_of word) (after_sign word)

-- no exponent, or its letter and at least one digit
abbrev pub is_exponent : Option Exponent → Bool
is_exponent None = true
is_exponent (Some e) = ((e.letter == SMALL_E) || (e.letter == CAPITAL_E)) && are_digits e.digits

-- at least one digit before the exponent
abbrev pub has_digit : Numeral → Bool
has_digit n = nat_lt 0 (length n.whole + length (fraction_digits n.fraction))

abbrev pub is_real : Numeral → Bool
is_real n = is_some n.fraction || is_some n.exponent

-- the kind of a word, by whether it is a numeral and has a point or an exponent
abbrev pub kind_by : Bool → Bool → Option NumeralKind
kind_by numeral real = if numeral then (if real then Some Real else Some Whole) else None

-- the kind of a numeral with these parts
abbrev pub kind_of_parts : Numeral → Option NumeralKind
kind_of_parts n = kind_by (has_digit n && is_exponent n.exponent) (is_real n)

-- which kind of numeral a word is, if it is one
unfoldable pub kind_of : List ℕ → Option NumeralKind
kind_of word = kind_of_parts (parts_of word)

-- the word is a numeral
abbrev pub is_numeral : List ℕ → Bool
is_numeral word = is_some (kind_of word)

abbrev pub is_real_kind : Option NumeralKind → Bool
is_real_kind None = false
is_real_kind (Some Whole) = false
is_real_kind (Some Real) = true

-- the word is a numeral with a point or an exponent
abbrev pub is_real_numeral : List ℕ → Bool
is_real_numeral word = is_real_kind (kind_of word)
