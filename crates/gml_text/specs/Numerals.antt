-- Numerals and their values.
use Rattle.std.specs.Prelude.{◌≡◌, ℕ, ◌+◌, ◌-◌, ◌*◌, ◌^◌, ◌<◌, pos, negsuc, ℤ, ◌+ℤ◌, ◌-ℤ◌, ◌*ℤ◌}
use Rattle.std.specs.Prelude.{Bool, true, false, List, [], ◌∷◌, ◌++◌, length, Option, None, Some}
use Rattle.std.specs.Prelude.{IsSome, ◌⊎◌, ◌==◌, ◌&&◌, ◌||◌, if◌then◌else◌}
use Rattle.std.specs.List.{list_all}
use Rattle.gml_text.specs.declared.marks.TheConstants.{PLUS, MINUS, POINT, ZERO, CAPITAL_E, SMALL_E}
use Rattle.gml_text.specs.Bytes.{is_digit}

pub data Sign : Type 0 where
  no_sign : Sign
  plus : Sign
  minus : Sign

-- an exponent: its letter, its sign and its digits
pub record Exponent : Type 0 where
  pub letter : ℕ
  pub sign : Sign
  pub digits : List ℕ

-- the parts of a numeral: its sign, the digits before the point, those after it where there is a
-- point, and the exponent where there is one
pub record Numeral : Type 0 where
  pub sign : Sign
  pub whole : List ℕ
  pub fraction : Option (List ℕ)
  pub exponent : Option Exponent

abbrev pub sign_text : Sign → List ℕ
sign_text no_sign = []
sign_text plus = PLUS ∷ []
sign_text minus = MINUS ∷ []

abbrev pub fraction_digits : Option (List ℕ) → List ℕ
fraction_digits None = []
fraction_digits (Some digits) = digits

abbrev pub fraction_text : Option (List ℕ) → List ℕ
fraction_text None = []
fraction_text (Some digits) = POINT ∷ digits

abbrev pub exponent_text : Option Exponent → List ℕ
exponent_text None = []
exponent_text (Some e) = e.letter ∷ (sign_text e.sign ++ e.digits)

-- how the parts are written
abbrev pub numeral_text : Numeral → List ℕ
numeral_text n =
    sign_text n.sign ++ (n.whole ++ (fraction_text n.fraction ++ exponent_text n.exponent))

abbrev pub IsExponent : Option Exponent → Type 0
IsExponent None = Unit {0}
IsExponent (Some e) =
    ((e.letter ≡ SMALL_E) ⊎ (e.letter ≡ CAPITAL_E)) × (list_all is_digit e.digits ≡ true) ×
    (0 < length e.digits)

-- the parts are digits where they should be, at least one of them before the exponent
pub record IsNumeral (n : Numeral) : Type 0 where
  pub whole : list_all is_digit n.whole ≡ true
  pub fraction : list_all is_digit (fraction_digits n.fraction) ≡ true
  pub some_digit : 0 < length n.whole + length (fraction_digits n.fraction)
  pub exponent : IsExponent n.exponent

-- the word is the numeral with these parts
pub record HasParts (word : List ℕ) (n : Numeral) : Type 0 where
  pub numeral : IsNumeral n
  pub written : word ≡ numeral_text n

-- a numeral with neither a point nor an exponent
pub record HasNoPoint (n : Numeral) : Type 0 where
  pub fraction : n.fraction ≡ None
  pub exponent : n.exponent ≡ None

-- at least one byte, and all are digits
abbrev pub are_digits : List ℕ → Bool
are_digits [] = false
are_digits (b ∷ bytes) = is_digit b && list_all is_digit bytes

abbrev pub is_sign : ℕ → Bool
is_sign b = (b == PLUS) || (b == MINUS)

-- a whole numeral: a sign or none, and then digits
abbrev pub is_whole_numeral : List ℕ → Bool
is_whole_numeral [] = false
is_whole_numeral (b ∷ bytes) = if is_sign b then are_digits bytes else are_digits (b ∷ bytes)

-- a numeral with a point or an exponent
abbrev pub IsRealNumeral : List ℕ → Type 0
IsRealNumeral word = (n : Numeral) × HasParts word n × (IsSome n.fraction ⊎ IsSome n.exponent)

-- the number that digits write, the first digit the greatest
abbrev pub digits_value_from : ℕ → List ℕ → ℕ
digits_value_from before [] = before
digits_value_from before (b ∷ digits) = digits_value_from (before * 10 + (b - ZERO)) digits

abbrev pub digits_value : List ℕ → ℕ
digits_value digits = digits_value_from 0 digits

abbrev pub with_sign : Sign → ℕ → ℤ
with_sign no_sign n = pos n
with_sign plus n = pos n
with_sign minus n = pos 0 -ℤ pos n

-- the value of a numeral with neither a point nor an exponent
abbrev pub whole_value : Numeral → ℤ
whole_value n = with_sign n.sign (digits_value n.whole)

-- the value of the word of a whole numeral
abbrev pub value_of_whole : List ℕ → ℤ
value_of_whole [] = pos 0
value_of_whole (b ∷ bytes) =
    if b == PLUS then pos (digits_value bytes)
    else if b == MINUS then pos 0 -ℤ pos (digits_value bytes)
    else pos (digits_value (b ∷ bytes))

-- the digits before the exponent as one whole number, with the sign of the numeral
abbrev pub mantissa : Numeral → ℤ
mantissa n = with_sign n.sign (digits_value (n.whole ++ fraction_digits n.fraction))

-- the number that the exponent writes, 0 where there is none
abbrev pub exponent_value : Option Exponent → ℤ
exponent_value None = pos 0
exponent_value (Some e) = with_sign e.sign (digits_value e.digits)

-- the value of a numeral is its mantissa times ten to this power
abbrev pub power_of_ten : Numeral → ℤ
power_of_ten n = exponent_value n.exponent -ℤ pos (length (fraction_digits n.fraction))

-- t is m times ten to the power e
abbrev pub IsTimesTen : ℤ → ℤ → ℤ → Type 0
IsTimesTen m (pos e) t = t ≡ m *ℤ pos (10 ^ e)
IsTimesTen m (negsuc e) t = t *ℤ pos (10 ^ (e + 1)) ≡ m

-- t is 1,000 times the value of the numeral
abbrev pub IsThousandths : Numeral → ℤ → Type 0
IsThousandths n t = IsTimesTen (mantissa n) (power_of_ten n +ℤ pos 3) t
