-- A word cut into parts, as the program holds them.
use Rattle.std.specs.Prelude.{◌≡◌, ℕ, Bool, true, false, List, is_some}
use Rattle.gml_text.specs.Numerals.{Sign, no_sign, plus, minus, fraction_digits}
use Rattle.gml_text.specs.NumeralKinds.{exponent_of, parts_of}

abbrev pub is_minus : Sign → Bool
is_minus no_sign = false
is_minus plus = false
is_minus minus = true

-- these are the parts of the word, the exponent still with its letter
pub record HasTheParts (word : List ℕ) (is_negative : Bool) (whole : List ℕ) (has_point : Bool)
    (fraction exponent : List ℕ) : Type 0 where
  pub negative : is_negative ≡ is_minus (parts_of word).sign
  pub whole_part : whole ≡ (parts_of word).whole
  pub point : has_point ≡ is_some (parts_of word).fraction
  pub fraction_part : fraction ≡ fraction_digits (parts_of word).fraction
  pub exponent_part : exponent_of exponent ≡ (parts_of word).exponent
