-- A number of thousandths by the digits of a numeral and by the powers of ten above and below them.
use Rattle.std.specs.Prelude.{◌≡◌, ℤ, pos, ◌-ℤ◌, ℕ, ◌+◌, ◌*◌, ◌^◌, ◌<◌, ◌≤◌, ◌-◌, ◌%◌, ◌≢◌, ◌++◌}
use Rattle.std.specs.Prelude.{length, Bool, true, false, List, [], ◌∷◌, ◌==◌, Option, None, Some}
use Rattle.std.specs.Prelude.{Result, Ok, Err}
use Rattle.std.specs.List.{list_all}
use Rattle.compact_types.specs.declared.limits.TheConstants.{GREATEST_THOUSANDTHS}
use Rattle.gml_text.specs.declared.marks.TheConstants.{ZERO}
use Rattle.gml_text.specs.Bytes.{is_digit}
use Rattle.gml_text.specs.declared.number.NumberFault.{NumberFault}
use Rattle.gml_text.specs.declared.number.NumberFault.TheVariants.{TooFine, OutOfRange}
use Rattle.gml_text.specs.Numerals.{Sign, no_sign, plus, minus, Exponent, digits_value}

-- whether the last digit is 0, or `before` where there is no digit
abbrev pub ends_in_zero_after : Bool → List ℕ → Bool
ends_in_zero_after before [] = before
ends_in_zero_after before (b ∷ digits) = ends_in_zero_after (b == ZERO) digits

abbrev pub ends_in_zero : List ℕ → Bool
ends_in_zero digits = ends_in_zero_after false digits

abbrev pub tens_above_by : Sign → ℕ → ℕ
tens_above_by no_sign n = n
tens_above_by plus n = n
tens_above_by minus n = 0

abbrev pub tens_below_by : Sign → ℕ → ℕ
tens_below_by no_sign n = 0
tens_below_by plus n = 0
tens_below_by minus n = n

-- the power of ten by which the exponent multiplies
abbrev pub tens_above : Option Exponent → ℕ
tens_above None = 0
tens_above (Some e) = tens_above_by e.sign (digits_value e.digits)

-- the power of ten by which the exponent divides
abbrev pub tens_below : Option Exponent → ℕ
tens_below None = 0
tens_below (Some e) = tens_below_by e.sign (digits_value e.digits)

-- t is the number times ten to the power `above`, divided by ten to the power `below`
abbrev pub IsDecimalShift : (number above below t : ℕ) → Type 0
IsDecimalShift number above below t = t * 10 ^ below ≡ number * 10 ^ above

-- the answer is that t, within the range, or says why there is none
abbrev pub IsRaisedOrFault : (number above below : ℕ) → Result ℕ NumberFault → Type 0
IsRaisedOrFault number above below (Ok t) =
    IsDecimalShift number above below t × (t ≤ GREATEST_THOUSANDTHS)
IsRaisedOrFault number above below (Err TooFine) = (t : ℕ) → IsDecimalShift number above below t → ⊥
IsRaisedOrFault number above below (Err OutOfRange) =
    (t : ℕ) × IsDecimalShift number above below t × (GREATEST_THOUSANDTHS < t)

-- these are left of the digits without the zeros at their end
pub record IsWithoutEndZeros (whole fraction kept_whole kept_fraction : List ℕ) : Type 0 where
  pub whole_within : length kept_whole ≤ length whole
  pub fraction_within : length kept_fraction ≤ length fraction
  pub whole_digits : list_all is_digit kept_whole ≡ true
  pub fraction_digits : list_all is_digit kept_fraction ≡ true
  pub number : digits_value (whole ++ fraction) ≡
      digits_value (kept_whole ++ kept_fraction) *
      10 ^ ((length whole - length kept_whole) + (length fraction - length kept_fraction))
  pub last : 0 < length kept_whole + length kept_fraction →
      digits_value (kept_whole ++ kept_fraction) % 10 ≢ 0

-- the magnitude with a sign
abbrev pub signed : Bool → ℕ → ℤ
signed true n = pos 0 -ℤ pos n
signed false n = pos n

abbrev pub signed_answer : Bool → Result ℕ NumberFault → Result ℤ NumberFault
signed_answer is_negative (Ok n) = Ok (signed is_negative n)
signed_answer is_negative (Err fault) = Err fault
