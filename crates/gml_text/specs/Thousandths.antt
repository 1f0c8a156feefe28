-- The value of a numeral in thousandths, as a function.
use Rattle.std.specs.Prelude.{ℕ, ◌+◌, ◌^◌, pos, negsuc, ℤ, ◌+ℤ◌, ◌*ℤ◌, List, Option, None, Some}
use Rattle.std.specs.Prelude.{Result, Ok, Err, if◌then◌else◌, nat_le, unsigned_abs, int_div}
use Rattle.std.specs.Ordering.{int_eq}
use Rattle.gml_text.specs.declared.number.NumberFault.{NumberFault}
use Rattle.gml_text.specs.declared.number.NumberFault.TheVariants.{TooFine, OutOfRange}
use Rattle.compact_types.specs.declared.limits.TheConstants.{GREATEST_THOUSANDTHS}
use Rattle.gml_text.specs.Numerals.{mantissa, power_of_ten}
use Rattle.gml_text.specs.NumeralKinds.{parts_of}

-- the quotient, where the division leaves no rest
abbrev pub exact_quotient : ℤ → ℤ → Option ℤ
exact_quotient m d = if int_eq (int_div m d *ℤ d) m then Some (int_div m d) else None

-- m times ten to the power e, where that is whole
abbrev pub times_ten : ℤ → ℤ → Option ℤ
times_ten m (pos e) = Some (m *ℤ pos (10 ^ e))
times_ten m (negsuc e) = exact_quotient m (pos (10 ^ (e + 1)))

-- a number of thousandths that is whole, up to the greatest magnitude of a coordinate
abbrev pub within_range : Option ℤ → Result ℤ NumberFault
within_range None = Err TooFine
within_range (Some t) =
    if nat_le (unsigned_abs t) GREATEST_THOUSANDTHS then Ok t else Err OutOfRange

-- a numeral's value in thousandths, or why it is refused
unfoldable pub thousandths_of : List ℕ → Result ℤ NumberFault
thousandths_of word =
    within_range (times_ten (mantissa (parts_of word)) (power_of_ten (parts_of word) +ℤ pos 3))
