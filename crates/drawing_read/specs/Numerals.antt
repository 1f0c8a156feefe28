-- Numbers under a key.
use Rattle.std.specs.Prelude.{ℕ, ◌-◌, ◌^◌, pos, ℤ, ◌-ℤ◌, Bool, ◌&&◌, List, Option, None}
use Rattle.std.specs.Prelude.{Some, if◌then◌else◌, option_and_then, codes, int_le}
use Rattle.std.specs.Option.{option_map, option_map_or}
use Rattle.gml_text.specs.declared.tree.Pair.{Pair}
use Rattle.gml_text.specs.declared.tree.Value.{Value}
use Rattle.gml_text.specs.declared.tree.Value.TheVariants.{Whole, Real, Text, Inner}
use Rattle.gml_text.specs.Numerals.{value_of_whole}
use Rattle.drawing_read.specs.declared.numerals.Number.{Number}
use Rattle.drawing_read.specs.declared.numerals.Numbers.{Numbers}
use Rattle.drawing_read.specs.declared.numerals.WholeNumber.{WholeNumber}
use Rattle.drawing_read.specs.declared.numerals.WholeNumber.TheVariants.{Absent, Other}
use Rattle.drawing_read.specs.declared.numerals.WholeNumber.TheVariants.{Beyond, Fits}
use Rattle.drawing_read.specs.Lookups.{first_under}
use Rattle.gml_text.specs.Thousandths.{thousandths_of}

-- the word of a value that is a numeral
abbrev pub numeral_in : Value → Option (List ℕ)
numeral_in (Whole word) = Some word
numeral_in (Real word) = Some word
numeral_in (Text inside) = None
numeral_in (Inner tree) = None

-- the number of a pair whose value is a numeral
abbrev pub number_of : Pair → Option Number
number_of pair =
    option_map (λ word. record { at = pair.at; value = thousandths_of word })
    (numeral_in pair.value)

-- the number under a key
abbrev pub number_under : List ℕ → List Pair → Option Number
number_under key pairs = option_and_then number_of (first_under key pairs)

-- the x and the y of a list, where both are numerals
abbrev pub numbers_in : List Pair → Option Numbers
numbers_in pairs = option_and_then
    (λ x. option_map (λ y. record { x = x; y = y }) (number_under (codes "y") pairs))
    (number_under (codes "x") pairs)

-- the number is one of 64 bits with a sign
abbrev pub fits_64 : ℤ → Bool
fits_64 z = int_le (pos 0 -ℤ pos (2 ^ 63)) z && int_le z (pos (2 ^ 63 - 1))

-- what a value is that should be a whole numeral
abbrev pub whole_in : Value → WholeNumber
whole_in (Whole word) = if fits_64 (value_of_whole word) then Fits (value_of_whole word) else Beyond
whole_in (Real word) = Other
whole_in (Text inside) = Other
whole_in (Inner tree) = Other

-- what stands under a key that should be a whole numeral
abbrev pub whole_under : List ℕ → List Pair → WholeNumber
whole_under key pairs = option_map_or (λ pair. whole_in pair.value) (first_under key pairs) Absent
