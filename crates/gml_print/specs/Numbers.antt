-- The text of a number.
use Rattle.std.specs.Prelude.{ℕ, ℤ, List}
use Rattle.std.specs.Fmt.{signed_decimal}

-- the digits of the number in base ten without leading zeros, behind `-` where it is below zero
abbrev pub number_text : ℤ → List ℕ
number_text number = signed_decimal number
