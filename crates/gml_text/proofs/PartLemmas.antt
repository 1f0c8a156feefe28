-- What the functions that cut a word into its parts need.
use Rattle.std.specs.Prelude.{nat_lt}
use Rattle.std.proofs.Common.{◌≡◌, ℕ, ◌+◌, Bool, cond, List, [], ◌∷◌, length, None, Some, refl, arith, ◌&&◌, ◌||◌}
use Rattle.std.specs.List.{list_all}
use Rattle.std.specs.Option.{is_some}
use Rattle.std.proofs.lemmas.Bool.Decides.{nat_tests}
use Rattle.gml_text.specs.declared.number.NumeralKind.TheVariants.{Whole, Real}
use Rattle.gml_text.specs.Bytes.{is_digit}
use Rattle.gml_text.specs.Numerals.{are_digits}
use Rattle.gml_text.specs.NumeralKinds.{kind_of, is_exponent, exponent_of}
use Rattle.gml_text.specs.inner.Parts.{HasTheParts}

pub are_digits_cases : (digits : List ℕ) → are_digits digits ≡ (nat_lt 0 (length digits) && list_all is_digit digits)
are_digits_cases [] = refl
are_digits_cases (b ∷ digits) = grind (arith, nat_tests)

exponent_is_some : (text : List ℕ) → is_some (exponent_of text) ≡ nat_lt 0 (length text)
exponent_is_some [] = refl
exponent_is_some (b ∷ text) = grind (arith, nat_tests)

pub kind_of_cut : (word : List ℕ) (m : Bool) (whole : List ℕ) (point : Bool) (fraction exponent : List ℕ) →
    HasTheParts word m whole point fraction exponent →
    kind_of word ≡ cond (nat_lt 0 (length whole + length fraction) && is_exponent (exponent_of exponent))
    (cond (point || nat_lt 0 (length exponent)) (Some Real) (Some Whole)) None
unfolding kind_of
kind_of_cut word m whole point fraction exponent h =
    rw (h.whole_part, h.point, h.fraction_part, ← exponent_is_some exponent, h.exponent_part) refl
