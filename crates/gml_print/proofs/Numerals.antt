-- The text of a number is a whole numeral with that value.
use Rattle.std.proofs.Common.{◌≡◌, ℕ, ℤ, pos, negsuc, suc, ◌+◌, ◌-◌, ◌*◌, ◌/◌, ◌%◌, ◌^◌, ◌<◌, ◌≤◌, ◌==◌, true, false, List, [], ◌∷◌, ◌++◌, length, length-append, decimal, ap, refl, ◌∙◌, arith, w64}
use Rattle.std.specs.Prelude.{◌-ℤ◌}
use Rattle.std.specs.List.{list_all}
use Rattle.std.specs.Int.RustNames.{FitsSigned}
use Rattle.std.proofs.lemmas.Bool.{and_parts}
use Rattle.std.proofs.lemmas.Int.{ints}
use Rattle.std.proofs.lemmas.Fmt.{decimal_by_steps}
use Rattle.std.proofs.lemmas.List.Folds.{list_all-append}
use Rattle.std.proofs.lemmas.Bool.Decides.{nat_tests}
use Rattle.gml_text.proofs.Laws.{all-are_digits}
use Rattle.gml_text.specs.Bytes.{is_digit}
use Rattle.gml_text.specs.Numerals.{is_sign, is_whole_numeral, digits_value_from, digits_value, value_of_whole}
use Rattle.gml_print.specs.Numbers.{number_text}

-- the list is the digits of a number
pub record AreDigitsOf (n : ℕ) (list : List ℕ) : Type 0 where
  pub digits : list_all is_digit list ≡ true
  pub value : digits_value list ≡ n
  pub some : 0 < length list

digit_byte : (d : ℕ) → d < 10 → is_digit (48 + d) ≡ true
digit_byte d h = grind (arith, nat_tests)

digits_value_push : (before : ℕ) (digits : List ℕ) (b : ℕ) →
    digits_value_from before (digits ++ b ∷ []) ≡ digits_value_from before digits * 10 + (b - 48)
digits_value_push before [] b = refl
digits_value_push before (c ∷ digits) b = digits_value_push (before * 10 + (c - 48)) digits b

digits_push : (digits : List ℕ) (d : ℕ) → d < 10 → list_all is_digit digits ≡ true → list_all is_digit (digits ++ (48 + d) ∷ []) ≡ true
digits_push digits d h all = rw (list_all-append is_digit digits ((48 + d) ∷ []), all, digit_byte d h) refl

one_digit : (n : ℕ) → n < 10 → AreDigitsOf n ((48 + n) ∷ [])
one_digit n h = record { digits = digits_push [] n h refl; value = omega arith; some = omega arith }

one_more_digit : (n : ℕ) (digits : List ℕ) → 10 ≤ n → AreDigitsOf (n / 10) digits → AreDigitsOf n (digits ++ (48 + n % 10) ∷ [])
one_more_digit n digits h front = record {
  digits = digits_push digits (n % 10) (omega arith) front.digits;
  value = digits_value_push 0 digits (48 + n % 10) ∙ omega (arith, front.value);
  some = omega (arith, length-append {A = ℕ});
}

pub decimal_digits : (n : ℕ) → n < 2 ^ 64 → AreDigitsOf n (decimal n)
decimal_digits = decimal_by_steps AreDigitsOf one_digit one_more_digit

-- a digit is no sign
record IsNoSign (b : ℕ) : Type 0 where
  sign : is_sign b ≡ false
  plus : (b == 43) ≡ false
  minus : (b == 45) ≡ false

no_sign : (b : ℕ) → is_digit b ≡ true → IsNoSign b
no_sign b h = record { sign = grind (arith, nat_tests); plus = grind (arith, nat_tests); minus = grind (arith, nat_tests) }

-- digits without a sign
whole_from_digits : (digits : List ℕ) → list_all is_digit digits ≡ true → 0 < length digits →
    (is_whole_numeral digits ≡ true) × (value_of_whole digits ≡ pos (digits_value digits))
whole_from_digits [] all some = absurd (omega arith)
whole_from_digits (b ∷ digits) all some =
    let no = no_sign b (and_parts (is_digit b) (list_all is_digit digits) all).0 in
    (rw (no.sign) all, rw (no.plus, no.minus) refl)

pub number_text_is_whole : (number : ℤ) → FitsSigned w64 number → is_whole_numeral (number_text number) ≡ true
number_text_is_whole (pos n) fits = let of = decimal_digits n (omega (arith, fits.sfits)) in (whole_from_digits (decimal n) of.digits of.some).0
number_text_is_whole (negsuc n) fits = let of = decimal_digits (suc n) (omega (arith, fits.sfits)) in all-are_digits (decimal (suc n)) of.digits of.some

pub value_of_number_text : (number : ℤ) → FitsSigned w64 number → value_of_whole (number_text number) ≡ number
value_of_number_text (pos n) fits =
    let of = decimal_digits n (omega (arith, fits.sfits)) in
    (whole_from_digits (decimal n) of.digits of.some).1 ∙ ap pos of.value
value_of_number_text (negsuc n) fits =
    let of = decimal_digits (suc n) (omega (arith, fits.sfits)) in
    ap (λ value. pos 0 -ℤ pos value) of.value ∙ omega (arith, ints)
