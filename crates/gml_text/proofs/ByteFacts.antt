-- Which classes of bytes exclude or contain one another.
use Rattle.std.proofs.Common.{◌≡◌, ℕ, true, false, eqb, arith}
use Rattle.std.proofs.lemmas.Bool.Decides.{nat_tests}
use Rattle.gml_text.specs.Bytes.{is_digit, is_space, is_word_byte, begins_key, goes_on_key, begins_numeral}

pub begins_key-no_space : (b : ℕ) → begins_key b ≡ true → is_space b ≡ false
begins_key-no_space b h = grind (arith, nat_tests)

pub begins_key-no_comment : (b : ℕ) → begins_key b ≡ true → eqb b 35 ≡ false
begins_key-no_comment b h = grind (arith, nat_tests)

pub begins_key-no_close : (b : ℕ) → begins_key b ≡ true → eqb b 93 ≡ false
begins_key-no_close b h = grind (arith, nat_tests)

pub begins_key-goes_on : (b : ℕ) → begins_key b ≡ true → goes_on_key b ≡ true
begins_key-goes_on b h = grind (arith, nat_tests)

pub goes_on_key-word : (b : ℕ) → goes_on_key b ≡ true → is_word_byte b ≡ true
goes_on_key-word b h = grind (arith, nat_tests)

pub is_space-no_word : (b : ℕ) → is_space b ≡ true → is_word_byte b ≡ false
is_space-no_word b h = grind (arith, nat_tests)

pub is_digit-word : (b : ℕ) → is_digit b ≡ true → is_word_byte b ≡ true
is_digit-word b h = grind (arith, nat_tests)

pub begins_numeral-no_space : (b : ℕ) → begins_numeral b ≡ true → is_space b ≡ false
begins_numeral-no_space b h = grind (arith, nat_tests)

pub begins_numeral-no_quote : (b : ℕ) → begins_numeral b ≡ true → eqb b 34 ≡ false
begins_numeral-no_quote b h = grind (arith, nat_tests)

pub begins_numeral-no_list : (b : ℕ) → begins_numeral b ≡ true → eqb b 91 ≡ false
begins_numeral-no_list b h = grind (arith, nat_tests)

pub begins_numeral-word : (b : ℕ) → begins_numeral b ≡ true → is_word_byte b ≡ true
begins_numeral-word b h = grind (arith, nat_tests)
