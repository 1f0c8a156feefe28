-- Keys and numerals are words.
use Rattle.std.proofs.Common.{◌≡◌, ℕ, ◌+◌, ◌<◌, ◌⊎◌, inl, inr, Bool, true, false, List, [], ◌∷◌, ◌++◌, length, Option, None, Some, refl, sym, ◌∙◌, ap, subst, arith}
use Rattle.std.specs.List.{list_all}
use Rattle.std.proofs.lemmas.List.Folds.{list_all-append}
use Rattle.std.proofs.lemmas.Bool.{and_from, cond-false, cond-true}
use Rattle.std.proofs.lemmas.Bool.Decides.{nat_tests}
use Rattle.gml_text.specs.Bytes.{is_digit, is_space, is_word_byte, begins_key, goes_on_key, begins_numeral, is_key, are_spaces, ends_in_word, ends_in_word_after, begins_with_word}
use Rattle.gml_text.specs.Numerals.{Sign, no_sign, plus, minus, Exponent, Numeral, sign_text, fraction_text, fraction_digits, exponent_text, IsNumeral, IsExponent, HasParts, IsRealNumeral, is_whole_numeral, is_sign, are_digits}
use Rattle.gml_text.proofs.ByteFacts.{begins_key-goes_on, goes_on_key-word, is_space-no_word, is_digit-word}
use Rattle.gml_text.proofs.LongestFronts.{begins, and-left, and-right, list_all-weaken}

pub is_key-word : (key : List ℕ) → is_key key ≡ true → list_all is_word_byte key ≡ true
is_key-word [] h = refl
is_key-word (b ∷ key) h =
    list_all-weaken goes_on_key is_word_byte (b ∷ key) goes_on_key-word
    (and_from (goes_on_key b) (list_all goes_on_key key) (begins_key-goes_on b (and-left (begins_key b) (list_all goes_on_key key) h))
    (and-right (begins_key b) (list_all goes_on_key key) h))

pub is_key-some : (key : List ℕ) → is_key key ≡ true → 0 < length key
is_key-some [] h = absurd cc
is_key-some (b ∷ key) h = omega arith

pub append-word : (front text : List ℕ) → list_all is_word_byte front ≡ true → list_all is_word_byte text ≡ true → list_all is_word_byte (front ++ text) ≡ true
append-word front text f t = list_all-append is_word_byte front text ∙ and_from (list_all is_word_byte front) (list_all is_word_byte text) f t

pub digits-word : (digits : List ℕ) → list_all is_digit digits ≡ true → list_all is_word_byte digits ≡ true
digits-word digits h = list_all-weaken is_digit is_word_byte digits is_digit-word h

sign-word : (sign : Sign) → list_all is_word_byte (sign_text sign) ≡ true
sign-word no_sign = refl
sign-word plus = refl
sign-word minus = refl

fraction-word : (fraction : Option (List ℕ)) → list_all is_digit (fraction_digits fraction) ≡ true → list_all is_word_byte (fraction_text fraction) ≡ true
fraction-word None h = refl
fraction-word (Some digits) h = digits-word digits h

letter-word : (b : ℕ) → (b ≡ 101) ⊎ (b ≡ 69) → is_word_byte b ≡ true
letter-word b (inl e) = ap is_word_byte e
letter-word b (inr e) = ap is_word_byte e

exponent-word : (exponent : Option Exponent) → IsExponent exponent → list_all is_word_byte (exponent_text exponent) ≡ true
exponent-word None h = refl
exponent-word (Some e) h =
    and_from (is_word_byte e.letter) (list_all is_word_byte (sign_text e.sign ++ e.digits)) (letter-word e.letter h.0)
    (append-word (sign_text e.sign) e.digits (sign-word e.sign) (digits-word e.digits h.1))

-- a word that begins as a numeral does
pub record IsNumeralWord (word : List ℕ) : Type 0 where
  pub all : list_all is_word_byte word ≡ true
  pub first : begins begins_numeral word ≡ true

pub is_digit-numeral : (b : ℕ) → is_digit b ≡ true → begins_numeral b ≡ true
is_digit-numeral b h = grind (arith, nat_tests)

body-first : (whole : List ℕ) (fraction : Option (List ℕ)) (more : List ℕ) → list_all is_digit whole ≡ true →
    0 < length whole + length (fraction_digits fraction) → begins begins_numeral (whole ++ (fraction_text fraction ++ more)) ≡ true
body-first [] None more digits some = absurd (omega arith)
body-first [] (Some after) more digits some = refl
body-first (b ∷ whole) fraction more digits some = is_digit-numeral b (and-left (is_digit b) (list_all is_digit whole) digits)

parts-first : (n : Numeral) (sign : Sign) → IsNumeral n →
    begins begins_numeral (sign_text sign ++ (n.whole ++ (fraction_text n.fraction ++ exponent_text n.exponent))) ≡ true
parts-first n no_sign h = body-first n.whole n.fraction (exponent_text n.exponent) h.whole h.some_digit
parts-first n plus h = refl
parts-first n minus h = refl

pub IsNumeralWord-from_parts : (word : List ℕ) (n : Numeral) → HasParts word n → IsNumeralWord word
IsNumeralWord-from_parts word n parts =
    let numeral = parts.numeral in
    subst IsNumeralWord (sym parts.written) (record {
      all = append-word (sign_text n.sign) (n.whole ++ (fraction_text n.fraction ++ exponent_text n.exponent)) (sign-word n.sign)
          (append-word n.whole (fraction_text n.fraction ++ exponent_text n.exponent) (digits-word n.whole numeral.whole)
          (append-word (fraction_text n.fraction) (exponent_text n.exponent) (fraction-word n.fraction numeral.fraction)
          (exponent-word n.exponent numeral.exponent)));
      first = parts-first n n.sign numeral;
    })

pub IsNumeralWord-real : (word : List ℕ) → IsRealNumeral word → IsNumeralWord word
IsNumeralWord-real word real = IsNumeralWord-from_parts word real.0 real.1

are_digits-all : (bytes : List ℕ) → are_digits bytes ≡ true → list_all is_digit bytes ≡ true
are_digits-all [] h = refl
are_digits-all (b ∷ bytes) h = h

is_sign-word : (b : ℕ) → is_sign b ≡ true → is_word_byte b ≡ true
is_sign-word b h = grind (arith, nat_tests)

is_sign-numeral : (b : ℕ) → is_sign b ≡ true → begins_numeral b ≡ true
is_sign-numeral b h = grind (arith, nat_tests)

pub IsNumeralWord-whole : (word : List ℕ) → is_whole_numeral word ≡ true → IsNumeralWord word
IsNumeralWord-whole [] h = absurd cc
IsNumeralWord-whole (b ∷ bytes) h = go (is_sign b) refl
  where
    go : (sign : Bool) → is_sign b ≡ sign → IsNumeralWord (b ∷ bytes)
    go true e =
        let digits : are_digits bytes ≡ true = sym (cond-true (is_sign b) (are_digits bytes) (are_digits (b ∷ bytes)) e) ∙ h in
        record {
          all = and_from (is_word_byte b) (list_all is_word_byte bytes) (is_sign-word b e) (digits-word bytes (are_digits-all bytes digits));
          first = is_sign-numeral b e;
        }
    go false e =
        let digits : are_digits (b ∷ bytes) ≡ true = sym (cond-false (is_sign b) (are_digits bytes) (are_digits (b ∷ bytes)) e) ∙ h in
        record {
          all = digits-word (b ∷ bytes) digits;
          first = is_digit-numeral b (and-left (is_digit b) (list_all is_digit bytes) digits);
        }

-- a text ends as its end does
ends_after : (before : Bool) (front : List ℕ) (b : ℕ) (text : List ℕ) → ends_in_word_after before (front ++ b ∷ text) ≡ ends_in_word (b ∷ text)
ends_after before [] b text = refl
ends_after before (c ∷ front) b text = ends_after (is_word_byte c) front b text

pub ends_in_word-append : (front text : List ℕ) → 0 < length text → ends_in_word (front ++ text) ≡ ends_in_word text
ends_in_word-append front [] some = absurd (omega arith)
ends_in_word-append front (b ∷ text) some = ends_after false front b text

ends_all : (text : List ℕ) → list_all is_word_byte text ≡ true → ends_in_word_after true text ≡ true
ends_all [] h = refl
ends_all (b ∷ text) h =
    ap (λ before. ends_in_word_after before text) (and-left (is_word_byte b) (list_all is_word_byte text) h)
    ∙ ends_all text (and-right (is_word_byte b) (list_all is_word_byte text) h)

pub ends_in_word-word : (word : List ℕ) → 0 < length word → list_all is_word_byte word ≡ true → ends_in_word word ≡ true
ends_in_word-word [] some h = absurd (omega arith)
ends_in_word-word (b ∷ word) some h = ends_all (b ∷ word) h

pub begins-word : (text : List ℕ) → begins is_word_byte text ≡ begins_with_word text
begins-word [] = refl
begins-word (b ∷ text) = refl

pub begins-some : (p : ℕ → Bool) (text : List ℕ) → begins p text ≡ true → 0 < length text
begins-some p [] h = absurd cc
begins-some p (b ∷ text) h = omega arith

-- spaces end a word, and so does what begins with none
pub gap-no_word : (gap text : List ℕ) → are_spaces gap ≡ true → (begins_with_word text ≡ true → gap ≡ [] → ⊥) →
    begins is_word_byte (gap ++ text) ≡ false
gap-no_word (b ∷ gap) text spaces apart = is_space-no_word b (and-left (is_space b) (are_spaces gap) spaces)
gap-no_word [] text spaces apart = go (begins_with_word text) refl
  where
    go : (test : Bool) → begins_with_word text ≡ test → begins is_word_byte text ≡ false
    go true e = absurd (apart e refl)
    go false e = begins-word text ∙ e

pub ends-spaces : (gap : List ℕ) → are_spaces gap ≡ true → ends_in_word gap ≡ false
ends-spaces [] h = refl
ends-spaces (b ∷ gap) h =
    ap (λ before. ends_in_word_after before gap) (is_space-no_word b (and-left (is_space b) (are_spaces gap) h))
    ∙ ends-spaces gap (and-right (is_space b) (are_spaces gap) h)
