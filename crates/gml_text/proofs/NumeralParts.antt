-- A numeral has one way to be split into its parts.
use Rattle.std.proofs.Common.{◌≡◌, ℕ, ◌+◌, ◌<◌, Bool, true, false, cond, List, [], ◌∷◌, ◌++◌, length, take, Option, None, Some, refl, sym, ap, add_comm, add-one, ◌∙◌, ◌⊎◌, inl, inr, arith, ◌&&◌, ◌||◌}
use Rattle.std.proofs.lemmas.Bool.{and_parts}
use Rattle.std.specs.Prelude.{◌==◌, nat_lt}
use Rattle.std.specs.List.{list_all, prefix_len}
use Rattle.std.proofs.lemmas.List.{take-append-drop, take_at, drop_at}
use Rattle.std.proofs.lemmas.Bool.Decides.{nat_tests}
use Rattle.gml_text.specs.Bytes.{is_digit}
use Rattle.gml_text.specs.Numerals.{Sign, no_sign, plus, minus, Exponent, Numeral, HasParts, IsNumeral, IsExponent, sign_text, fraction_digits, fraction_text, exponent_text, numeral_text, are_digits, is_sign}
use Rattle.gml_text.specs.NumeralKinds.{sign_of, after_sign, front_digits, after_digits, fraction_of, after_fraction, exponent_of, parts_after, parts_of, is_exponent, has_digit}

-- ---- the parts write the word

pub sign_written : (word : List ℕ) → sign_text (sign_of word) ++ after_sign word ≡ word
sign_written [] = refl
sign_written (b ∷ bytes) = grind (arith, nat_tests)

pub fraction_written : (text : List ℕ) → fraction_text (fraction_of text) ++ after_fraction text ≡ text
fraction_written [] = refl
fraction_written (b ∷ bytes) = grind (arith, nat_tests, take-append-drop)

pub exponent_written : (text : List ℕ) → exponent_text (exponent_of text) ≡ text
exponent_written [] = refl
exponent_written (b ∷ bytes) = ap (λ x. b ∷ x) (sign_written bytes)

pub parts_written : (word : List ℕ) → numeral_text (parts_of word) ≡ word
unfolding parts_of
parts_written word =
    let body = after_sign word in
    let rest = after_digits body in
    simp (exponent_written (after_fraction rest), fraction_written rest, take-append-drop, sign_written)

pub all_digits : (text : List ℕ) → list_all is_digit (front_digits text) ≡ true
all_digits [] = refl
all_digits (b ∷ text) =
    elim (is_digit b) as (λ d. is_digit b ≡ d → list_all is_digit (take (cond d (1 + prefix_len is_digit text) 0) (b ∷ text)) ≡ true) [
      | true ↦ λ e. rw (add_comm 1 (prefix_len is_digit text), add-one) (grind (arith, all_digits text, e))
      | false ↦ λ e. refl
    ] refl

-- ---- and no other parts do

-- the first byte is a digit
abbrev pub begins_digit : List ℕ → Bool
begins_digit [] = false
begins_digit (b ∷ text) = is_digit b

-- the first byte is a sign
abbrev pub begins_sign : List ℕ → Bool
begins_sign [] = false
begins_sign (b ∷ text) = is_sign b

pub count_of_digits : (digits text : List ℕ) → list_all is_digit digits ≡ true → begins_digit text ≡ false →
    prefix_len is_digit (digits ++ text) ≡ length digits
count_of_digits [] [] h k = refl
count_of_digits [] (b ∷ text) h k = rw k refl
count_of_digits (b ∷ digits) text h k =
    let e = and_parts (is_digit b) (list_all is_digit digits) h in
    rw (e.0) (omega (arith, count_of_digits digits text e.1 k))

pub front_of : (digits text : List ℕ) → list_all is_digit digits ≡ true → begins_digit text ≡ false →
    front_digits (digits ++ text) ≡ digits
front_of digits text h k = take_at digits text (prefix_len is_digit (digits ++ text)) (sym (count_of_digits digits text h k))

pub rest_of : (digits text : List ℕ) → list_all is_digit digits ≡ true → begins_digit text ≡ false →
    after_digits (digits ++ text) ≡ text
rest_of digits text h k = drop_at digits text (prefix_len is_digit (digits ++ text)) (sym (count_of_digits digits text h k))

pub sign_read : (sign : Sign) (text : List ℕ) → begins_sign text ≡ false → sign_of (sign_text sign ++ text) ≡ sign
sign_read no_sign [] h = refl
sign_read no_sign (b ∷ text) h = grind (arith, nat_tests)
sign_read plus text h = refl
sign_read minus text h = refl

pub after_sign_read : (sign : Sign) (text : List ℕ) → begins_sign text ≡ false → after_sign (sign_text sign ++ text) ≡ text
after_sign_read no_sign [] h = refl
after_sign_read no_sign (b ∷ text) h = grind (arith, nat_tests)
after_sign_read plus text h = refl
after_sign_read minus text h = refl

pub digit_is_no_sign : (b : ℕ) → is_digit b ≡ true → is_sign b ≡ false
digit_is_no_sign b h = grind (arith, nat_tests)

-- the first byte is a point
abbrev pub begins_point : List ℕ → Bool
begins_point [] = false
begins_point (b ∷ text) = b == 46

letter_no_digit : (b : ℕ) → (b ≡ 101) ⊎ (b ≡ 69) → is_digit b ≡ false
letter_no_digit b (inl e) = rw e refl
letter_no_digit b (inr e) = rw e refl

letter_no_point : (b : ℕ) → (b ≡ 101) ⊎ (b ≡ 69) → (b == 46) ≡ false
letter_no_point b (inl e) = rw e refl
letter_no_point b (inr e) = rw e refl

same_exponent : (e : Exponent) {s : Sign} {ds : List ℕ} → s ≡ e.sign → ds ≡ e.digits →
    let x : Exponent = record { letter = e.letter; sign = s; digits = ds } in x ≡ e
same_exponent e p q = rw (p, q) refl

no_point_no_fraction : (text : List ℕ) → begins_point text ≡ false → fraction_of text ≡ None
no_point_no_fraction [] h = refl
no_point_no_fraction (b ∷ text) h = rw h refl

no_point_all_after : (text : List ℕ) → begins_point text ≡ false → after_fraction text ≡ text
no_point_all_after [] h = refl
no_point_all_after (b ∷ text) h = rw h refl

pub exponent_no_digit : (e : Option Exponent) → IsExponent e → begins_digit (exponent_text e) ≡ false
exponent_no_digit None h = refl
exponent_no_digit (Some e) h = letter_no_digit e.letter h.0

pub exponent_no_point : (e : Option Exponent) → IsExponent e → begins_point (exponent_text e) ≡ false
exponent_no_point None h = refl
exponent_no_point (Some e) h = letter_no_point e.letter h.0

pub digits_no_sign : (digits : List ℕ) → list_all is_digit digits ≡ true → begins_sign digits ≡ false
digits_no_sign [] h = refl
digits_no_sign (b ∷ digits) h = digit_is_no_sign b (and_parts (is_digit b) (list_all is_digit digits) h).0

pub exponent_read : (e : Option Exponent) → IsExponent e → exponent_of (exponent_text e) ≡ e
exponent_read None h = refl
exponent_read (Some e) h = ap Some (same_exponent e (sign_read e.sign e.digits (digits_no_sign e.digits h.1)) (after_sign_read e.sign e.digits (digits_no_sign e.digits h.1)))

pub fraction_no_digit : (f : Option (List ℕ)) (e : Option Exponent) → IsExponent e → begins_digit (fraction_text f ++ exponent_text e) ≡ false
fraction_no_digit None e h = exponent_no_digit e h
fraction_no_digit (Some digits) e h = refl

pub fraction_read : (f : Option (List ℕ)) (e : Option Exponent) → list_all is_digit (fraction_digits f) ≡ true → IsExponent e →
    fraction_of (fraction_text f ++ exponent_text e) ≡ f
fraction_read None e k h = no_point_no_fraction (exponent_text e) (exponent_no_point e h)
fraction_read (Some digits) e k h = ap Some (front_of digits (exponent_text e) k (exponent_no_digit e h))

pub after_fraction_read : (f : Option (List ℕ)) (e : Option Exponent) → list_all is_digit (fraction_digits f) ≡ true → IsExponent e →
    after_fraction (fraction_text f ++ exponent_text e) ≡ exponent_text e
after_fraction_read None e k h = no_point_all_after (exponent_text e) (exponent_no_point e h)
after_fraction_read (Some digits) e k h = rest_of digits (exponent_text e) k (exponent_no_digit e h)

pub body_no_sign : (whole : List ℕ) (f : Option (List ℕ)) (e : List ℕ) → list_all is_digit whole ≡ true →
    0 < length whole + length (fraction_digits f) → begins_sign (whole ++ (fraction_text f ++ e)) ≡ false
body_no_sign [] None e h k = absurd (omega arith)
body_no_sign [] (Some digits) e h k = refl
body_no_sign (b ∷ whole) f e h k = digit_is_no_sign b (and_parts (is_digit b) (list_all is_digit whole) h).0

same_numeral : (n : Numeral) {s : Sign} {w : List ℕ} {f : Option (List ℕ)} {e : Option Exponent} →
    s ≡ n.sign → w ≡ n.whole → f ≡ n.fraction → e ≡ n.exponent →
    let m : Numeral = record { sign = s; whole = w; fraction = f; exponent = e } in m ≡ n
same_numeral n p q r t = rw (p, q, r, t) refl

parts_from : (n : Numeral) (sign : Sign) (body : List ℕ) → sign ≡ n.sign → front_digits body ≡ n.whole →
    fraction_of (after_digits body) ≡ n.fraction → exponent_of (after_fraction (after_digits body)) ≡ n.exponent →
    parts_after sign body ≡ n
parts_from n sign body s w f e = same_numeral n s w f e

pub parts_are : (n : Numeral) → IsNumeral n → parts_of (numeral_text n) ≡ n
unfolding parts_of
parts_are n h =
    let after : List ℕ = fraction_text n.fraction ++ exponent_text n.exponent in
    let unsigned : begins_sign (n.whole ++ after) ≡ false =
    body_no_sign n.whole n.fraction (exponent_text n.exponent) h.whole h.some_digit in
    let s : sign_of (numeral_text n) ≡ n.sign = sign_read n.sign (n.whole ++ after) unsigned in
    let t : after_sign (numeral_text n) ≡ n.whole ++ after = after_sign_read n.sign (n.whole ++ after) unsigned in
    let d : begins_digit after ≡ false = fraction_no_digit n.fraction n.exponent h.exponent in
    parts_from n (sign_of (numeral_text n)) (after_sign (numeral_text n)) s
    (ap front_digits t ∙ front_of n.whole after h.whole d)
    (ap fraction_of (ap after_digits t ∙ rest_of n.whole after h.whole d) ∙ fraction_read n.fraction n.exponent h.fraction h.exponent)
    (ap exponent_of (ap after_fraction (ap after_digits t ∙ rest_of n.whole after h.whole d) ∙ after_fraction_read n.fraction n.exponent h.fraction h.exponent)
    ∙ exponent_read n.exponent h.exponent)

-- whatever parts a word has are those that are read
pub parts_of-is : (word : List ℕ) (n : Numeral) → HasParts word n → parts_of word ≡ n
parts_of-is word n p = ap parts_of p.written ∙ parts_are n p.numeral

-- ---- the tests of the parts

pub are_digits-all : (digits : List ℕ) → are_digits digits ≡ true → list_all is_digit digits ≡ true
are_digits-all [] h = cc
are_digits-all (b ∷ digits) h = h

pub are_digits-some : (digits : List ℕ) → are_digits digits ≡ true → 0 < length digits
are_digits-some [] h = cc
are_digits-some (b ∷ digits) h = omega arith

pub all-are_digits : (digits : List ℕ) → list_all is_digit digits ≡ true → 0 < length digits → are_digits digits ≡ true
all-are_digits [] h k = absurd (omega arith)
all-are_digits (b ∷ digits) h k = h

letter_from_test : (b : ℕ) → ((b == 101) || (b == 69)) ≡ true → (b ≡ 101) ⊎ (b ≡ 69)
letter_from_test b h = grind (arith, nat_tests)

test_from_letter : (b : ℕ) → (b ≡ 101) ⊎ (b ≡ 69) → ((b == 101) || (b == 69)) ≡ true
test_from_letter b (inl e) = rw e refl
test_from_letter b (inr e) = rw e refl

pub exponent_from_test : (e : Option Exponent) → is_exponent e ≡ true → IsExponent e
exponent_from_test None h = tt
exponent_from_test (Some e) h =
    let both = and_parts ((e.letter == 101) || (e.letter == 69)) (are_digits e.digits) h in
    (letter_from_test e.letter both.0, are_digits-all e.digits both.1, are_digits-some e.digits both.1)

pub test_from_exponent : (e : Option Exponent) → IsExponent e → is_exponent e ≡ true
test_from_exponent None h = refl
test_from_exponent (Some e) h = rw (test_from_letter e.letter h.0, all-are_digits e.digits h.1 h.2) refl

fraction_all_digits : (text : List ℕ) → list_all is_digit (fraction_digits (fraction_of text)) ≡ true
fraction_all_digits [] = refl
fraction_all_digits (b ∷ text) =
    elim (b == 46) as (λ d. list_all is_digit (fraction_digits (cond d (Some (front_digits text)) None)) ≡ true) [
      | true ↦ all_digits text
      | false ↦ refl
    ]

above_zero : (n : ℕ) → nat_lt 0 n ≡ true → 0 < n
above_zero n h = grind (arith, nat_tests)

pub parts_from_tests : (word : List ℕ) → (has_digit (parts_of word) && is_exponent (parts_of word).exponent) ≡ true → HasParts word (parts_of word)
unfolding parts_of
parts_from_tests word h =
    let both = and_parts (has_digit (parts_of word)) (is_exponent (parts_of word).exponent) h in
    record {
      numeral = record {
        whole = all_digits (after_sign word);
        fraction = fraction_all_digits (after_digits (after_sign word));
        some_digit = above_zero (length (parts_of word).whole + length (fraction_digits (parts_of word).fraction)) both.0;
        exponent = exponent_from_test (parts_of word).exponent both.1;
      };
      written = sym (parts_written word);
    }

pub tests_from_parts : (n : Numeral) → IsNumeral n → (has_digit n && is_exponent n.exponent) ≡ true
tests_from_parts n h = rw (test_from_exponent n.exponent h.exponent) (grind (arith, nat_tests, h.some_digit))
