-- The function that tells the kind of a word agrees with the definitions of numerals.
use Rattle.std.specs.Prelude.{◌==◌}
use Rattle.std.proofs.lemmas.Bool.{or_parts}
use Rattle.std.proofs.Common.{◌≡◌, ℕ, ◌<◌, Bool, true, false, cond, List, [], ◌∷◌, ◌++◌, length, Option, None, Some, refl, sym, ap, ◌∙◌, ◌⊎◌, inl, inr, arith, ◌&&◌, ◌||◌}
use Rattle.std.specs.Option.{is_some, IsSome}
use Rattle.std.proofs.lemmas.List.{append-nil}
use Rattle.gml_text.specs.declared.number.NumeralKind.{NumeralKind}
use Rattle.gml_text.specs.declared.number.NumeralKind.TheVariants.{Whole, Real}
use Rattle.gml_text.specs.Numerals.{Sign, no_sign, plus, minus, Exponent, Numeral, HasParts, IsNumeral, HasNoPoint, value_of_whole, whole_value, with_sign, digits_value, IsRealNumeral, is_whole_numeral, are_digits, is_sign, sign_text, numeral_text, fraction_digits}
use Rattle.gml_text.specs.NumeralKinds.{kind_of, kind_of_parts, parts_of, has_digit, is_exponent, is_real, is_numeral, sign_of, after_sign}
use Rattle.gml_text.proofs.NumeralParts.{parts_of-is, parts_from_tests, tests_from_parts, sign_written, are_digits-all, are_digits-some, all-are_digits, digits_no_sign, begins_sign}

-- ---- kinds of parts

-- the parts of a numeral are of the one kind or the other
kind_of_numeral : (n : Numeral) → IsNumeral n → kind_of_parts n ≡ cond (is_real n) (Some Real) (Some Whole)
kind_of_numeral n h = rw (tests_from_parts n h) refl

kind_of-parts : (word : List ℕ) (n : Numeral) → HasParts word n → kind_of word ≡ cond (is_real n) (Some Real) (Some Whole)
unfolding kind_of
kind_of-parts word n p = ap kind_of_parts (parts_of-is word n p) ∙ kind_of_numeral n p.numeral

by_kind : (numeral real : Bool) (kind : NumeralKind) → cond numeral (cond real (Some Real) (Some Whole)) None ≡ Some kind →
    (numeral ≡ true) × (cond real (Some Real) (Some Whole) ≡ Some kind)
by_kind true real kind h = (refl, h)
by_kind false real kind h = cc

-- a word that has a kind has parts
pub parts-kind_of : (word : List ℕ) (kind : NumeralKind) → kind_of word ≡ Some kind → HasParts word (parts_of word)
unfolding kind_of
parts-kind_of word kind h =
    parts_from_tests word (by_kind (has_digit (parts_of word) && is_exponent (parts_of word).exponent) (is_real (parts_of word)) kind h).0

kind_is_real : (real : Bool) → cond real (Some Real) (Some Whole) ≡ Some Real → real ≡ true
kind_is_real true h = refl
kind_is_real false h = cc

kind_is_whole : (real : Bool) → cond real (Some Real) (Some Whole) ≡ Some Whole → real ≡ false
kind_is_whole true h = cc
kind_is_whole false h = refl

-- ---- a point or an exponent

real_test : (f : Option (List ℕ)) (e : Option Exponent) → IsSome f ⊎ IsSome e → (is_some f || is_some e) ≡ true
real_test None None (inl h) = cc
real_test None None (inr h) = cc
real_test None (Some e) h = refl
real_test (Some f) e h = refl

test_real : (f : Option (List ℕ)) (e : Option Exponent) → (is_some f || is_some e) ≡ true → IsSome f ⊎ IsSome e
test_real None None h = cc
test_real None (Some e) h = inr refl
test_real (Some f) e h = inl refl

test_no_point : (f : Option (List ℕ)) (e : Option Exponent) → (is_some f || is_some e) ≡ false → (f ≡ None) × (e ≡ None)
test_no_point None None h = (refl, refl)
test_no_point None (Some e) h = cc
test_no_point (Some f) e h = cc

-- ---- whole numerals

abbrev pub whole_parts : List ℕ → Numeral
whole_parts word = record { sign = sign_of word; whole = after_sign word; fraction = None; exponent = None }

whole_digits : (word : List ℕ) → is_whole_numeral word ≡ true → are_digits (after_sign word) ≡ true
whole_digits [] h = h
whole_digits (b ∷ bytes) h =
    elim (is_sign b) as (λ s. cond s (are_digits bytes) (are_digits (b ∷ bytes)) ≡ true → are_digits (cond s bytes (b ∷ bytes)) ≡ true) [
      | true ↦ λ e. e
      | false ↦ λ e. e
    ] h

-- a whole numeral has parts, neither a point nor an exponent among them
pub parts_of_whole : (word : List ℕ) → is_whole_numeral word ≡ true → HasParts word (whole_parts word)
parts_of_whole word h =
    let d = whole_digits word h in
    record {
      numeral = record {
        whole = are_digits-all (after_sign word) d;
        fraction = refl;
        some_digit = omega (arith, are_digits-some (after_sign word) d);
        exponent = tt;
      };
      written = sym (ap (λ x. sign_text (sign_of word) ++ x) (append-nil (after_sign word)) ∙ sign_written word);
    }

signed_digits : (sign : Sign) (digits : List ℕ) → are_digits digits ≡ true → is_whole_numeral (sign_text sign ++ digits) ≡ true
signed_digits no_sign [] h = cc
signed_digits no_sign (b ∷ digits) h = rw (digits_no_sign (b ∷ digits) h) h
signed_digits plus digits h = h
signed_digits minus digits h = h

whole_text : (n : Numeral) → HasNoPoint n → numeral_text n ≡ sign_text n.sign ++ n.whole
whole_text n k = rw (k.fraction, k.exponent, append-nil) refl

-- parts with neither a point nor an exponent write a whole numeral
pub whole_from_parts : (word : List ℕ) (n : Numeral) → HasParts word n → HasNoPoint n → is_whole_numeral word ≡ true
whole_from_parts word n p k =
    let some : 0 < length n.whole = omega (arith, p.numeral.some_digit, ap (λ f. length (fraction_digits f)) k.fraction) in
    rw (p.written, whole_text n k) (signed_digits n.sign n.whole (all-are_digits n.whole p.numeral.whole some))

-- ---- the kind of a word

pub kind_of-whole : (word : List ℕ) → is_whole_numeral word ≡ true → kind_of word ≡ Some Whole
kind_of-whole word h = kind_of-parts word (whole_parts word) (parts_of_whole word h)

pub whole-kind_of : (word : List ℕ) → kind_of word ≡ Some Whole → is_whole_numeral word ≡ true
whole-kind_of word h =
    let p = parts-kind_of word Whole h in
    let n : Numeral = parts_of word in
    let k = test_no_point n.fraction n.exponent (kind_is_whole (is_real n) (sym (kind_of-parts word n p) ∙ h)) in
    whole_from_parts word n p (record { fraction = k.0; exponent = k.1 })

pub kind_of-real : (word : List ℕ) → IsRealNumeral word → kind_of word ≡ Some Real
kind_of-real word (n, p, h) = kind_of-parts word n p ∙ rw (real_test n.fraction n.exponent h) refl

pub real-kind_of : (word : List ℕ) → kind_of word ≡ Some Real → IsRealNumeral word
real-kind_of word h =
    let p = parts-kind_of word Real h in
    let n : Numeral = parts_of word in
    (n, p, test_real n.fraction n.exponent (kind_is_real (is_real n) (sym (kind_of-parts word n p) ∙ h)))

some_kind : (real : Bool) → cond real (Some Real) (Some Whole) ≡ None → ⊥
some_kind true h = cc
some_kind false h = cc

pub none-kind_of : (word : List ℕ) → kind_of word ≡ None → (n : Numeral) → HasParts word n → ⊥
none-kind_of word h n p = some_kind (is_real n) (sym (kind_of-parts word n p) ∙ h)

-- ---- what the parts of a word tell

pub numeral_has_parts : (word : List ℕ) → is_numeral word ≡ true → (n : Numeral) × HasParts word n
numeral_has_parts word h = (parts_of word, has_parts (kind_of word) refl h)
  where
    has_parts : (kind : Option NumeralKind) → kind_of word ≡ kind → is_some kind ≡ true → HasParts word (parts_of word)
    has_parts None e k = cc
    has_parts (Some kind) e k = parts-kind_of word kind e

pub parts_of_numeral : (word : List ℕ) (n : Numeral) → HasParts word n → is_numeral word ≡ true
parts_of_numeral word n p = ap is_some (kind_of-parts word n p) ∙ some_of_either (is_real n)
  where
    some_of_either : (real : Bool) → is_some (cond real (Some Real) (Some Whole)) ≡ true
    some_of_either true = refl
    some_of_either false = refl

pub one_way_of_parts : (word : List ℕ) (m n : Numeral) → HasParts word m → HasParts word n → m ≡ n
one_way_of_parts word m n p q = sym (parts_of-is word m p) ∙ parts_of-is word n q

-- ---- the value of a whole numeral

signed_value : (sign : Sign) (digits : List ℕ) → begins_sign digits ≡ false →
    value_of_whole (sign_text sign ++ digits) ≡ with_sign sign (digits_value digits)
signed_value no_sign [] h = refl
signed_value no_sign (b ∷ digits) h =
    let e = or_parts (b == 43) (b == 45) h in
    rw (e.0, e.1) refl
signed_value plus digits h = refl
signed_value minus digits h = refl

pub value_by_parts : (word : List ℕ) (n : Numeral) → HasParts word n → HasNoPoint n → value_of_whole word ≡ whole_value n
value_by_parts word n p k =
    rw (p.written, whole_text n k) (signed_value n.sign n.whole (digits_no_sign n.whole p.numeral.whole))

pub whole_of_kind : (word : List ℕ) → kind_of word ≡ Some Whole → is_whole_numeral word ≡ true
whole_of_kind word h = whole-kind_of word h
