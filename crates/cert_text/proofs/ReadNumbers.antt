-- A number at the front of a text is its decimal digits.
use Rattle.std.proofs.Common.{◌≡◌, ⊎_elim, ℕ, zero, suc, ◌+◌, ◌-◌, ◌*◌, ◌/◌, ◌%◌, ◌^◌, ◌<◌, ◌≤◌}
use Rattle.std.proofs.Common.{Bool, true, false, cond, eqb, nat_lt, List, [], ◌∷◌, ◌++◌, None, Some}
use Rattle.std.proofs.Common.{decimal, refl, sym, ap, ◌∙◌, arith}
use Rattle.std.proofs.lemmas.Bool.Decides.{Decides-eqb, nat_tests}
use Rattle.std.proofs.lemmas.Fmt.{decimal_step, decimal_digit, decimal_by_steps}
use Rattle.std.proofs.lemmas.List.{append_assoc}
use Rattle.gml_text.specs.Bytes.{is_digit}
use Rattle.cert_text.specs.inner.Reading.{digits_from, number_read}
use Rattle.cert_text.proofs.ReadWords.{cond_cases, same_found}

abbrev pub begins_digit : List ℕ → Bool
begins_digit [] = false
begins_digit (b ∷ text) = is_digit b

-- the text begins with the decimal digits of the number
pub record IsNumberAt (text : List ℕ) (number : ℕ) (rest : List ℕ) (most : ℕ) : Type 0 where
  pub cut : text ≡ decimal number ++ rest
  pub within : number ≤ most

-- limits on numbers for which this holds
pub record IsLimit (most : ℕ) : Type 0 where
  pub high : 9 ≤ most
  pub low : most < 2 ^ 60

decimal_push : (before d : ℕ) → 1 ≤ before → d < 10 → before * 10 + d < 2 ^ 64 →
    decimal (before * 10 + d) ≡ decimal before ++ (48 + d) ∷ []
decimal_push before d some digit small =
    let q : (before * 10 + d) / 10 ≡ before = omega arith in
    let r : (before * 10 + d) % 10 ≡ d = omega arith in
    let step = decimal_step (before * 10 + d) (omega arith) small in
    step ∙ rw (q, r) refl

digit_of : (b : ℕ) → is_digit b ≡ true → (48 ≤ b) × (b ≤ 57)
digit_of b h = (grind (arith, nat_tests), grind (arith, nat_tests))

pub digits_are : (most before : ℕ) (text : List ℕ) (number : ℕ) (rest : List ℕ) → IsLimit most →
    1 ≤ before → before ≤ most → digits_from most before text ≡ Some (number, rest) →
    (decimal before ++ text ≡ decimal number ++ rest) × (number ≤ most)
digits_are most before [] number rest limit some within h =
    let same = same_found before number [] rest h in (
      ap (λ m. decimal m ++ []) (same.0) ∙ ap (λ end. decimal number ++ end) (same.1),
      omega (arith, same.0),
    )
digits_are most before (b ∷ text) number rest limit some within h =
    ⊎_elim
    (λ yes. let digit = digit_of b (yes.0) in ⊎_elim
    (λ above. absurd (let e : None ≡ Some (number, rest) = above.1 in cc))
    (λ below.
    let small : before * 10 + (b - 48) ≤ most = grind (arith, nat_tests, below.0) in
    let more = digits_are most (before * 10 + (b - 48)) text number rest limit (omega arith) small
    (below.1) in
    let push = decimal_push before (b - 48) some (omega arith) (omega (arith, limit.low)) in
    let byte : 48 + (b - 48) ≡ b = omega arith in (
      sym (append_assoc (decimal before) (b ∷ []) text)
          ∙ ap (λ front. front ++ text) (ap (λ c. decimal before ++ c ∷ []) (sym byte) ∙ sym push)
          ∙ more.0,
      more.1,
    ))
    (cond_cases (nat_lt most (before * 10 + (b - 48))) None
    (digits_from most (before * 10 + (b - 48)) text) (Some (number, rest)) (yes.1)))
    (λ no.
    let same = same_found before number (b ∷ text) rest (no.1) in (
      ap (λ m. decimal m ++ (b ∷ text)) (same.0)
          ∙ ap (λ end. decimal number ++ end) (same.1),
      omega (arith, same.0),
    ))
    (cond_cases (is_digit b) (cond (nat_lt most (before * 10 + (b - 48))) None
    (digits_from most (before * 10 + (b - 48)) text)) (Some (before, b ∷ text))
    (Some (number, rest)) h)

pub number_is : (most : ℕ) (text : List ℕ) (number : ℕ) (rest : List ℕ) → IsLimit most →
    number_read most text ≡ Some (number, rest) → IsNumberAt text number rest most
unfolding number_read
number_is most [] number rest limit h = absurd (let e : None ≡ Some (number, rest) = h in cc)
number_is most (b ∷ text) number rest limit h =
    ⊎_elim
    (λ yes.
    let same = same_found 0 number text rest (yes.1) in
    let zero_byte : b ≡ 48 = (Decides-eqb b 48).0 (yes.0) in
    record {
      cut = ap (λ c. c ∷ text) zero_byte ∙ ap (λ front. front ++ text)
          (sym (decimal_digit 0 (omega arith)))
          ∙ ap (λ m. decimal m ++ text) (same.0) ∙ ap (λ end. decimal number ++ end) (same.1);
      within = omega (arith, same.0);
    })
    (λ no. ⊎_elim
    (λ yes.
    let digit = digit_of b (yes.0) in
    let other : (b ≡ 48) → ⊥ = λ same. absurd (let f = (Decides-eqb b 48).1 same in cc) in
    let are = digits_are most (b - 48) text number rest limit (omega (arith, other))
    (omega (arith, limit.high)) (yes.1) in
    let byte : 48 + (b - 48) ≡ b = omega arith in
    record {
      cut = ap (λ c. c ∷ text) (sym byte)
          ∙ ap (λ front. front ++ text) (sym (decimal_digit (b - 48) (omega arith))) ∙ are.0;
      within = are.1;
    })
    (λ none. absurd (let e : None ≡ Some (number, rest) = none.1 in cc))
    (cond_cases (is_digit b) (digits_from most (b - 48) text) None (Some (number, rest)) (no.1)))
    (cond_cases (eqb b 48) (Some (0, text)) (cond (is_digit b)
    (digits_from most (b - 48) text) None) (Some (number, rest)) h)

-- one more digit is read
digits_step : (most before b : ℕ) (text : List ℕ) → is_digit b ≡ true →
    before * 10 + (b - 48) ≤ most →
    digits_from most before (b ∷ text) ≡ digits_from most (before * 10 + (b - 48)) text
digits_step most before b text digit small =
    let below : nat_lt most (before * 10 + (b - 48)) ≡ false = grind (arith, nat_tests) in
    rw (digit, below) refl

-- no digit follows
digits_end : (most before : ℕ) (rest : List ℕ) → begins_digit rest ≡ false →
    digits_from most before rest ≡ Some (before, rest)
digits_end most before [] h = refl
digits_end most before (b ∷ rest) h = rw h refl

-- the digits of a number that is not 0 are read
abbrev AreDigitsRead : ℕ → List ℕ → Type 0
AreDigitsRead number digits = (most : ℕ) (tail : List ℕ) → number ≤ most → 1 ≤ number →
    number_read most (digits ++ tail) ≡ digits_from most number tail

one_digit_read : (n : ℕ) → n < 10 → AreDigitsRead n ((48 + n) ∷ [])
unfolding number_read
one_digit_read n h = λ most tail within some.
    let other : eqb (48 + n) 48 ≡ false = grind (arith, nat_tests) in
    let digit : is_digit (48 + n) ≡ true = grind (arith, nat_tests) in
    let value : 48 + n - 48 ≡ n = omega arith in
    rw (other, digit) (ap (λ m. digits_from most m tail) value)

more_digits_read : (n : ℕ) (digits : List ℕ) → 10 ≤ n → AreDigitsRead (n / 10) digits →
    AreDigitsRead n (digits ++ (48 + n % 10) ∷ [])
more_digits_read n digits h front = λ most tail within some.
    let digit : is_digit (48 + n % 10) ≡ true = grind (arith, nat_tests) in
    let value : n / 10 * 10 + (48 + n % 10 - 48) ≡ n = omega arith in
    ap (number_read most) (append_assoc digits ((48 + n % 10) ∷ []) tail)
    ∙ front most ((48 + n % 10) ∷ tail) (omega arith) (omega arith)
    ∙ digits_step most (n / 10) (48 + n % 10) tail digit (omega arith)
    ∙ ap (λ m. digits_from most m tail) value

zero_is_read : (most : ℕ) (rest : List ℕ) → number_read most (48 ∷ rest) ≡ Some (0, rest)
unfolding number_read
zero_is_read most rest = refl

pub number_is_read : (most number : ℕ) (rest : List ℕ) → IsLimit most → number ≤ most →
    begins_digit rest ≡ false →
    number_read most (decimal number ++ rest) ≡ Some (number, rest)
number_is_read most zero rest limit within end =
    ap (λ front. number_read most (front ++ rest)) (decimal_digit 0 (omega arith))
    ∙ zero_is_read most rest
number_is_read most (suc n) rest limit within end =
    decimal_by_steps AreDigitsRead one_digit_read more_digits_read (suc n)
    (omega (arith, limit.low)) most rest within (omega arith)
    ∙ digits_end most (suc n) rest end
