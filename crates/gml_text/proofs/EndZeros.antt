-- The zeros at the end of digits.
use Rattle.std.specs.Prelude.{◌==◌}
use Rattle.std.proofs.lemmas.Bool.{and_parts}
use Rattle.std.proofs.Common.{◌≡◌, ℕ, suc, ◌+◌, ◌-◌, ◌*◌, ◌^◌, ◌<◌, ◌≤◌, ◌%◌, ◌≢◌, zero, Bool, true, false, List, [], ◌∷◌, ◌++◌, length, get_or, replicate, refl, ap, sym, ◌∙◌, arith, subst, sub-one, add-zero}
use Rattle.std.proofs.lemmas.Bool.Decides.{nat_tests}
use native.Mathlib.Nat.{mul_assoc, pow-succ'}
use Rattle.std.proofs.lemmas.List.{append-nil, append_assoc, length-append}
use Rattle.std.proofs.lemmas.Nat.{pow-add}
use Rattle.std.specs.List.{list_all}
use Rattle.gml_text.specs.Bytes.{is_digit}
use Rattle.gml_text.proofs.Digits.{value_of_both}
use Rattle.gml_text.specs.Numerals.{digits_value, digits_value_from}
use Rattle.gml_text.specs.inner.Scaling.{ends_in_zero, ends_in_zero_after, IsWithoutEndZeros}

last_digit : (before : Bool) (b : ℕ) (digits : List ℕ) →
    ends_in_zero_after before (b ∷ digits) ≡ (get_or (b ∷ digits) (length digits) 0 == 48)
last_digit before b [] = refl
last_digit before b (d ∷ digits) = last_digit (b == 48) d digits

pub last_is_not_zero : (digits : List ℕ) → 0 < length digits → (get_or digits (length digits - 1) 0 ≡ 48 → ⊥) → ends_in_zero digits ≡ false
last_is_not_zero [] h k = refl
last_is_not_zero (b ∷ digits) h k = last_digit false b digits ∙ not_zero (get_or (b ∷ digits) (length digits) 0) (rw (sub-one) at k)
  where
    not_zero : (x : ℕ) → (x ≡ 48 → ⊥) → (x == 48) ≡ false
    not_zero x h = grind (arith, nat_tests)

-- ---- zeros at the end multiply by ten

zeros_alone : (before k : ℕ) → digits_value_from before (replicate k 48) ≡ before * 10 ^ k
zeros_alone before zero = omega arith
zeros_alone before (suc k) =
    zeros_alone (before * 10 + (48 - 48)) k ∙ ap (λ x. x * 10 ^ k) (add-zero (before * 10)) ∙ mul_assoc before 10 (10 ^ k)
    ∙ ap (λ x. before * x) (sym (pow-succ' 10 k))

pub zeros_at_end : (digits : List ℕ) (k : ℕ) → digits_value (digits ++ replicate k 48) ≡ digits_value digits * 10 ^ k
zeros_at_end digits k = sym (value_of_both digits (replicate k 48)) ∙ zeros_alone (digits_value digits) k

-- ---- a number that does not end in 0

no_end_zero : (before : ℕ) (b : ℕ) (digits : List ℕ) → list_all is_digit (b ∷ digits) ≡ true →
    ends_in_zero (b ∷ digits) ≡ false → digits_value_from before (b ∷ digits) % 10 ≢ 0
no_end_zero before b [] h k = one_digit before b (and_parts (is_digit b) true h).0 k
  where
    one_digit : (before b : ℕ) → is_digit b ≡ true → (b == 48) ≡ false → (before * 10 + (b - 48)) % 10 ≢ 0
    one_digit before b h k =
        let low : 48 ≤ b = grind (arith, nat_tests) in
        let high : b ≤ 57 = grind (arith, nat_tests) in
        let other : b ≢ 48 = grind (arith, nat_tests) in
        λ e. omega arith
no_end_zero before b (d ∷ digits) h k = no_end_zero (before * 10 + (b - 48)) d digits (and_parts (is_digit b) (list_all is_digit (d ∷ digits)) h).1 k

pub not_times_ten : (digits : List ℕ) → list_all is_digit digits ≡ true → ends_in_zero digits ≡ false → 0 < length digits →
    digits_value digits % 10 ≢ 0
not_times_ten [] h k l = absurd (omega arith)
not_times_ten (b ∷ digits) h k l = no_end_zero 0 b digits h k

pub end_of_both : (before : Bool) (xs ys : List ℕ) → 0 < length ys → ends_in_zero_after before (xs ++ ys) ≡ ends_in_zero ys
end_of_both before [] [] h = absurd (omega arith)
end_of_both before [] (y ∷ ys) h = refl
end_of_both before (x ∷ xs) ys h = end_of_both (x == 48) xs ys h

pub all_of_both : (xs ys : List ℕ) → list_all is_digit xs ≡ true → list_all is_digit ys ≡ true → list_all is_digit (xs ++ ys) ≡ true
all_of_both [] ys h k = k
all_of_both (x ∷ xs) ys h k =
    let e = and_parts (is_digit x) (list_all is_digit xs) h in
    rw (e.0) (all_of_both xs ys e.1 k)

pub all_of_front : (xs ys : List ℕ) → list_all is_digit (xs ++ ys) ≡ true → list_all is_digit xs ≡ true
all_of_front [] ys h = refl
all_of_front (x ∷ xs) ys h =
    let e = and_parts (is_digit x) (list_all is_digit (xs ++ ys)) h in
    rw (e.0) (all_of_front xs ys e.1)

-- ---- the digits that are kept

with_zeros : (xs ys : List ℕ) (k : ℕ) → digits_value (xs ++ (ys ++ replicate k 48)) ≡ digits_value (xs ++ ys) * 10 ^ k
with_zeros xs ys k = ap digits_value (sym (append_assoc xs ys (replicate k 48))) ∙ zeros_at_end (xs ++ ys) k

along : {xs ys : List ℕ} → xs ≡ ys → list_all is_digit xs ≡ true → list_all is_digit ys ≡ true
along e h = sym (ap (list_all is_digit) e) ∙ h

pub kept_both : (whole fraction f : List ℕ) → list_all is_digit whole ≡ true → list_all is_digit fraction ≡ true →
    ends_in_zero f ≡ false → length f ≤ length fraction → fraction ≡ f ++ replicate (length fraction - length f) 48 →
    0 < length f → IsWithoutEndZeros whole fraction whole f
kept_both whole fraction f w h last within e some =
    let d : list_all is_digit f ≡ true = all_of_front f (replicate (length fraction - length f) 48) (along e h) in
    record {
      whole_within = omega arith;
      fraction_within = within;
      whole_digits = w;
      fraction_digits = d;
      number = ap (λ x. digits_value (whole ++ x)) e ∙ with_zeros whole f (length fraction - length f)
          ∙ ap (λ x. digits_value (whole ++ f) * 10 ^ x) (omega arith);
      last = λ k. not_times_ten (whole ++ f) (all_of_both whole f w d) (end_of_both false whole f some ∙ last)
          (omega (arith, length-append whole f));
    }

pub kept_whole : (whole fraction v f : List ℕ) → list_all is_digit whole ≡ true →
    length f ≡ 0 → fraction ≡ f ++ replicate (length fraction - length f) 48 →
    ends_in_zero v ≡ false → length v ≤ length whole → whole ≡ v ++ replicate (length whole - length v) 48 →
    IsWithoutEndZeros whole fraction v f
kept_whole whole fraction v (b ∷ f) h none e last within k = absurd (omega arith)
kept_whole whole fraction v [] h none e last within k =
    let d : list_all is_digit v ≡ true = all_of_front v (replicate (length whole - length v) 48) (along k h) in
    record {
      whole_within = within;
      fraction_within = omega arith;
      whole_digits = d;
      fraction_digits = refl;
      number = ap (λ x. digits_value (whole ++ x)) e ∙ zeros_at_end whole (length fraction - 0)
          ∙ ap (λ x. x * 10 ^ (length fraction - 0)) (ap digits_value k ∙ zeros_at_end v (length whole - length v))
          ∙ mul_assoc (digits_value v) (10 ^ (length whole - length v)) (10 ^ (length fraction - 0))
          ∙ ap (λ x. digits_value v * x) (sym (pow-add 10 (length whole - length v) (length fraction - 0)))
          ∙ ap (λ x. digits_value x * 10 ^ ((length whole - length v) + (length fraction - 0))) (sym (append-nil v));
      last = λ some. subst (λ (x : List ℕ). digits_value x % 10 ≢ 0) (sym (append-nil v))
          (not_times_ten v d last (omega arith));
    }
