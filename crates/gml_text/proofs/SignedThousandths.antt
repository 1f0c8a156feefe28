-- From magnitudes to signed thousandths.
use Rattle.std.specs.Prelude.{unsigned_abs, ◌↔◌}
use Rattle.std.proofs.Common.{◌≡◌, ℕ, zero, suc, ◌+◌, ◌-◌, ◌*◌, ◌^◌, ◌<◌, ◌≤◌, ℤ, pos, negsuc, ◌+ℤ◌, ◌-ℤ◌, ◌*ℤ◌, Bool, true, false, ◌++◌, length, Option, None, Some, Result, Ok, Err, refl, ap, sym, ◌∙◌, arith, subst, ⊎_elim}
use native.Mathlib.Nat.{mul_assoc, mul-pos}
use Rattle.std.proofs.lemmas.Nat.{pow-add}
use Rattle.std.proofs.lemmas.Int.{ints}
use Rattle.std.proofs.lemmas.Bool.{cases_lt}
use Rattle.gml_text.specs.declared.number.NumberFault.{NumberFault}
use Rattle.gml_text.specs.declared.number.NumberFault.TheVariants.{TooFine, OutOfRange}
use Rattle.gml_text.specs.Numerals.{Sign, no_sign, plus, minus, Exponent, Numeral, digits_value, with_sign, fraction_digits, exponent_value, power_of_ten, IsTimesTen, IsThousandths}
use Rattle.compact_types.specs.declared.limits.TheConstants.{GREATEST_THOUSANDTHS}
use Rattle.gml_text.specs.inner.Parts.{is_minus}
use Rattle.gml_text.specs.inner.Scaling.{IsDecimalShift, IsRaisedOrFault, tens_above, tens_below, tens_above_by, tens_below_by, signed, signed_answer}
use Rattle.gml_text.proofs.PowersOfTen.{cancel, power_above_zero}

-- ---- signs

signed_negsuc : (n : ℕ) → signed true (suc n) ≡ negsuc n
signed_negsuc n = omega (arith, ints)

signed_times : (s : Bool) (n p : ℕ) → signed s n *ℤ pos p ≡ signed s (n * p)
signed_times false n p = refl
signed_times true zero p = omega (arith, ints)
signed_times true (suc n) p = ap (λ x. x *ℤ pos p) (signed_negsuc n) ∙ omega (arith, ints)

pub magnitude_of_signed : (s : Bool) (n : ℕ) → unsigned_abs (signed s n) ≡ n
magnitude_of_signed false n = refl
magnitude_of_signed true zero = refl
magnitude_of_signed true (suc n) = ap unsigned_abs (signed_negsuc n)

-- a factor above 0 keeps the sign
signed_factor : (s : Bool) (n p : ℕ) (t : ℤ) → 0 < p → t *ℤ pos p ≡ signed s n → (m : ℕ) × (t ≡ signed s m) × (m * p ≡ n)
signed_factor false n p (pos x) h e = (x, refl, ap unsigned_abs e)
signed_factor false n p (negsuc x) h e = let q : 0 < suc x * p = mul-pos (omega arith) h in absurd (omega (arith, ints))
signed_factor true n p (pos zero) h e = (0, refl, omega (arith, ints))
signed_factor true n p (pos (suc x)) h e = let q : 0 < suc x * p = mul-pos (omega arith) h in absurd (omega (arith, ints))
signed_factor true n p (negsuc x) h e = (suc x, sym (signed_negsuc x), omega (arith, ints))

-- ---- one equation for both signs of the power

difference : (a b : ℕ) → b ≤ a → pos a -ℤ pos b ≡ pos (a - b)
difference a b h = omega (arith, ints)

negative_difference : (a b : ℕ) → a < b → pos a -ℤ pos b ≡ negsuc (b - suc a)
negative_difference a b h = omega (arith, ints)

powers : (n i j k : ℕ) → i + j ≡ k → n * 10 ^ i * 10 ^ j ≡ n * 10 ^ k
powers n i j k e = mul_assoc n (10 ^ i) (10 ^ j) ∙ ap (λ x. n * x) (sym (pow-add 10 i j) ∙ ap (λ x. 10 ^ x) e)

pub times_ten_from : (s : Bool) (number above below t : ℕ) → IsDecimalShift number above below t →
    IsTimesTen (signed s number) (pos above -ℤ pos below) (signed s t)
times_ten_from s number above below t h = ⊎_elim less more (cases_lt above below)
  where
    less : above < below → IsTimesTen (signed s number) (pos above -ℤ pos below) (signed s t)
    less k =
        let e : t * 10 ^ (below - suc above + 1) ≡ number =
        cancel (t * 10 ^ (below - suc above + 1)) number above (powers t (below - suc above + 1) above below (omega arith) ∙ h) in
        subst (λ (z : ℤ). IsTimesTen (signed s number) z (signed s t)) (sym (negative_difference above below k))
        (signed_times s t (10 ^ (below - suc above + 1)) ∙ ap (signed s) e)

    more : below ≤ above → IsTimesTen (signed s number) (pos above -ℤ pos below) (signed s t)
    more k =
        let e : t ≡ number * 10 ^ (above - below) =
        cancel t (number * 10 ^ (above - below)) below (h ∙ sym (powers number (above - below) below above (omega arith))) in
        subst (λ (z : ℤ). IsTimesTen (signed s number) z (signed s t)) (sym (difference above below k))
        (ap (signed s) e ∙ sym (signed_times s number (10 ^ (above - below))))

pub times_ten_to : (s : Bool) (number above below : ℕ) (t : ℤ) → IsTimesTen (signed s number) (pos above -ℤ pos below) t →
    (m : ℕ) × (t ≡ signed s m) × IsDecimalShift number above below m
times_ten_to s number above below t h = ⊎_elim less more (cases_lt above below)
  where
    less : above < below → (m : ℕ) × (t ≡ signed s m) × IsDecimalShift number above below m
    less k =
        let e : t *ℤ pos (10 ^ (below - suc above + 1)) ≡ signed s number =
        subst (λ (z : ℤ). IsTimesTen (signed s number) z t) (negative_difference above below k) h in
        let f = signed_factor s number (10 ^ (below - suc above + 1)) t (power_above_zero (below - suc above + 1)) e in
        (f.0, f.1, sym (powers f.0 (below - suc above + 1) above below (omega arith)) ∙ ap (λ x. x * 10 ^ above) f.2)

    more : below ≤ above → (m : ℕ) × (t ≡ signed s m) × IsDecimalShift number above below m
    more k =
        let e : t ≡ signed s number *ℤ pos (10 ^ (above - below)) =
        subst (λ (z : ℤ). IsTimesTen (signed s number) z t) (difference above below k) h in (
          number * 10 ^ (above - below),
          e ∙ signed_times s number (10 ^ (above - below)),
          powers number (above - below) below above (omega arith),
        )

-- ---- the parts of a numeral

sign_of_number : (sign : Sign) (n : ℕ) → with_sign sign n ≡ signed (is_minus sign) n
sign_of_number no_sign n = refl
sign_of_number plus n = refl
sign_of_number minus n = refl

power_by : (sign : Sign) (size places : ℕ) →
    (with_sign sign size -ℤ pos places) +ℤ pos 3 ≡ pos (3 + tens_above_by sign size) -ℤ pos (places + tens_below_by sign size)
power_by no_sign size places = omega (arith, ints)
power_by plus size places = omega (arith, ints)
power_by minus size places = omega (arith, ints)

power_of_parts : (e : Option Exponent) (places : ℕ) →
    (exponent_value e -ℤ pos places) +ℤ pos 3 ≡ pos (3 + tens_above e) -ℤ pos (places + tens_below e)
power_of_parts None places = omega (arith, ints)
power_of_parts (Some e) places = power_by e.sign (digits_value e.digits) places

abbrev pub digits_of : Numeral → ℕ
digits_of n = digits_value (n.whole ++ fraction_digits n.fraction)

abbrev pub above_of : Numeral → ℕ
above_of n = 3 + tens_above n.exponent

abbrev pub below_of : Numeral → ℕ
below_of n = length (fraction_digits n.fraction) + tens_below n.exponent

pub thousandths_from : (n : Numeral) (m : ℕ) → IsDecimalShift (digits_of n) (above_of n) (below_of n) m →
    IsThousandths n (signed (is_minus n.sign) m)
thousandths_from n m h =
    let t : ℤ = signed (is_minus n.sign) m in
    subst (λ (x : ℤ). IsTimesTen x (power_of_ten n +ℤ pos 3) t) (sym (sign_of_number n.sign (digits_of n)))
    (subst (λ (e : ℤ). IsTimesTen (signed (is_minus n.sign) (digits_of n)) e t)
    (sym (power_of_parts n.exponent (length (fraction_digits n.fraction))))
    (times_ten_from (is_minus n.sign) (digits_of n) (above_of n) (below_of n) m h))

pub thousandths_to : (n : Numeral) (t : ℤ) → IsThousandths n t →
    (m : ℕ) × (t ≡ signed (is_minus n.sign) m) × IsDecimalShift (digits_of n) (above_of n) (below_of n) m
thousandths_to n t h =
    times_ten_to (is_minus n.sign) (digits_of n) (above_of n) (below_of n) t
    (subst (λ (e : ℤ). IsTimesTen (signed (is_minus n.sign) (digits_of n)) e t)
    (power_of_parts n.exponent (length (fraction_digits n.fraction)))
    (subst (λ (x : ℤ). IsTimesTen x (power_of_ten n +ℤ pos 3) t) (sign_of_number n.sign (digits_of n)) h))

-- ---- the answer

-- the answer is the number of thousandths, or says why there is none
pub record IsAnswer (n : Numeral) (r : Result ℤ NumberFault) : Type 0 where
  pub value : (t : ℤ) → (r ≡ Ok t) ↔ (IsThousandths n t × (unsigned_abs t ≤ GREATEST_THOUSANDTHS))
  pub too_fine : (r ≡ Err TooFine) ↔ ((t : ℤ) → IsThousandths n t → ⊥)
  pub out_of_range : (r ≡ Err OutOfRange) ↔ ((t : ℤ) × IsThousandths n t × (GREATEST_THOUSANDTHS < unsigned_abs t))

-- a numeral has one number of thousandths
same_as : (n : Numeral) (m : ℕ) (t : ℤ) → IsDecimalShift (digits_of n) (above_of n) (below_of n) m → IsThousandths n t →
    t ≡ signed (is_minus n.sign) m
same_as n m t h k =
    let other = thousandths_to n t k in
    other.1 ∙ ap (signed (is_minus n.sign)) (cancel other.0 m (below_of n) (other.2 ∙ sym h))

magnitude_is : (n : Numeral) (m : ℕ) (t : ℤ) → IsDecimalShift (digits_of n) (above_of n) (below_of n) m → IsThousandths n t →
    unsigned_abs t ≡ m
magnitude_is n m t h k = ap unsigned_abs (same_as n m t h k) ∙ magnitude_of_signed (is_minus n.sign) m

ok_is : (a b : ℤ) (r : Result ℤ NumberFault) → r ≡ Ok a → r ≡ Ok b → b ≡ a
ok_is a b r e k = cc

no_both : (a : ℤ) (f : NumberFault) (r : Result ℤ NumberFault) → r ≡ Ok a → r ≡ Err f → ⊥
no_both a f r e k = cc

pub is_answer : (n : Numeral) (r : Result ℕ NumberFault) → IsRaisedOrFault (digits_of n) (above_of n) (below_of n) r →
    IsAnswer n (signed_answer (is_minus n.sign) r)
is_answer n (Ok m) h =
    let u : ℤ = signed (is_minus n.sign) m in
    let k : IsThousandths n u = thousandths_from n m h.0 in
    record {
      value = λ t. (
        λ e. subst (λ (x : ℤ). IsThousandths n x × (unsigned_abs x ≤ GREATEST_THOUSANDTHS)) (sym (ok_is u t (Ok u) refl e))
            (k, omega (arith, magnitude_of_signed (is_minus n.sign) m, h.1)),
        λ (p, q). ap Ok (sym (same_as n m t h.0 p)),
      );
      too_fine = (λ e. absurd (no_both u TooFine (Ok u) refl e), λ f. absurd (f u k));
      out_of_range = (λ e. absurd (no_both u OutOfRange (Ok u) refl e), λ (t, p, q). absurd (omega (arith, magnitude_is n m t h.0 p, h.1, q)));
    }
is_answer n (Err TooFine) h = record {
  value = λ t. (λ e. absurd (no_both t TooFine (Err TooFine) e refl), λ (p, q). let o = thousandths_to n t p in absurd (h o.0 o.2));
  too_fine = (λ e t p. let o = thousandths_to n t p in h o.0 o.2, λ f. refl);
  out_of_range = (λ e. cc, λ (t, p, q). let o = thousandths_to n t p in absurd (h o.0 o.2));
}
is_answer n (Err OutOfRange) h =
    let u : ℤ = signed (is_minus n.sign) h.0 in
    let k : IsThousandths n u = thousandths_from n h.0 h.1 in
    record {
      value = λ t. (λ e. absurd (no_both t OutOfRange (Err OutOfRange) e refl), λ (p, q). absurd (omega (arith, magnitude_is n h.0 t h.1 p, h.2, q)));
      too_fine = (λ e. cc, λ f. absurd (f u k));
      out_of_range = (λ e. (u, k, omega (arith, magnitude_of_signed (is_minus n.sign) h.0, h.2)), λ x. refl);
    }
