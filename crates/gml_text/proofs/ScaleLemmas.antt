-- The answers of a numeral by the digits that are kept.
use Rattle.std.proofs.Common.{◌≡◌, ℕ, ◌+◌, ◌-◌, ◌*◌, ◌^◌, ◌<◌, ◌≤◌, ◌%◌, ◌≢◌, min, ◌⊎◌, inl, inr, List, ◌++◌, length, Option, None, Some, Result, Err, refl, sym, arith, subst}
use Rattle.std.specs.Result.{MatchResult}
use Rattle.gml_text.specs.declared.number.NumberFault.{NumberFault}
use Rattle.gml_text.specs.declared.number.NumberFault.TheVariants.{TooFine, OutOfRange}
use Rattle.gml_text.specs.Numerals.{Sign, no_sign, plus, minus, Exponent, digits_value}
use Rattle.compact_types.specs.declared.limits.TheConstants.{GREATEST_THOUSANDTHS}
use Rattle.gml_text.specs.inner.Scaling.{IsRaisedOrFault, IsWithoutEndZeros, tens_above, tens_below, tens_above_by, tens_below_by}
use Rattle.gml_text.proofs.PowersOfTen.{top, too_fine, still_less, still_at_most, same_or_many, IsSameOrMany, number_too_great, raised_answer}

one_sided_by : (sign : Sign) (n : ℕ) → (tens_above_by sign n ≡ 0) ⊎ (tens_below_by sign n ≡ 0)
one_sided_by no_sign n = inr refl
one_sided_by plus n = inr refl
one_sided_by minus n = inl refl

one_sided : (e : Option Exponent) → (tens_above e ≡ 0) ⊎ (tens_below e ≡ 0)
one_sided None = inl refl
one_sided (Some e) = one_sided_by e.sign (digits_value e.digits)

-- how many zeros are left out
abbrev pub left_out : (whole fraction v f : List ℕ) → ℕ
left_out whole fraction v f = (length whole - length v) + (length fraction - length f)

by_number : (whole fraction v f : List ℕ) (above below : ℕ) (r : Result ℕ NumberFault) → IsWithoutEndZeros whole fraction v f →
    IsRaisedOrFault (digits_value (v ++ f) * 10 ^ left_out whole fraction v f) above below r →
    IsRaisedOrFault (digits_value (whole ++ fraction)) above below r
by_number whole fraction v f above below r h k =
    subst (λ (x : ℕ). IsRaisedOrFault x above below r) (sym h.number) k

pub too_fine_by_kept : (whole fraction v f : List ℕ) (e : Option Exponent) → IsWithoutEndZeros whole fraction v f →
    0 < length v + length f → length fraction ≤ top →
    left_out whole fraction v f + 3 + min (tens_above e) top < length fraction + min (tens_below e) top →
    IsRaisedOrFault (digits_value (whole ++ fraction)) (3 + tens_above e) (length fraction + tens_below e) (Err TooFine)
too_fine_by_kept whole fraction v f e h some small less =
    by_number whole fraction v f (3 + tens_above e) (length fraction + tens_below e) (Err TooFine) h
    (too_fine (digits_value (v ++ f)) (left_out whole fraction v f) (3 + tens_above e) (length fraction + tens_below e) (h.last some)
    (still_less (left_out whole fraction v f) (tens_above e) (tens_below e) (length fraction) (one_sided e) small less))

enough_above : (whole fraction v f : List ℕ) (e : Option Exponent) → length whole + 3 < top →
    length fraction + min (tens_below e) top ≤ left_out whole fraction v f + 3 + min (tens_above e) top →
    length fraction + tens_below e ≤ left_out whole fraction v f + (3 + tens_above e)
enough_above whole fraction v f e small most =
    still_at_most (left_out whole fraction v f) (tens_above e) (tens_below e) (length whole) (length fraction) (one_sided e)
    (omega arith) small most

pub too_great_by_kept : (whole fraction v f : List ℕ) (e : Option Exponent) → IsWithoutEndZeros whole fraction v f →
    GREATEST_THOUSANDTHS < digits_value (v ++ f) → length whole + 3 < top →
    length fraction + min (tens_below e) top ≤ left_out whole fraction v f + 3 + min (tens_above e) top →
    IsRaisedOrFault (digits_value (whole ++ fraction)) (3 + tens_above e) (length fraction + tens_below e) (Err OutOfRange)
too_great_by_kept whole fraction v f e h great small most =
    by_number whole fraction v f (3 + tens_above e) (length fraction + tens_below e) (Err OutOfRange) h
    (number_too_great (digits_value (v ++ f)) (left_out whole fraction v f) (3 + tens_above e) (length fraction + tens_below e) great
    (enough_above whole fraction v f e small most))

above_zero : (n : ℕ) → n % 10 ≢ 0 → 0 < n
above_zero n h = omega arith

pub raised_by_kept : (whole fraction v f : List ℕ) (e : Option Exponent) (number tens : ℕ) (r : Result ℕ NumberFault) →
    IsWithoutEndZeros whole fraction v f → 0 < length v + length f → number ≡ digits_value (v ++ f) →
    length whole + 3 < top → length fraction + 13 < top →
    length fraction + min (tens_below e) top ≤ left_out whole fraction v f + 3 + min (tens_above e) top →
    tens ≡ left_out whole fraction v f + 3 + min (tens_above e) top - (length fraction + min (tens_below e) top) →
    MatchResult r (λ t. (t ≡ number * 10 ^ tens) × (t ≤ GREATEST_THOUSANDTHS)) (λ fault. (fault ≡ OutOfRange) × (GREATEST_THOUSANDTHS < number * 10 ^ tens)) →
    IsRaisedOrFault (digits_value (whole ++ fraction)) (3 + tens_above e) (length fraction + tens_below e) r
raised_by_kept whole fraction v f e number tens r h some same small short most exact m =
    by_number whole fraction v f (3 + tens_above e) (length fraction + tens_below e) r h
    (subst (λ (x : ℕ). IsRaisedOrFault (x * 10 ^ left_out whole fraction v f) (3 + tens_above e) (length fraction + tens_below e) r) same
    (raised_answer number (left_out whole fraction v f) (3 + tens_above e) (length fraction + tens_below e) tens r (above_zero number (subst (λ (x : ℕ). x % 10 ≢ 0) (sym same) (h.last some)))
    (enough_above whole fraction v f e small most)
    (subst (λ (x : ℕ). IsSameOrMany x (left_out whole fraction v f + (3 + tens_above e) - (length fraction + tens_below e))) (sym exact)
    (same_or_many (left_out whole fraction v f) (tens_above e) (tens_below e) (length whole) (length fraction) (one_sided e) (omega arith) small short most))
    m))
