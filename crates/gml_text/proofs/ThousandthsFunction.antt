-- The value of a numeral in thousandths, as a function, is the one of the relation.
use Rattle.std.specs.Prelude.{◌↔◌, unsigned_abs, int_div}
use Rattle.std.proofs.Common.{◌≡◌, ℕ, suc, ◌+◌, ◌*◌, ◌/◌, ◌^◌, ◌<◌, ◌≤◌, ℤ, pos, negsuc, ◌+ℤ◌, ◌*ℤ◌, neg_ℤ, Bool, true, false, List, Option, None, Some, Result, Ok, Err, refl, ap, sym, ◌∙◌, arith, nat_le, cond, MatchOption}
use Rattle.std.specs.Ordering.{int_eq}
use Rattle.std.proofs.lemmas.Int.{ints, unsigned_abs-mul}
use Rattle.std.proofs.lemmas.Bool.{false≢true}
use Rattle.std.proofs.lemmas.Bool.Decides.{Decides-int_eq, nat_tests}
use native.Mathlib.Nat.{mul-pos}
use Rattle.std.proofs.Math.Nat.{mul-div_cancel}
use Rattle.gml_text.proofs.PowersOfTen.{power_above_zero}
use Rattle.gml_text.specs.declared.number.NumberFault.{NumberFault}
use Rattle.gml_text.specs.declared.number.NumberFault.TheVariants.{TooFine, OutOfRange}
use Rattle.gml_text.specs.Numerals.{Numeral, HasParts, mantissa, power_of_ten, IsTimesTen, IsThousandths}
use Rattle.compact_types.specs.declared.limits.TheConstants.{GREATEST_THOUSANDTHS}
use Rattle.gml_text.specs.NumeralKinds.{parts_of, is_numeral}
use Rattle.gml_text.proofs.NumeralLaws.{numeral_has_parts}
use Rattle.gml_text.proofs.NumeralParts.{parts_of-is}
use Rattle.gml_text.specs.Thousandths.{times_ten, within_range, thousandths_of}

-- a quotient without rest is the only one
only_quotient : (m t : ℤ) (d : ℕ) → 0 < d → t *ℤ pos d ≡ m → int_div m (pos d) *ℤ pos d ≡ m
only_quotient (pos a) (pos n) d some is =
    let e : n * d ≡ a = ap unsigned_abs is in
    ap (λ x. pos (x / d * d)) (sym e) ∙ ap (λ x. pos (x * d)) (mul-div_cancel n some) ∙ is
only_quotient (pos a) (negsuc n) d some is = let q : 0 < suc n * d = mul-pos (omega arith) some in absurd (omega (arith, ints))
only_quotient (negsuc a) (pos n) d some is = absurd (omega (arith, ints))
only_quotient (negsuc a) (negsuc n) d some is =
    let e : suc n * d ≡ suc a = sym (unsigned_abs-mul (negsuc n) (pos d)) ∙ ap unsigned_abs is in
    ap (λ x. neg_ℤ (pos (x / d)) *ℤ pos d) (sym e) ∙ ap (λ x. neg_ℤ (pos x) *ℤ pos d) (mul-div_cancel (suc n) some) ∙ is

exact_is : (m : ℤ) (d : ℕ) → 0 < d → (b : Bool) → int_eq (int_div m (pos d) *ℤ pos d) m ≡ b →
    MatchOption (cond b (Some (int_div m (pos d))) None) ((t : ℤ) → t *ℤ pos d ≡ m → ⊥) (λ t. t *ℤ pos d ≡ m)
exact_is m d some true is = (Decides-int_eq (int_div m (pos d) *ℤ pos d) m).0 is
exact_is m d some false is = λ t exact. absurd (false≢true (sym is ∙ (Decides-int_eq (int_div m (pos d) *ℤ pos d) m).1 (only_quotient m t d some exact)))

-- a number of thousandths, or none
times_ten_is : (m e : ℤ) → MatchOption (times_ten m e) ((t : ℤ) → IsTimesTen m e t → ⊥) (λ t. IsTimesTen m e t)
times_ten_is m (pos e) = refl
times_ten_is m (negsuc e) = exact_is m (10 ^ (e + 1)) (power_above_zero (e + 1)) (int_eq (int_div m (pos (10 ^ (e + 1))) *ℤ pos (10 ^ (e + 1))) m) refl

module _ (r : Result ℤ NumberFault) (m e : ℤ)
    (value : (t : ℤ) → (r ≡ Ok t) ↔ (IsTimesTen m e t × (unsigned_abs t ≤ GREATEST_THOUSANDTHS)))
    (too_fine : (r ≡ Err TooFine) ↔ ((t : ℤ) → IsTimesTen m e t → ⊥))
    (out_of_range : (r ≡ Err OutOfRange) ↔ ((t : ℤ) × IsTimesTen m e t × (GREATEST_THOUSANDTHS < unsigned_abs t))) where
  in_range : (t : ℤ) → IsTimesTen m e t → (b : Bool) → nat_le (unsigned_abs t) GREATEST_THOUSANDTHS ≡ b → r ≡ cond b (Ok t) (Err OutOfRange)
  in_range t is true within = (value t).1 (is, grind (arith, nat_tests))
  in_range t is false beyond = let beyond_most : GREATEST_THOUSANDTHS < unsigned_abs t = grind (arith, nat_tests) in out_of_range.1 (t, is, beyond_most)

  answer : (o : Option ℤ) → MatchOption o ((t : ℤ) → IsTimesTen m e t → ⊥) (λ t. IsTimesTen m e t) → r ≡ within_range o
  answer None none = too_fine.1 none
  answer (Some t) is = in_range t is (nat_le (unsigned_abs t) GREATEST_THOUSANDTHS) refl

  pub answer_is : r ≡ within_range (times_ten m e)
  answer_is = answer (times_ten m e) (times_ten_is m e)

-- the answer of `thousandths` is the value as a function
pub thousandths_are : (word : List ℕ) (r : Result ℤ NumberFault) → is_numeral word ≡ true →
    ((n : Numeral) → HasParts word n → (t : ℤ) → (r ≡ Ok t) ↔ (IsThousandths n t × (unsigned_abs t ≤ GREATEST_THOUSANDTHS))) →
    ((n : Numeral) → HasParts word n → (r ≡ Err TooFine) ↔ ((t : ℤ) → IsThousandths n t → ⊥)) →
    ((n : Numeral) → HasParts word n → (r ≡ Err OutOfRange) ↔ ((t : ℤ) × IsThousandths n t × (GREATEST_THOUSANDTHS < unsigned_abs t))) →
    r ≡ thousandths_of word
unfolding thousandths_of
thousandths_are word r numeral value too_fine out_of_range =
    let parts = numeral_has_parts word numeral in
    let is : parts_of word ≡ parts.0 = parts_of-is word parts.0 parts.1 in
    answer_is r (mantissa parts.0) (power_of_ten parts.0 +ℤ pos 3) (value parts.0 parts.1) (too_fine parts.0 parts.1) (out_of_range parts.0 parts.1)
    ∙ ap (λ (n : Numeral). within_range (times_ten (mantissa n) (power_of_ten n +ℤ pos 3))) (sym is)
