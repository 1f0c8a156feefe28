-- The parts that a word is cut into serve for the numeral that it writes.
use Rattle.std.proofs.Common.{◌≡◌, ℕ, ◌+◌, Bool, true, List, ◌++◌, length, Result}
use Rattle.std.specs.List.{list_all}
use Rattle.gml_text.specs.declared.number.NumberFault.{NumberFault}
use Rattle.gml_text.specs.Bytes.{is_digit}
use Rattle.gml_text.specs.Numerals.{Numeral, HasParts, digits_value}
use Rattle.gml_text.specs.NumeralKinds.{parts_of, is_numeral, is_exponent, exponent_of}
use Rattle.gml_text.specs.inner.Parts.{HasTheParts}
use Rattle.gml_text.specs.inner.Scaling.{IsRaisedOrFault, tens_above, tens_below, signed_answer}
use Rattle.gml_text.proofs.NumeralParts.{parts_of-is, test_from_exponent}
use Rattle.gml_text.proofs.NumeralLaws.{numeral_has_parts}
use Rattle.gml_text.proofs.SignedThousandths.{IsAnswer, is_answer}

-- the parts that are cut out
pub record AreDigits (whole fraction exponent : List ℕ) : Type 0 where
  pub whole_digits : list_all is_digit whole ≡ true
  pub fraction_digits : list_all is_digit fraction ≡ true
  pub exponent_right : is_exponent (exponent_of exponent) ≡ true

pub cut_numeral : (word : List ℕ) (m : Bool) (whole : List ℕ) (point : Bool) (fraction exponent : List ℕ) → is_numeral word ≡ true →
    HasTheParts word m whole point fraction exponent → AreDigits whole fraction exponent
cut_numeral word m whole point fraction exponent h p =
    let (n, q) = numeral_has_parts word h in
    let e : parts_of word ≡ n = parts_of-is word n q in
    record {
      whole_digits = rw (p.whole_part, e) q.numeral.whole;
      fraction_digits = rw (p.fraction_part, e) q.numeral.fraction;
      exponent_right = rw (p.exponent_part, e) (test_from_exponent n.exponent q.numeral.exponent);
    }

pub cut_answer : (word : List ℕ) (n : Numeral) (m : Bool) (whole : List ℕ) (point : Bool) (fraction exponent : List ℕ)
    (r : Result ℕ NumberFault) → HasTheParts word m whole point fraction exponent → HasParts word n →
    IsRaisedOrFault (digits_value (whole ++ fraction)) (3 + tens_above (exponent_of exponent)) (length fraction + tens_below (exponent_of exponent)) r →
    IsAnswer n (signed_answer m r)
cut_answer word n m whole point fraction exponent r p q k =
    let e : parts_of word ≡ n = parts_of-is word n q in
    rw (p.negative, e) (is_answer n r (rw (p.whole_part, p.fraction_part, p.exponent_part, e) at k))
