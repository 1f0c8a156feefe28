-- A number times powers of ten, above and below.
use Rattle.std.proofs.Common.{◌≡◌, ℕ, suc, ◌+◌, ◌-◌, ◌*◌, ◌/◌, ◌^◌, ◌<◌, ◌≤◌, ◌%◌, ◌≢◌, min, ◌⊎◌, inl, inr, ap, sym, ◌∙◌, arith, Result, Ok, Err, ⊎_elim}
use Rattle.std.specs.Result.{MatchResult}
use Rattle.std.proofs.lemmas.Bool.{cases_lt}
use native.Mathlib.Nat.{mul_assoc, mul_comm, pow-succ', mul-div_cancel, mul-mod_left, one-le-pow, pow-le-pow_right, mul-le-mul_left, mul-le-mul_right}
use Rattle.std.proofs.lemmas.Nat.{pow-add}
use Rattle.gml_text.specs.declared.number.NumberFault.{NumberFault}
use Rattle.gml_text.specs.declared.number.NumberFault.TheVariants.{TooFine, OutOfRange}
use Rattle.compact_types.specs.declared.limits.TheConstants.{GREATEST_THOUSANDTHS}
use Rattle.gml_text.specs.inner.Scaling.{IsDecimalShift, IsRaisedOrFault}

pub power_above_zero : (k : ℕ) → 0 < 10 ^ k
power_above_zero k = one-le-pow k 10 (omega arith)

pub cancel : (x y k : ℕ) → x * 10 ^ k ≡ y * 10 ^ k → x ≡ y
cancel x y k e =
    sym (mul-div_cancel x (power_above_zero k)) ∙ ap (λ z. z / 10 ^ k) e ∙ mul-div_cancel y (power_above_zero k)

-- more than thirteen places are out of range
pub many_tens : (number tens : ℕ) → 0 < number → 13 < tens → GREATEST_THOUSANDTHS < number * 10 ^ tens
many_tens number tens h k =
    let p : 10 ^ 14 ≤ 10 ^ tens = pow-le-pow_right (omega arith) k in
    let q : 1 * 10 ^ tens ≤ number * 10 ^ tens = mul-le-mul_right (10 ^ tens) h in
    omega arith

pub raised_by : (number dropped above below : ℕ) → below ≤ dropped + above →
    IsDecimalShift (number * 10 ^ dropped) above below (number * 10 ^ (dropped + above - below))
raised_by number dropped above below h =
    mul_assoc number (10 ^ (dropped + above - below)) (10 ^ below)
    ∙ ap (λ x. number * x) (sym (pow-add 10 (dropped + above - below) below) ∙ ap (λ x. 10 ^ x) (omega arith) ∙ pow-add 10 dropped above)
    ∙ sym (mul_assoc number (10 ^ dropped) (10 ^ above))

-- a number that does not end in 0 is not divided by ten
pub too_fine : (number dropped above below : ℕ) → number % 10 ≢ 0 → dropped + above < below →
    (t : ℕ) → IsDecimalShift (number * 10 ^ dropped) above below t → ⊥
too_fine number dropped above below h k t e =
    let j : ℕ = below - suc (dropped + above) in
    let split : 10 ^ below ≡ 10 ^ suc j * 10 ^ (dropped + above) =
    ap (λ x. 10 ^ x) (omega arith) ∙ pow-add 10 (suc j) (dropped + above) in
    let same : t * 10 ^ suc j * 10 ^ (dropped + above) ≡ number * 10 ^ (dropped + above) =
    mul_assoc t (10 ^ suc j) (10 ^ (dropped + above)) ∙ sym (ap (λ x. t * x) split) ∙ e
    ∙ mul_assoc number (10 ^ dropped) (10 ^ above) ∙ ap (λ x. number * x) (sym (pow-add 10 dropped above)) in
    let tenfold : number ≡ t * 10 ^ j * 10 =
    sym (cancel (t * 10 ^ suc j) number (dropped + above) same) ∙ ap (λ x. t * x) (pow-succ' 10 j ∙ mul_comm 10 (10 ^ j))
    ∙ sym (mul_assoc t (10 ^ j) 10) in
    h (ap (λ x. x % 10) tenfold ∙ mul-mod_left (t * 10 ^ j) 10)

-- ---- exponents that are cut off at the greatest u64

abbrev pub top : ℕ
top = 18446744073709551615

pub still_less : (before p q after : ℕ) → (p ≡ 0) ⊎ (q ≡ 0) → after ≤ top →
    before + 3 + min p top < after + min q top → before + (3 + p) < after + q
still_less before p q after (inl e) h k = omega arith
still_less before p q after (inr e) h k = omega arith

pub still_at_most : (before p q whole after : ℕ) → (p ≡ 0) ⊎ (q ≡ 0) → before ≤ whole + after → whole + 3 < top →
    after + min q top ≤ before + 3 + min p top → after + q ≤ before + (3 + p)
still_at_most before p q whole after (inl e) h l k = omega arith
still_at_most before p q whole after (inr e) h l k = omega arith

-- both are equal, or both are so many that the answer is the same
abbrev pub IsSameOrMany : ℕ → ℕ → Type 0
IsSameOrMany j k = (j ≡ k) ⊎ ((13 < j) × (13 < k))

pub same_or_many : (before p q whole after : ℕ) → (p ≡ 0) ⊎ (q ≡ 0) → before ≤ whole + after → whole + 3 < top → after + 13 < top →
    after + min q top ≤ before + 3 + min p top →
    IsSameOrMany (before + 3 + min p top - (after + min q top)) (before + (3 + p) - (after + q))
same_or_many before p q whole after (inl e) h l m k = inl (omega arith)
same_or_many before p q whole after (inr e) h l m k =
    ⊎_elim (λ a. inr (omega arith, omega arith)) (λ a. inl (omega arith)) (cases_lt top p)

-- ---- the answers

pub nothing_raised : (number above below : ℕ) → number ≡ 0 → IsRaisedOrFault number above below (Ok 0)
nothing_raised number above below e = (sym (ap (λ x. x * 10 ^ above) e ∙ ap (λ x. x) (omega arith)), omega arith)

pub number_too_great : (number dropped above below : ℕ) → GREATEST_THOUSANDTHS < number → below ≤ dropped + above →
    IsRaisedOrFault (number * 10 ^ dropped) above below (Err OutOfRange)
number_too_great number dropped above below h k = (
  number * 10 ^ (dropped + above - below),
  raised_by number dropped above below k,
  (let p : number * 1 ≤ number * 10 ^ (dropped + above - below) = mul-le-mul_left number (power_above_zero (dropped + above - below)) in
      omega arith),
)

pub raised_answer : (number dropped above below k : ℕ) (r : Result ℕ NumberFault) → 0 < number → below ≤ dropped + above →
    IsSameOrMany k (dropped + above - below) →
    MatchResult r (λ t. (t ≡ number * 10 ^ k) × (t ≤ GREATEST_THOUSANDTHS)) (λ fault. (fault ≡ OutOfRange) × (GREATEST_THOUSANDTHS < number * 10 ^ k)) →
    IsRaisedOrFault (number * 10 ^ dropped) above below r
raised_answer number dropped above below k (Ok t) h l (inl e) m =
    (ap (λ x. x * 10 ^ below) (m.0 ∙ ap (λ x. number * 10 ^ x) e) ∙ raised_by number dropped above below l, m.1)
raised_answer number dropped above below k (Ok t) h l (inr e) m = absurd (omega (arith, many_tens number k h e.0, m.0, m.1))
raised_answer number dropped above below k (Err TooFine) h l e m = absurd (other m.0)
  where
    other : TooFine ≡ OutOfRange → ⊥
    other x = cc
raised_answer number dropped above below k (Err OutOfRange) h l (inl e) m = (
  number * 10 ^ (dropped + above - below),
  raised_by number dropped above below l,
  omega (arith, m.1, ap (λ x. number * 10 ^ x) e),
)
raised_answer number dropped above below k (Err OutOfRange) h l (inr e) m = (
  number * 10 ^ (dropped + above - below),
  raised_by number dropped above below l,
  many_tens number (dropped + above - below) h e.1,
)
