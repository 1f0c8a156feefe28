-- The number that digits write.
use Rattle.std.proofs.Common.{◌≡◌, ℕ, ◌+◌, ◌-◌, ◌*◌, ◌<◌, ◌≤◌, List, [], ◌∷◌, ◌++◌, length, drop, get_or, refl, ap, sym, arith}
use Rattle.std.proofs.lemmas.List.{drop_more}
use Rattle.gml_text.specs.Numerals.{digits_value, digits_value_from}

-- more digits make no number less
pub at_least_before : (before : ℕ) (digits : List ℕ) → before ≤ digits_value_from before digits
at_least_before before [] = omega arith
at_least_before before (b ∷ digits) = omega (arith, at_least_before (before * 10 + (b - 48)) digits)

-- one more digit is read
pub digits_more : (before i : ℕ) (digits : List ℕ) → i < length digits →
    digits_value_from (before * 10 + (get_or digits i 0 - 48)) (drop (i + 1) digits) ≡ digits_value_from before (drop i digits)
digits_more before i digits h = sym (ap (digits_value_from before) (drop_more digits i 0 h))

-- the digits up to the next one write no more than all do
pub next_at_most : (before i : ℕ) (digits : List ℕ) → i < length digits →
    before * 10 + (get_or digits i 0 - 48) ≤ digits_value_from before (drop i digits)
next_at_most before i digits h =
    omega (arith, digits_more before i digits h, at_least_before (before * 10 + (get_or digits i 0 - 48)) (drop (i + 1) digits))

pub value_after : (before : ℕ) (xs ys : List ℕ) → digits_value_from (digits_value_from before xs) ys ≡ digits_value_from before (xs ++ ys)
value_after before [] ys = refl
value_after before (x ∷ xs) ys = value_after (before * 10 + (x - 48)) xs ys

pub value_of_both : (xs ys : List ℕ) → digits_value_from (digits_value_from 0 xs) ys ≡ digits_value (xs ++ ys)
value_of_both xs ys = value_after 0 xs ys

pub first_at_most : (xs ys : List ℕ) → digits_value_from 0 xs ≤ digits_value (xs ++ ys)
first_at_most xs ys = omega (arith, at_least_before (digits_value_from 0 xs) ys, value_of_both xs ys)
