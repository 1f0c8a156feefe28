-- The numbers that are written for places.
use Rattle.std.proofs.Common.{◌≡◌, ℕ, ℤ, pos, negsuc, ◌*◌, ◌<◌, ◌≤◌, ◌⊎◌, inl, inr, length, arith, w64, lit<, refl, Bool, true, cond, [], ◌++◌, None, Ok, Err, ◌+ℤ◌, nat_le, decimal, append-nil, sym, ap, ◌∙◌}
use Rattle.std.specs.Prelude.{◌*ℤ◌, ◌≤ℤ◌, unsigned_abs}
use Rattle.std.specs.Int.RustNames.{FitsSigned}
use Rattle.std.proofs.lemmas.Int.{ints, fits_signed_mul}
use Rattle.std.proofs.lemmas.List.{get_or_past}
use Rattle.std.proofs.lemmas.Bool.{cases_lt}
use Rattle.std.proofs.Math.Nat.{mul-le-mul, le_of_mul-le-mul_left}
use Rattle.std.proofs.lemmas.Bool.Decides.{nat_tests}
use Rattle.compact_types.specs.declared.places.Axis.{Axis}
use Rattle.compact_types.specs.declared.places.Axis.TheVariants.{X, Y}
use Rattle.compact_types.specs.declared.places.Places.{Places}
use Rattle.compact_types.specs.Lookups.{place, along, origin}
use Rattle.drawing_read.specs.declared.reading.Spot.{Spot}
use Rattle.gml_text.specs.declared.number.NumberFault.TheVariants.{OutOfRange}
use Rattle.gml_text.specs.Numerals.{no_sign, Numeral, IsNumeral, digits_value, mantissa, power_of_ten}
use Rattle.gml_text.specs.NumeralKinds.{parts_of}
use Rattle.gml_text.proofs.Laws.{parts_of-is}
use Rattle.gml_text.specs.Thousandths.{times_ten, within_range, thousandths_of}
use Rattle.gml_print.specs.Numbers.{number_text}
use Rattle.compact_types.specs.declared.limits.TheConstants.{GREATEST_COORDINATE, GREATEST_PLACE, GREATEST_THOUSANDTHS, MOST_PITCH}
use Rattle.compact_types.specs.Magnitudes.{IsWithin, AreWithin, IsNowhereNegative}
use Rattle.gml_print.specs.Places.{coordinate_at, in_thousandths}
use Rattle.gml_print.proofs.Numerals.{decimal_digits}

-- a coordinate that may be written
abbrev pub IsWritable : ℤ → Type 0
IsWritable z = (pos 0 ≤ℤ z) × (z ≤ℤ pos GREATEST_PLACE)

abbrev pub AreWritable : Places → Type 0
AreWritable places = (axis : Axis) (v : ℕ) → v < length places.xy → IsWritable (along axis (place places.xy v))

pub are_writable : (places : Places) → IsNowhereNegative places → AreWithin GREATEST_PLACE places → AreWritable places
are_writable places not_below within axis v inside = (not_below axis v inside, (within axis v inside).high)

magnitude : (z : ℤ) → IsWithin GREATEST_PLACE z → unsigned_abs z ≤ GREATEST_PLACE
magnitude (pos n) h = omega (arith, ints, h.high)
magnitude (negsuc n) h = omega (arith, ints, h.low)

pub product_fits : (pitch : ℕ) (z : ℤ) → pitch ≤ MOST_PITCH → IsWithin GREATEST_PLACE z → FitsSigned w64 (pos pitch *ℤ z)
product_fits pitch z p h = fits_signed_mul w64 (pos pitch) z MOST_PITCH GREATEST_PLACE p (magnitude z h) (lit< tt)

-- what holds of zero and of each coordinate of the places holds of the coordinate of a spot, also where its vertex has no place
coordinate_is : (P : ℤ → Type 0) (places : Places) (spot : Spot) → P (pos 0) →
    ((axis : Axis) (v : ℕ) → v < length places.xy → P (along axis (place places.xy v))) → P (coordinate_at places spot)
coordinate_is P places spot zero each = by_place (cases_lt spot.vertex (length places.xy))
  where
    at_origin : (axis : Axis) → P (along axis origin)
    at_origin X = zero
    at_origin Y = zero

    by_place : (spot.vertex < length places.xy) ⊎ (length places.xy ≤ spot.vertex) → P (coordinate_at places spot)
    by_place (inl h) = each spot.axis spot.vertex h
    by_place (inr h) = rw (get_or_past places.xy spot.vertex origin h) (at_origin spot.axis)

pub coordinate_within : (places : Places) (spot : Spot) → AreWithin GREATEST_PLACE places → IsWithin GREATEST_PLACE (coordinate_at places spot)
coordinate_within places spot within =
    coordinate_is (IsWithin GREATEST_PLACE) places spot (record { low = omega (arith, ints); high = omega (arith, ints) }) within

coordinate_writable : (places : Places) (spot : Spot) → AreWritable places → IsWritable (coordinate_at places spot)
coordinate_writable places spot writable = coordinate_is IsWritable places spot (omega (arith, ints), omega (arith, ints)) writable

-- a whole numeral with no sign has a thousand times its value in thousandths
whole_thousandths : (n : ℕ) → n ≤ GREATEST_COORDINATE → thousandths_of (number_text (pos n)) ≡ Ok (pos (n * 1000))
unfolding thousandths_of
whole_thousandths n small =
    let of = decimal_digits n (omega arith) in
    let parts : Numeral = record { sign = no_sign; whole = decimal n; fraction = None; exponent = None } in
    let numeral : IsNumeral parts = record { whole = of.digits; fraction = refl; some_digit = omega (arith, of.some); exponent = tt } in
    let is : parts_of (decimal n) ≡ parts = parts_of-is (decimal n) parts (record { numeral = numeral; written = sym (append-nil (decimal n)) }) in
    let value : digits_value (decimal n ++ []) ≡ n = ap digits_value (append-nil (decimal n)) ∙ of.value in
    let fits : nat_le (n * 1000) GREATEST_THOUSANDTHS ≡ true = grind (arith, nat_tests) in
    ap (λ (n : Numeral). within_range (times_ten (mantissa n) (power_of_ten n +ℤ pos 3))) is
    ∙ ap (λ (v : ℕ). within_range (times_ten (pos v) (pos 3))) value
    ∙ ap (λ (b : Bool). cond b (Ok (pos (n * 1000))) (Err OutOfRange)) fits

product_thousandths : (pitch : ℕ) (z : ℤ) → pitch ≤ MOST_PITCH → IsWritable z → thousandths_of (number_text (pos pitch *ℤ z)) ≡ Ok (pos (1000 * pitch) *ℤ z)
product_thousandths pitch (negsuc n) p h = absurd (omega (arith, ints, h.0))
product_thousandths pitch (pos n) p h =
    let small : n ≤ GREATEST_PLACE = omega (arith, ints, h.1) in
    let most : pitch * n ≤ GREATEST_COORDINATE = omega (arith, mul-le-mul p small) in
    whole_thousandths (pitch * n) most ∙ ap (λ (k : ℕ). Ok (pos k)) (omega arith)

-- each numeral that is written tells the new place of its vertex
pub numerals_tell : (places : Places) (pitch : ℕ) → AreWritable places → pitch ≤ MOST_PITCH → (axis : Axis) (v : ℕ) →
    thousandths_of (number_text (pos pitch *ℤ along axis (place places.xy v))) ≡ Ok (along axis (in_thousandths pitch (place places.xy v)))
numerals_tell places pitch within most X v =
    product_thousandths pitch (place places.xy v).x most (coordinate_writable places (record { path = []; vertex = v; axis = X }) within)
numerals_tell places pitch within most Y v =
    product_thousandths pitch (place places.xy v).y most (coordinate_writable places (record { path = []; vertex = v; axis = Y }) within)

-- numbers with the same multiple are the same
pub same_multiple : (k : ℕ) (a b : ℤ) → 0 < k → IsWritable a → IsWritable b → pos k *ℤ a ≡ pos k *ℤ b → a ≡ b
same_multiple k (negsuc n) b some first second is = absurd (omega (arith, ints, first.0))
same_multiple k (pos m) (negsuc n) some first second is = absurd (omega (arith, ints, second.0))
same_multiple k (pos m) (pos n) some first second is =
    let same : k * m ≡ k * n = ap unsigned_abs is in
    let up : m ≤ n = le_of_mul-le-mul_left (omega arith) some in
    let down : n ≤ m = le_of_mul-le-mul_left (omega arith) some in
    ap pos (omega arith)

pub place_writable : (places : Places) → AreWritable places → (v : ℕ) (axis : Axis) → IsWritable (along axis (place places.xy v))
place_writable places writable v axis = coordinate_writable places (record { path = []; vertex = v; axis = axis }) writable
