-- The greatest coordinate of some places.
use Rattle.std.proofs.Common.{◌≡◌, ℕ, zero, suc, ◌+◌, ◌-◌, ◌<◌, ◌≤◌, ℤ, ◌≤ℤ◌, length, ◌⊎◌, inl, inr, refl, sym, ap, ◌∙◌, arith}
use Rattle.std.specs.Int.{int_max}
use Rattle.std.proofs.lemmas.Int.{ints, clamps, by_lt_z}
use Rattle.std.proofs.lemmas.Bool.{cases_lt}
use Rattle.compact_types.specs.declared.places.Axis.{Axis}
use Rattle.compact_types.specs.declared.places.Places.{Places}
use Rattle.compact_types.specs.Lookups.{place, along}
use Rattle.compact_main.specs.Samples.{greatest_to, IsGreatest}

-- one more number
pub greatest_more : (f : ℕ → ℤ) (n : ℕ) (greatest next : ℤ) → 1 ≤ n → greatest ≡ greatest_to f (n - 1) → next ≡ f n → int_max greatest next ≡ greatest_to f (n + 1 - 1)
greatest_more f zero greatest next some is here = absurd (omega arith)
greatest_more f (suc n) greatest next some is here =
    let before : suc n - 1 ≡ n = omega arith in
    let after : suc n + 1 - 1 ≡ suc n = omega arith in
    ap (λ (g : ℤ). int_max g next) (is ∙ ap (greatest_to f) before) ∙ ap (int_max (greatest_to f n)) here ∙ ap (greatest_to f) (sym after)

-- it is one of the numbers
reached_to : (f : ℕ → ℤ) (n : ℕ) → (v : ℕ) × (v ≤ n) × (f v ≡ greatest_to f n)
reached_to f zero = (0, omega arith, refl)
reached_to f (suc n) = let (v, inside, is) = reached_to f n in
    by_lt_z (greatest_to f n) (f (suc n))
    (λ less. (suc n, omega arith, omega (arith, ints, clamps)))
    (λ le. (v, omega arith, omega (arith, ints, clamps)))

-- and none of them is greater
none_above_to : (f : ℕ → ℤ) (n v : ℕ) → v ≤ n → (f v) ≤ℤ (greatest_to f n)
none_above_to f zero v inside = let same : v ≡ 0 = omega arith in let here = ap f same in omega (arith, ints)
none_above_to f (suc n) v inside = by (cases_lt v (suc n)) (λ less. none_above_to f n v less)
  where
    by : (v < suc n) ⊎ (suc n ≤ v) → (v ≤ n → (f v) ≤ℤ (greatest_to f n)) → (f v) ≤ℤ (greatest_to f (suc n))
    by (inl less) rest = let before = rest (omega arith) in omega (arith, ints, clamps)
    by (inr last) rest = let same : v ≡ suc n = omega arith in let here = ap f same in omega (arith, ints, clamps)

-- so it is the greatest coordinate of the places, of which there are n
pub is_greatest : (axis : Axis) (places : Places) (n : ℕ) (greatest : ℤ) → 0 < length places.xy → n ≡ length places.xy →
    greatest ≡ greatest_to (λ v. along axis (place places.xy v)) (n - 1) → IsGreatest axis places greatest
is_greatest axis places n greatest some all is =
    let f : ℕ → ℤ = λ v. along axis (place places.xy v) in
    let (v, inside, at) = reached_to f (n - 1) in
    record {
      reached = (v, omega arith, at ∙ sym is);
      none_above = λ w within. let most = none_above_to f (n - 1) w (omega arith) in omega (arith, ints);
    }
