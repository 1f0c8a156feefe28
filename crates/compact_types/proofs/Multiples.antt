-- Products with a positive number keep order, and can be undone.
use Rattle.std.proofs.Common.{◌≡◌, ℕ, zero, suc, ◌*◌, ◌<◌, ℤ, pos, sym, ap, ◌∙◌, arith}
use Rattle.std.specs.Prelude.{◌+ℤ◌, ◌-ℤ◌, ◌*ℤ◌, ◌≤ℤ◌, ◌<ℤ◌, negsuc, int_div, int_rem, unsigned_abs}
use lib.IntN.{zero-*ℤ, *ℤ-zero, suc_ℤ-*ℤ, *ℤ_comm}
use Rattle.std.proofs.lemmas.Int.{ints, by_lt_z, quot-rem, rem_below, unsigned_abs-mul}
use Rattle.compact_types.specs.Scalings.{IsMultiple}
use Rattle.compact_types.proofs.SumLemmas.{times-add}

-- a multiple of a difference
pub times-sub : (by a b : ℤ) → by *ℤ (a -ℤ b) ≡ by *ℤ a -ℤ by *ℤ b
times-sub by a b =
    let back : (a -ℤ b) +ℤ b ≡ a = omega (arith, ints) in
    let same : by *ℤ a ≡ by *ℤ (a -ℤ b) +ℤ by *ℤ b = sym (ap (λ (z : ℤ). by *ℤ z) back) ∙ times-add by (a -ℤ b) b in
    omega (arith, ints, same)

-- products are in the order of their factors
pub times-le_pos : (n : ℕ) (a b : ℤ) → a ≤ℤ b → (pos n *ℤ a) ≤ℤ (pos n *ℤ b)
times-le_pos zero a b h = omega (arith, ints, zero-*ℤ a, zero-*ℤ b)
times-le_pos (suc n) a b h = omega (arith, ints, suc_ℤ-*ℤ (pos n) a, suc_ℤ-*ℤ (pos n) b, times-le_pos n a b h)

pub times-le : (by a b : ℤ) → pos 1 ≤ℤ by → a ≤ℤ b → (by *ℤ a) ≤ℤ (by *ℤ b)
times-le (pos n) a b positive h = times-le_pos n a b h
times-le (negsuc n) a b positive h = absurd (omega (arith, ints))

pub times-lt : (by a b : ℤ) → pos 1 ≤ℤ by → a <ℤ b → (by *ℤ a) <ℤ (by *ℤ b)
times-lt (pos zero) a b positive h = absurd (omega (arith, ints))
times-lt (pos (suc n)) a b positive h =
    let not_more : a ≤ℤ b = omega (arith, ints) in
    let front = times-le_pos n a b not_more in
    omega (arith, ints, suc_ℤ-*ℤ (pos n) a, suc_ℤ-*ℤ (pos n) b, front)
times-lt (negsuc n) a b positive h = absurd (omega (arith, ints))

-- factors are in the order of their products
pub factor-le : (by a b : ℤ) → pos 1 ≤ℤ by → (by *ℤ a) ≤ℤ (by *ℤ b) → a ≤ℤ b
factor-le by a b positive h = by_lt_z b a (λ less. absurd (let more = times-lt by b a positive less in omega (arith, ints, h, more))) (λ not_less. not_less)

pub factor-lt : (by a b : ℤ) → pos 1 ≤ℤ by → (by *ℤ a) <ℤ (by *ℤ b) → a <ℤ b
factor-lt by a b positive h = by_lt_z a b (λ less. less) (λ not_less. absurd (let more = times-le by b a positive not_less in omega (arith, ints, h, more)))

pub same_factor : (by a b : ℤ) → pos 1 ≤ℤ by → by *ℤ a ≡ by *ℤ b → a ≡ b
same_factor by a b positive same =
    let up = factor-le by a b positive (omega (arith, ints, same)) in
    let down = factor-le by b a positive (omega (arith, ints, same)) in
    omega (arith, ints, up, down)

-- a product is no nearer to 0 than its factor
pub grows_up : (by z : ℤ) → pos 1 ≤ℤ by → pos 0 ≤ℤ z → z ≤ℤ (by *ℤ z)
grows_up (pos zero) z positive low = absurd (omega (arith, ints))
grows_up (pos (suc n)) z positive low =
    let rest = times-le_pos n (pos 0) z low in
    omega (arith, ints, suc_ℤ-*ℤ (pos n) z, *ℤ-zero (pos n), rest)
grows_up (negsuc n) z positive low = absurd (omega (arith, ints))

pub grows_down : (by z : ℤ) → pos 1 ≤ℤ by → z ≤ℤ pos 0 → (by *ℤ z) ≤ℤ z
grows_down (pos zero) z positive low = absurd (omega (arith, ints))
grows_down (pos (suc n)) z positive low =
    let rest = times-le_pos n z (pos 0) low in
    omega (arith, ints, suc_ℤ-*ℤ (pos n) z, *ℤ-zero (pos n), rest)
grows_down (negsuc n) z positive low = absurd (omega (arith, ints))

-- what is divided without a rest is a multiple
pub multiple_without_rest : (by z : ℤ) → int_rem z by ≡ pos 0 → z ≡ by *ℤ int_div z by
multiple_without_rest by z none = omega (arith, ints, quot-rem z by, none, *ℤ_comm (int_div z by) by)

-- a multiple is divided without a rest
none_below : (m n r : ℕ) → m * n ≡ r → r < m → r ≡ 0
none_below m zero r is below = omega (arith, is)
none_below m (suc n) r is below = absurd (omega (arith, is, below))

no_size : (z : ℤ) → unsigned_abs z ≡ 0 → z ≡ pos 0
no_size (pos n) none = ap pos none
no_size (negsuc n) none = absurd (omega (arith, none))

some_size : (by : ℤ) → pos 1 ≤ℤ by → 0 < unsigned_abs by
some_size (pos n) positive = omega (arith, ints)
some_size (negsuc n) positive = absurd (omega (arith, ints))

pub no_rest : (by z : ℤ) → pos 1 ≤ℤ by → IsMultiple by z → int_rem z by ≡ pos 0
no_rest by z positive (k, is) =
    let whole = quot-rem z by in
    let turned = *ℤ_comm (int_div z by) by in
    let rest : by *ℤ (k -ℤ int_div z by) ≡ int_rem z by = omega (arith, ints, times-sub by k (int_div z by), is, whole, turned) in
    let size : unsigned_abs by * unsigned_abs (k -ℤ int_div z by) ≡ unsigned_abs (int_rem z by) =
    sym (unsigned_abs-mul by (k -ℤ int_div z by)) ∙ ap unsigned_abs rest in
    no_size (int_rem z by) (none_below (unsigned_abs by) _ _ size (rem_below z by (some_size by positive)))
