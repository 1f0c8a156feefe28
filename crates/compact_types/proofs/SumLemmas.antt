-- The laws of sums.
use Rattle.std.proofs.Common.{◌≡◌, ℕ, zero, suc, ◌+◌, ◌<◌, ◌≤◌, ◌⊎◌, inl, inr, ℤ, pos, refl, sym, ap, ◌∙◌, arith}
use Rattle.std.specs.Prelude.{◌+ℤ◌, ◌*ℤ◌, ◌≤ℤ◌, negsuc}
use lib.IntN.{neg_ℤ, neg_ℤ-+ℤ, zero-*ℤ, suc_ℤ-*ℤ, *ℤ-negsuc, *ℤ_comm}
use Rattle.std.proofs.lemmas.Int.{ints}
use Rattle.std.proofs.lemmas.Bool.{cases_lt}
use Rattle.compact_types.specs.Sums.{sum_to}

-- a sum in two parts
pub sum_to-split : (f : ℕ → ℤ) (m n : ℕ) → sum_to f (m + n) ≡ sum_to f m +ℤ sum_to (λ i. f (m + i)) n
sum_to-split f m zero = let none : m + 0 ≡ m = omega arith in rw none (omega (arith, ints))
sum_to-split f m (suc n) = let more : m + suc n ≡ suc (m + n) = omega arith in rw more (omega (arith, ints, sum_to-split f m n))

-- the sum of sums
pub sum_to-add : (f g : ℕ → ℤ) (n : ℕ) → sum_to (λ i. f i +ℤ g i) n ≡ sum_to f n +ℤ sum_to g n
sum_to-add f g zero = refl
sum_to-add f g (suc n) = omega (arith, ints, sum_to-add f g n)

-- a multiple of a sum is the sum of the multiples
times-add_pos : (n : ℕ) (a b : ℤ) → pos n *ℤ (a +ℤ b) ≡ pos n *ℤ a +ℤ pos n *ℤ b
times-add_pos zero a b = zero-*ℤ (a +ℤ b) ∙ sym (omega (arith, ints, zero-*ℤ a, zero-*ℤ b))
times-add_pos (suc n) a b =
    let whole = suc_ℤ-*ℤ (pos n) (a +ℤ b) in
    let first = suc_ℤ-*ℤ (pos n) a in
    let second = suc_ℤ-*ℤ (pos n) b in
    whole ∙ ap (λ (front : ℤ). front +ℤ (a +ℤ b)) (times-add_pos n a b)
    ∙ regrouped (pos n *ℤ a) (pos n *ℤ b) a b
    ∙ sym (ap (λ (front : ℤ). front +ℤ (pos (suc n) *ℤ b)) first ∙ ap (λ (back : ℤ). (pos n *ℤ a +ℤ a) +ℤ back) second)
  where
    regrouped : (p q a b : ℤ) → (p +ℤ q) +ℤ (a +ℤ b) ≡ (p +ℤ a) +ℤ (q +ℤ b)
    regrouped p q a b = omega (arith, ints)

-- a negative multiple is that of the other sign, negated
times_negsuc : (n : ℕ) (a : ℤ) → negsuc n *ℤ a ≡ neg_ℤ (pos (suc n) *ℤ a)
times_negsuc n a = *ℤ_comm (negsuc n) a ∙ *ℤ-negsuc a n ∙ ap neg_ℤ (*ℤ_comm a (pos (suc n)))

pub times-add : (k a b : ℤ) → k *ℤ (a +ℤ b) ≡ k *ℤ a +ℤ k *ℤ b
times-add (pos n) a b = times-add_pos n a b
times-add (negsuc n) a b =
    times_negsuc n (a +ℤ b) ∙ ap neg_ℤ (times-add_pos (suc n) a b)
    ∙ neg_ℤ-+ℤ (pos (suc n) *ℤ a) (pos (suc n) *ℤ b)
    ∙ sym (ap (λ (front : ℤ). front +ℤ (negsuc n *ℤ b)) (times_negsuc n a) ∙ ap (λ (back : ℤ). neg_ℤ (pos (suc n) *ℤ a) +ℤ back) (times_negsuc n b))

-- the sum of multiples
pub sum_to-scale : (k : ℤ) (f : ℕ → ℤ) (n : ℕ) → sum_to (λ i. k *ℤ f i) n ≡ k *ℤ sum_to f n
sum_to-scale k f zero = omega (arith, ints)
sum_to-scale k f (suc n) =
    ap (λ (front : ℤ). front +ℤ k *ℤ f n) (sum_to-scale k f n) ∙ sym (times-add k (sum_to f n) (f n))

-- sums of the same terms
pub sum_to-same : (f g : ℕ → ℤ) (n : ℕ) → ((i : ℕ) → i < n → f i ≡ g i) → sum_to f n ≡ sum_to g n
sum_to-same f g zero same = refl
sum_to-same f g (suc n) same =
    omega (arith, ints, sum_to-same f g n (λ i below. same i (omega arith)), same n (omega arith))

-- sums that differ in one term
pub sum_to-changed : (f g : ℕ → ℤ) (n i : ℕ) → i < n → ((j : ℕ) → j < n → (j ≡ i → ⊥) → f j ≡ g j) →
    sum_to f n +ℤ g i ≡ sum_to g n +ℤ f i
sum_to-changed f g zero i below others = absurd (omega arith)
sum_to-changed f g (suc n) i below others =
    by_order (cases_lt i n) (λ before. sum_to-changed f g n i before (λ j inside. others j (omega arith)))
  where
    by_order : (i < n) ⊎ (n ≤ i) → (i < n → sum_to f n +ℤ g i ≡ sum_to g n +ℤ f i) → sum_to f (suc n) +ℤ g i ≡ sum_to g (suc n) +ℤ f i
    by_order (inl before) front =
        let last : f n ≡ g n = others n (omega arith) (omega arith) in
        omega (arith, ints, front before)
    by_order (inr after) front =
        let here : i ≡ n = omega arith in
        let same : sum_to f n ≡ sum_to g n = sum_to-same f g n (λ j inside. others j (omega arith) (omega arith)) in
        rw here (omega (arith, ints, same))

-- the sum of nothing
pub sum_to-nothing : (n : ℕ) → sum_to (λ i. pos 0) n ≡ pos 0
sum_to-nothing zero = refl
sum_to-nothing (suc n) = omega (arith, ints, sum_to-nothing n)

-- sums in the other order
pub sum_to-exchange : (f : ℕ → ℕ → ℤ) (m n : ℕ) →
    sum_to (λ i. sum_to (λ j. f i j) m) n ≡ sum_to (λ j. sum_to (λ i. f i j) n) m
sum_to-exchange f m zero = sym (sum_to-nothing m)
sum_to-exchange f m (suc n) =
    ap (λ (front : ℤ). front +ℤ sum_to (λ j. f n j) m) (sum_to-exchange f m n)
    ∙ sym (sum_to-add (λ j. sum_to (λ i. f i j) n) (λ j. f n j) m)

-- sums with no greater terms
pub sum_to-not_greater : (f g : ℕ → ℤ) (n : ℕ) → ((i : ℕ) → i < n → (f i) ≤ℤ (g i)) → (sum_to f n) ≤ℤ (sum_to g n)
sum_to-not_greater f g zero least = omega (arith, ints)
sum_to-not_greater f g (suc n) least =
    omega (arith, ints, sum_to-not_greater f g n (λ i below. least i (omega arith)), least n (omega arith))
