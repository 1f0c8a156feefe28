-- Heights without gaps: each node covers as many heights from its own upward; how many below a height are covered.
use Rattle.std.proofs.Common.{◌≡◌, ℕ, zero, suc, ◌+◌, ◌-◌, ◌*◌, ◌<◌, ◌≤◌, ◌⊎◌, inl, inr, sym, subst, arith, min}
use Rattle.std.proofs.lemmas.Bool.{cases_lt}

-- what the nodes below n cover below x together, where some heights count more than once
abbrev pub total : ℕ → (ℕ → ℕ) → ℕ → ℕ → ℕ
total reach h x zero = 0
total reach h x (suc n) = total reach h x n + min reach (x - h n)

-- how many heights below x are covered
abbrev pub closed : ℕ → (ℕ → ℕ) → ℕ → ℕ → ℕ
closed reach h n zero = 0
closed reach h n (suc x) = closed reach h n x + min 1 (total reach h (suc x) n - total reach h x n)

total_grows : (reach : ℕ) (h : ℕ → ℕ) (x n : ℕ) → total reach h x n ≤ total reach h (suc x) n
total_grows reach h x zero = omega arith
total_grows reach h x (suc n) = omega (arith, total_grows reach h x n)

total_rises : (reach : ℕ) (h : ℕ → ℕ) (x n u : ℕ) → u < n → h u ≤ x → x < h u + reach → total reach h x n < total reach h (suc x) n
total_rises reach h x zero u inside low high = absurd (omega arith)
total_rises reach h x (suc n) u inside low high =
    elim (cases_lt u n) [
      | inl before ↦ omega (arith, total_rises reach h x n u before low high)
      | inr beyond ↦
          let here : u ≡ n = omega arith in
          let low' : h n ≤ x = rw (← here) low in
          let high' : x < h n + reach = rw (← here) high in
          omega (arith, total_grows reach h x n, low', high')
    ]

-- where the total rises a node covers
pub risen : (reach : ℕ) (h : ℕ → ℕ) (x n : ℕ) → total reach h x n < total reach h (suc x) n →
    (u : ℕ) × (u < n) × (h u ≤ x) × (x < h u + reach)
risen reach h x zero more = absurd (omega arith)
risen reach h x (suc n) more =
    elim (cases_lt x (h n)) [
      | inl above ↦ before (risen reach h x n (omega arith))
      | inr low ↦ elim (cases_lt x (h n + reach)) [
        | inl high ↦ (n, omega arith, low, high)
        | inr past ↦ before (risen reach h x n (omega arith))
      ]
    ]
  where
    before : (u : ℕ) × (u < n) × (h u ≤ x) × (x < h u + reach) → (u : ℕ) × (u < suc n) × (h u ≤ x) × (x < h u + reach)
    before found = (found.0, omega (arith, found.1), found.2, found.3)

total_most : (reach : ℕ) (h : ℕ → ℕ) (x n : ℕ) → total reach h x n ≤ n * reach
total_most reach h x zero = omega arith
total_most reach h x (suc n) = omega (arith, total_most reach h x n)

-- below a node's own height the others alone cover
own_total : (reach : ℕ) (h : ℕ → ℕ) (n u : ℕ) → u < n → total reach h (h u) n + reach ≤ n * reach
own_total reach h zero u inside = absurd (omega arith)
own_total reach h (suc n) u inside =
    elim (cases_lt u n) [
      | inl before ↦ omega (arith, own_total reach h n u before)
      | inr beyond ↦
          let here : u ≡ n = omega arith in
          let own : total reach h (h n) (suc n) + reach ≤ suc n * reach = omega (arith, total_most reach h (h n) n) in
          subst (λ w. total reach h (h w) (suc n) + reach ≤ suc n * reach) (sym here) own
    ]

closed_total : (reach : ℕ) (h : ℕ → ℕ) (n x : ℕ) → closed reach h n x ≤ total reach h x n
closed_total reach h n zero = omega arith
closed_total reach h n (suc x) = omega (arith, closed_total reach h n x, total_grows reach h x n)

pub closed_most : (reach : ℕ) (h : ℕ → ℕ) (n u : ℕ) → u < n → closed reach h n (h u) ≤ (n - 1) * reach
closed_most reach h zero u inside = absurd (omega arith)
closed_most reach h (suc n) u inside =
    let one : suc n - 1 ≡ n = omega arith in
    rw one (omega (arith, closed_total reach h (suc n) (h u), own_total reach h (suc n) u inside))

-- it grows by at most one for each height, and by one where the height is covered
pub closed_grows : (reach : ℕ) (h : ℕ → ℕ) (n x k : ℕ) → closed reach h n x ≤ closed reach h n (x + k)
closed_grows reach h n x zero = let e : x + 0 ≡ x = omega arith in rw e (omega arith)
closed_grows reach h n x (suc k) =
    let e : x + suc k ≡ suc (x + k) = omega arith in rw e (omega (arith, closed_grows reach h n x k))

pub closed_slow : (reach : ℕ) (h : ℕ → ℕ) (n x k : ℕ) → closed reach h n (x + k) ≤ closed reach h n x + k
closed_slow reach h n x zero = let e : x + 0 ≡ x = omega arith in rw e (omega arith)
closed_slow reach h n x (suc k) =
    let e : x + suc k ≡ suc (x + k) = omega arith in rw e (omega (arith, closed_slow reach h n x k))

pub closed_exact : (reach : ℕ) (h : ℕ → ℕ) (n u k : ℕ) → u < n → k ≤ reach → closed reach h n (h u + k) ≡ closed reach h n (h u) + k
closed_exact reach h n u zero inside within = let e : h u + 0 ≡ h u = omega arith in rw e (omega arith)
closed_exact reach h n u (suc k) inside within =
    let e : h u + suc k ≡ suc (h u + k) = omega arith in
    rw e (omega (arith, closed_exact reach h n u k inside (omega arith), total_rises reach h (h u + k) n u inside (omega arith) (omega arith)))

pub closed_low : (reach : ℕ) (h : ℕ → ℕ) (n x : ℕ) → closed reach h n x ≤ x
closed_low reach h n zero = omega arith
closed_low reach h n (suc x) = omega (arith, closed_low reach h n x)

-- A difference that the heights keep, the covered heights keep.
pub closed_keeps : (reach : ℕ) (h : ℕ → ℕ) (n s t up down : ℕ) → s < n → t < n → up ≤ reach → down ≤ reach →
    h s + up ≤ h t + down → closed reach h n (h s) + up ≤ closed reach h n (h t) + down
closed_keeps reach h n s t up down s_in t_in up_within down_within kept =
    elim (cases_lt up down) [
      | inl less ↦
          let there : h s + ((h t + (down - up)) - h s) ≡ h t + (down - up) = omega arith in
          let low : closed reach h n (h s) ≤ closed reach h n (h t + (down - up)) = rw there at (closed_grows reach h n (h s) ((h t + (down - up)) - h s)) in
          let slow = closed_slow reach h n (h t) (down - up) in
          omega (arith, low, slow, less)
      | inr more ↦
          let there : (h s + (up - down)) + (h t - (h s + (up - down))) ≡ h t = omega arith in
          let low : closed reach h n (h s + (up - down)) ≤ closed reach h n (h t) = rw there at (closed_grows reach h n (h s + (up - down)) (h t - (h s + (up - down)))) in
          let exact = closed_exact reach h n s (up - down) s_in (omega arith) in
          omega (arith, low, exact, more)
    ]

-- A height from a on and below x that no node covers, where fewer are covered.
pub uncovered : (reach : ℕ) (h : ℕ → ℕ) (n a x : ℕ) → a + closed reach h n x < x →
    (y : ℕ) × (a ≤ y) × (y < x) × ((u : ℕ) → u < n → (y < h u) ⊎ (h u + reach ≤ y))
uncovered reach h n a zero fewer = absurd (omega arith)
uncovered reach h n a (suc x) fewer =
    elim (cases_lt (total reach h x n) (total reach h (suc x) n)) [
      | inl rises ↦
          let found = uncovered reach h n a x (omega arith) in
          (found.0, found.1, omega (arith, found.2), found.3)
      | inr stays ↦ (
        x,
        omega arith,
        omega arith,
        λ u inside.
            elim (cases_lt x (h u)) [
              | inl above ↦ inl above
              | inr low ↦ elim (cases_lt x (h u + reach)) [
                | inl high ↦ absurd (omega (arith, total_rises reach h x n u inside low high, stays))
                | inr past ↦ inr past
              ]
            ],
      )
    ]

-- where all below x are covered, each below x is
pub all_covered : (reach : ℕ) (h : ℕ → ℕ) (n x y : ℕ) → y < x → x ≤ closed reach h n x →
    (u : ℕ) × (u < n) × (h u ≤ y) × (y < h u + reach)
all_covered reach h n zero y below all = absurd (omega arith)
all_covered reach h n (suc x) y below all =
    let low = closed_low reach h n x in
    elim (cases_lt y x) [
      | inl before ↦ all_covered reach h n x y before (omega arith)
      | inr beyond ↦
          let here : y ≡ x = omega arith in
          rw here (risen reach h x n (omega (arith, low)))
    ]
