-- Bounds of flows are limited: by the length of a solution with small numbers, and by their amounts.
use Rattle.std.proofs.Common.{◌≡◌, ℕ, zero, suc, ◌+◌, ◌-◌, ◌*◌, ◌^◌, ◌<◌, ◌≤◌, ℤ, pos, List, [], length, arith}
use Rattle.std.specs.Prelude.{◌*ℤ◌, ◌≤ℤ◌}
use Rattle.std.proofs.lemmas.Int.{ints}
use Rattle.std.proofs.lemmas.Nat.{mul-le}
use Rattle.std.proofs.Math.IntN.{pos-*ℤ-pos, *ℤ-zero}
use Rattle.compact_types.specs.Sums.{sum_to}
use Rattle.shape_graphs.specs.declared.graph.Arc.{Arc}
use Rattle.shape_graphs.specs.Arcs.{arc_at, AreGraph, AreArcsWithin, IsArcWithin}
use Rattle.shape_graphs.specs.Flows.{amount_at, Balances, bound_of, IsFlowOn, length_over, over}
use Rattle.shape_graphs.specs.Paths.{HasCycle}
use Rattle.shape_graphs.proofs.Laws.{some_solution}
use Rattle.diff_flow.specs.Tight.{AreTight}
use Rattle.diff_flow.proofs.Laws.{bound_below}
use Rattle.diff_flow.proofs.Laws.{closed, closed_most}
use Rattle.compact_types.proofs.Laws.{times-le_pos}
use Rattle.diff_flow.proofs.Laws.{nat, nat_is, tight_without_gaps}

-- a product of a small and a bounded number
pub product_most : (x m d : ℕ) (z : ℤ) → x ≤ m → z ≤ℤ pos d → (pos x *ℤ z) ≤ℤ pos (m * d)
product_most x m d z few low =
    let below = times-le_pos x z (pos d) low in
    let is = pos-*ℤ-pos x d in
    let most = mul-le x d m d few (omega arith) in
    omega (arith, ints, below, is, most)

-- a sum of terms that are at most d
pub sum_most : (f : ℕ → ℤ) (d n : ℕ) → ((i : ℕ) → i < n → (f i) ≤ℤ pos d) → (sum_to f n) ≤ℤ pos (n * d)
sum_most f d zero each = omega (arith, ints)
sum_most f d (suc n) each =
    let before = sum_most f d n (λ i inside. each i (omega (arith, inside))) in
    let here = each n (omega arith) in
    let is : suc n * d ≡ n * d + d = omega arith in
    omega (arith, ints, before, here, is)

-- the sum of numbers from zero upward is one
pub sum_from_zero : (f : ℕ → ℤ) (n : ℕ) → ((i : ℕ) → i < n → pos 0 ≤ℤ (f i)) → pos 0 ≤ℤ (sum_to f n)
sum_from_zero f zero each = omega (arith, ints)
sum_from_zero f (suc n) each =
    let before = sum_from_zero f n (λ i inside. each i (omega (arith, inside))) in
    let here = each n (omega arith) in
    omega (arith, ints, before, here)

-- the bound of a flow is not negative
pub bound_from_zero : (arcs : List Arc) (amounts : List ℕ) → AreArcsWithin arcs → pos 0 ≤ℤ (bound_of arcs amounts)
bound_from_zero arcs amounts within =
    sum_from_zero _ (length arcs) (λ i inside. term (amount_at amounts i) (arc_at arcs i) (within i inside))
  where
    term : (x : ℕ) (arc : Arc) → IsArcWithin arc → pos 0 ≤ℤ (pos x *ℤ arc.least)
    term x arc is =
        let some = is.some_least in
        let low = times-le_pos x (pos 0) arc.least (omega (arith, ints, some)) in
        let none = *ℤ-zero (pos x) in
        omega (arith, ints, low, none)

-- the bound of a flow within the amounts
pub bound_by_amounts : (arcs : List Arc) (amounts : List ℕ) → AreArcsWithin arcs → length arcs ≤ 999999999 → IsFlowOn arcs amounts →
    (bound_of arcs amounts) ≤ℤ pos (2 ^ 100)
bound_by_amounts arcs amounts within few flow =
    let whole = sum_most (λ i. pos (amount_at amounts i) *ℤ (arc_at arcs i).least) (999999999999999 * 1000) (length arcs)
    (λ i inside. (
    let most = (within i inside).most_least in
    product_most (amount_at amounts i) 999999999999999 1000 (arc_at arcs i).least (flow.most i inside) (omega (arith, ints, most)))) in
    let low = mul-le (length arcs) (999999999999999 * 1000) 999999999 (999999999999999 * 1000) few (omega arith) in
    omega (arith, ints, whole, low)

-- the greatest bound on so many nodes
abbrev pub ceiling : ℕ → List Arc → ℕ
ceiling nodes arcs = length arcs * (1000 * ((nodes - 1) * 1000))

module _ (nodes : ℕ) (arcs : List Arc) (graph : AreGraph nodes arcs) (none : HasCycle arcs → ⊥) where
  abbrev first_numbers : ℕ → ℤ
  first_numbers = (some_solution arcs none).0

  least_low : (i : ℕ) → i < length arcs → (arc_at arcs i).least ≤ℤ pos 1000
  least_low i inside = let most = (graph.within i inside).most_least in omega (arith, ints, most)

  -- the numbers of some solution, with its gaps closed
  pub low_numbers : ℕ → ℤ
  low_numbers v = pos (closed 1000 (λ u. nat (first_numbers u)) nodes (nat (first_numbers v)))

  pub low_numbers_tight : AreTight nodes arcs [] low_numbers
  unfolding low_numbers
  low_numbers_tight = tight_without_gaps nodes 1000 arcs [] first_numbers graph.ends graph.within least_low (record {
    from_zero = λ v inside. (some_solution arcs none).2 v;
    solution = (some_solution arcs none).1;
    tight = λ i inside some. absurd (omega (arith, some));
  })

  pub low_numbers_most : (v : ℕ) → v < nodes → low_numbers v ≤ℤ pos ((nodes - 1) * 1000)
  unfolding low_numbers
  low_numbers_most v inside =
      let most = closed_most 1000 (λ u. nat (first_numbers u)) nodes v inside in
      omega (arith, ints, most)

  -- how long that solution is
  length_most : length_over arcs low_numbers ≤ℤ pos (ceiling nodes arcs)
  length_most = sum_most (λ i. (arc_at arcs i).pull *ℤ over arcs low_numbers i) (1000 * ((nodes - 1) * 1000)) (length arcs) (λ i inside. (
      let is = graph.within i inside in
      let some = is.some_pull in
      let most = is.most_pull in
      let ends = graph.ends i inside in
      let high = low_numbers_most (arc_at arcs i).to ends.1 in
      let low = low_numbers_tight.from_zero (arc_at arcs i).from ends.0 in
      let pull = nat_is (arc_at arcs i).pull some in
      let below : over arcs low_numbers i ≤ℤ pos ((nodes - 1) * 1000) = omega (arith, ints, high, low) in
      let product = product_most (nat (arc_at arcs i).pull) 1000 ((nodes - 1) * 1000) (over arcs low_numbers i) (omega (arith, ints, pull, most)) below in
      rw pull at product))

  pub bound_most : (amounts : List ℕ) → Balances nodes arcs amounts → (bound_of arcs amounts) ≤ℤ pos (ceiling nodes arcs)
  bound_most amounts balances =
      let below = bound_below nodes arcs amounts low_numbers graph.ends balances low_numbers_tight.solution in
      let most = length_most in
      omega (arith, ints, below, most)

  -- on few nodes it is small
  pub bound_small : (amounts : List ℕ) → Balances nodes arcs amounts → nodes ≤ 1000 → (bound_of arcs amounts) ≤ℤ pos (2 ^ 60)
  bound_small amounts balances few_nodes =
      let below = bound_most amounts balances in
      let high : (nodes - 1) * 1000 ≤ 999000 = omega (arith, few_nodes) in
      let one = mul-le 1000 ((nodes - 1) * 1000) 1000 999000 (omega arith) high in
      let few : length arcs ≤ 999999999 = omega (arith, graph.few) in
      let all = mul-le (length arcs) (1000 * ((nodes - 1) * 1000)) 999999999 (1000 * 999000) few one in
      omega (arith, ints, below, all)
