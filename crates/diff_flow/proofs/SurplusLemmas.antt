-- Sums of what arcs bring in at the nodes of a block.
use Rattle.std.proofs.Common.{◌≡◌, ℕ, suc, ◌+◌, ◌-◌, ◌*◌, ◌^◌, ◌<◌, min, inl, inr, ℤ, pos, ap, ◌∙◌, arith, List, length, set, take, replicate, get_or-set_same, get_or-set_other}
use Rattle.std.specs.Prelude.{◌+ℤ◌, ◌-ℤ◌, ◌≤ℤ◌}
use Rattle.std.proofs.lemmas.Int.{ints}
use Rattle.std.proofs.lemmas.List.{get_or-replicate, get_or-take, length-take}
use Rattle.std.proofs.lemmas.Bool.{cases_eq, cases_lt}
use Rattle.compact_types.specs.Sums.{sum_to}
use Rattle.compact_types.specs.Magnitudes.{IsWithin}
use Rattle.shape_graphs.specs.declared.graph.Arc.{Arc}
use Rattle.shape_graphs.specs.Arcs.{arc_at}
use Rattle.shape_graphs.specs.Flows.{at_node, amount_at, BalancesAt}
use Rattle.diff_flow.specs.Amounts.{IsFirstUnbalanced}
use Rattle.shape_graphs.specs.Flows.{number_at}
use Rattle.diff_flow.specs.inner.Surpluses.{AreNothing, AreSurpluses, BalanceBelow, IsFirstSome, brought}
use Rattle.diff_flow.proofs.Duality.{at_same, at_other}
use Rattle.diff_flow.proofs.FlowLemmas.{at_cases, balances_here, unbalanced_here}

-- zeros, and the first of them
pub zeros_are_nothing : (n k : ℕ) → k < n → number_at (replicate n (pos 0)) k ≡ pos 0
zeros_are_nothing n k within = get_or-replicate n k (pos 0) (pos 0) within

pub first_are_nothing : (n : ℕ) (l : List ℤ) → AreNothing l → AreNothing (take n l)
first_are_nothing n l nothing k within =
    let some : k < n = omega (arith, length-take n l, within) in
    let inside : k < length l = omega (arith, length-take n l, within) in
    get_or-take n l k (pos 0) some ∙ nothing k inside

-- the sums after the number is added to that of the node
pub put_at : (sums : List ℤ) (first node place : ℕ) (more z : ℤ) → first + place ≡ node → place < length sums → z ≡ number_at sums place +ℤ more →
    (k : ℕ) → k < length sums → number_at (set sums place z) k ≡ number_at sums k +ℤ at_node node (first + k) more
put_at sums first node place more z is inside sum k within =
    elim (cases_eq k place) [
      | inl same ↦
          let here : number_at (set sums place z) k ≡ z = ap (number_at (set sums place z)) same ∙ get_or-set_same sums place z (pos 0) inside in
          let old : number_at sums k ≡ number_at sums place = ap (number_at sums) same in
          let at : at_node node (first + k) more ≡ more = let own : first + k ≡ node = omega (arith, is, same) in rw own (at_same node more) in
          omega (arith, ints, here, old, at, sum)
      | inr apart ↦
          let here : number_at (set sums place z) k ≡ number_at sums k = get_or-set_other sums place k z (pos 0) apart in
          let at : at_node node (first + k) more ≡ pos 0 = at_other node (first + k) more (λ e. apart (omega (arith, is, e))) in
          omega (arith, ints, here, at)
    ]

at_small : (a b : ℕ) (z : ℤ) → IsWithin (2 ^ 50) z → IsWithin (2 ^ 50) (at_node a b z)
at_small a b z small = at_cases a b (λ f. IsWithin (2 ^ 50) (f z)) small (record { low = omega (arith, ints); high = omega (arith, ints) })

-- the sum of what the first n arcs bring in at the node
pub record IsSoFar (arcs : List Arc) (amounts : List ℕ) (node n : ℕ) (sum : ℤ) : Type 0 where
  pub so_far : sum ≡ sum_to (λ i. brought (arc_at arcs i) (pos (amount_at amounts i) -ℤ (arc_at arcs i).pull) node) n
  pub low : (pos 0 -ℤ pos (2 ^ 51 * n)) ≤ℤ sum
  pub high : sum ≤ℤ pos (2 ^ 51 * n)

pub one_more : (arcs : List Arc) (amounts : List ℕ) (node n m : ℕ) (old new carried : ℤ) → m ≡ suc n →
    carried ≡ pos (amount_at amounts n) -ℤ (arc_at arcs n).pull → IsWithin (2 ^ 50) carried →
    IsSoFar arcs amounts node n old → new ≡ old +ℤ brought (arc_at arcs n) carried node → IsSoFar arcs amounts node m new
one_more arcs amounts node n m old new carried next is_carried small before is =
    let to = at_small (arc_at arcs n).to node carried small in
    let from = at_small (arc_at arcs n).from node carried small in
    let brings : brought (arc_at arcs n) carried node ≡ brought (arc_at arcs n) (pos (amount_at amounts n) -ℤ (arc_at arcs n).pull) node =
    ap (λ (z : ℤ). brought (arc_at arcs n) z node) is_carried in
    rw next (record {
      so_far = omega (arith, ints, is, brings, before.so_far);
      low = omega (arith, ints, is, before.low, to.low, from.high);
      high = omega (arith, ints, is, before.high, to.high, from.low);
    })

-- a block in which all surpluses are nothing
module _ (first nodes : ℕ) (arcs given : List Arc) (amounts taken : List ℕ) (sums : List ℤ) (one : given ≡ arcs) (two : taken ≡ amounts)
    (fits : length sums ≡ min 1024 (nodes - first)) (are : AreSurpluses given taken first sums) (before : BalanceBelow first nodes arcs amounts) where
  abbrev Here : ℕ → Type 0
  Here node = BalanceBelow node nodes arcs amounts

  pub all_balance : AreNothing sums → BalanceBelow (first + 1024) nodes arcs amounts
  all_balance nothing node below inside =
      elim (cases_lt node first) [
        | inl earlier ↦ before node earlier inside
        | inr later ↦
            let same : first + (node - first) ≡ node = omega (arith, later) in
            let within : (node - first) < length sums = omega (arith, later, below, inside, fits) in
            rw (← same) (balances_here arcs given amounts taken (first + (node - first)) (number_at sums (node - first)) one two (are (node - first) within) (nothing (node - first) within))
      ]

  pub first_unbalanced : (place : ℕ) → IsFirstSome sums place → IsFirstUnbalanced nodes arcs amounts (first + place)
  first_unbalanced place found = record {
    inside = omega (arith, fits, found.inside);
    unbalanced = unbalanced_here arcs given amounts taken (first + place) (number_at sums place) one two (are place found.inside) found.some;
    first = λ node earlier. earlier_balances node earlier;
  }
    where
      earlier_balances : (node : ℕ) → node < first + place → BalancesAt arcs amounts node
      earlier_balances node earlier =
          elim (cases_lt node first) [
            | inl less ↦ before node less (omega (arith, less, fits, found.inside))
            | inr later ↦
                let same : first + (node - first) ≡ node = omega (arith, later) in
                let less : (node - first) < place = omega (arith, later, earlier) in
                let within : (node - first) < length sums = omega (arith, less, found.inside) in
                rw (← same) (balances_here arcs given amounts taken (first + (node - first)) (number_at sums (node - first)) one two (are (node - first) within) (found.first (node - first) less))
          ]
