-- Duality of flows and solutions.
use Rattle.std.proofs.Common.{◌≡◌, ℕ, zero, suc, ◌<◌, ◌≤◌, inl, inr, ℤ, pos, refl, sym, ap, ◌∙◌, arith}
use Rattle.std.specs.Prelude.{◌*ℤ◌, ◌≤ℤ◌, ◌-ℤ◌, List, length}
use Rattle.std.proofs.lemmas.Int.{ints}
use Rattle.std.proofs.lemmas.Bool.{cases_lt}
use Rattle.std.proofs.lemmas.Bool.Decides.{nat_tests}
use lib.IntN.{*ℤ-zero, *ℤ_comm}
use Rattle.compact_types.specs.Sums.{sum_to}
use Rattle.compact_types.proofs.Laws.{sum_to-same, sum_to-scale, sum_to-exchange, sum_to-not_greater, times-sub, times-le_pos, same_factor}
use Rattle.shape_graphs.specs.declared.graph.Arc.{Arc}
use Rattle.shape_graphs.specs.Arcs.{EndsAreNodes, arc_at}
use Rattle.shape_graphs.specs.Flows.{at_node, amount_at, net, Balances, bound_of, IsBestFlow, over, IsSolution, IsTight, length_over}
use Rattle.diff_flow.proofs.SignedLemmas.{same_terms}

-- the number at its own node, and at another
pub at_same : (a : ℕ) (z : ℤ) → at_node a a z ≡ z
at_same a z = grind (arith, nat_tests)

pub at_other : (a b : ℕ) (z : ℤ) → (a ≡ b → ⊥) → at_node a b z ≡ pos 0
at_other a b z ne = grind (arith, nat_tests)

-- a sum with a term at one node alone
none_at : (p : ℕ → ℤ) (a : ℕ) (z : ℤ) (n : ℕ) → n ≤ a → sum_to (λ v. p v *ℤ at_node a v z) n ≡ pos 0
none_at p a z zero le = refl
none_at p a z (suc n) le =
    let here = ap (λ (y : ℤ). p n *ℤ y) (at_other a n z (omega arith)) in
    omega (arith, ints, none_at p a z n (omega arith), here, *ℤ-zero (p n))

picked : (p : ℕ → ℤ) (a : ℕ) (z : ℤ) (n : ℕ) → a < n → sum_to (λ v. p v *ℤ at_node a v z) n ≡ p a *ℤ z
picked p a z zero inside = absurd (omega arith)
picked p a z (suc n) inside =
    elim (cases_lt a n) [
      | inl before ↦
          let here = ap (λ (y : ℤ). p n *ℤ y) (at_other a n z (omega arith)) in
          omega (arith, ints, picked p a z n before, here, *ℤ-zero (p n))
      | inr beyond ↦
          let last : a ≡ n = omega arith in
          let here : p n *ℤ at_node a n z ≡ p a *ℤ z = rw (← last) (ap (λ (y : ℤ). p a *ℤ y) (at_same a z)) in
          omega (arith, ints, none_at p a z n (omega arith), here)
    ]

-- what an arc gives to the sum over the nodes
pub arc_share : (p : ℕ → ℤ) (a b : ℕ) (z : ℤ) (n : ℕ) → a < n → b < n →
    sum_to (λ v. p v *ℤ (at_node a v z -ℤ at_node b v z)) n ≡ z *ℤ (p a -ℤ p b)
arc_share p a b z n a_in b_in =
    apart p (λ v. at_node a v z) (λ v. at_node b v z) n
    ∙ two (picked p a z n a_in) (picked p b z n b_in)
  where
    apart : (p f g : ℕ → ℤ) (n : ℕ) → sum_to (λ v. p v *ℤ (f v -ℤ g v)) n ≡ sum_to (λ v. p v *ℤ f v) n -ℤ sum_to (λ v. p v *ℤ g v) n
    apart p f g zero = refl
    apart p f g (suc n) = omega (arith, ints, apart p f g n, times-sub (p n) (f n) (g n))

    two : {x y : ℤ} → x ≡ p a *ℤ z → y ≡ p b *ℤ z → x -ℤ y ≡ z *ℤ (p a -ℤ p b)
    two e f = omega (arith, ints, e, f, times-sub z (p a) (p b), *ℤ_comm z (p a), *ℤ_comm z (p b))

-- The sum over the arcs of what each carries times the difference over it is the sum over the nodes of
-- the number times what comes in at the node.
pub gather : (nodes : ℕ) (arcs : List Arc) (p c : ℕ → ℤ) → EndsAreNodes nodes arcs →
    sum_to (λ i. c i *ℤ over arcs p i) (length arcs) ≡ sum_to (λ v. p v *ℤ net arcs c v) nodes
gather nodes arcs p c ends =
    sym
    (sum_to-same _ _ nodes (λ v inside. sym (sum_to-scale (p v) (share v) (length arcs)))
    ∙ sum_to-exchange (λ v i. p v *ℤ share v i) (length arcs) nodes
    ∙ sum_to-same _ _ (length arcs) (λ i inside. arc_share p (arc_at arcs i).to (arc_at arcs i).from (c i) nodes (ends i inside).1 (ends i inside).0))
  where
    share : ℕ → ℕ → ℤ
    share v i = at_node (arc_at arcs i).to v (c i) -ℤ at_node (arc_at arcs i).from v (c i)

amounts_of : List ℕ → ℕ → ℤ
amounts_of amounts i = pos (amount_at amounts i)

-- amounts that balance carry the length of all numbers
pub carried_length : (nodes : ℕ) (arcs : List Arc) (amounts : List ℕ) (p : ℕ → ℤ) → EndsAreNodes nodes arcs → Balances nodes arcs amounts →
    sum_to (λ i. pos (amount_at amounts i) *ℤ over arcs p i) (length arcs) ≡ length_over arcs p
carried_length nodes arcs amounts p ends balances =
    gather nodes arcs p (λ i. pos (amount_at amounts i)) ends
    ∙ sum_to-same _ _ nodes (λ v inside. ap (λ (z : ℤ). p v *ℤ z) (balances.each v inside))
    ∙ sym (gather nodes arcs p (λ i. (arc_at arcs i).pull) ends)

pub bound_below : (nodes : ℕ) (arcs : List Arc) (amounts : List ℕ) (p : ℕ → ℤ) → EndsAreNodes nodes arcs → Balances nodes arcs amounts →
    IsSolution arcs p → bound_of arcs amounts ≤ℤ length_over arcs p
bound_below nodes arcs amounts p ends balances solution =
    let carried = carried_length nodes arcs amounts p ends balances in
    let below = sum_to-not_greater _ _ (length arcs) (λ i inside. times-le_pos (amount_at amounts i) _ _ (solution i inside)) in
    rw (← carried) below

pub tight_where_equal : (nodes : ℕ) (arcs : List Arc) (amounts : List ℕ) (p : ℕ → ℤ) → EndsAreNodes nodes arcs → Balances nodes arcs amounts →
    IsSolution arcs p → bound_of arcs amounts ≡ length_over arcs p → IsTight arcs amounts p
tight_where_equal nodes arcs amounts p ends balances solution equal i inside some =
    let terms = same_terms _ _ (length arcs) (λ j below. times-le_pos (amount_at amounts j) _ _ (solution j below))
    (equal ∙ sym (carried_length nodes arcs amounts p ends balances)) i inside in
    sym (same_factor (pos (amount_at amounts i)) _ _ (omega (arith, ints, some)) terms)

pub equal_where_tight : (nodes : ℕ) (arcs : List Arc) (amounts : List ℕ) (p : ℕ → ℤ) → EndsAreNodes nodes arcs → Balances nodes arcs amounts →
    IsTight arcs amounts p → bound_of arcs amounts ≡ length_over arcs p
equal_where_tight nodes arcs amounts p ends balances tight =
    sum_to-same _ _ (length arcs) (λ i inside. term (amount_at amounts i) (tight i inside))
    ∙ carried_length nodes arcs amounts p ends balances
  where
    term : {a b : ℤ} (x : ℕ) → (0 < x → b ≡ a) → pos x *ℤ a ≡ pos x *ℤ b
    term {a} {b} zero same = lib.IntN.zero-*ℤ a ∙ sym (lib.IntN.zero-*ℤ b)
    term (suc x) same = ap (λ (z : ℤ). pos (suc x) *ℤ z) (sym (same (omega arith)))

pub best_by_tight : (nodes : ℕ) (arcs : List Arc) (amounts : List ℕ) (p : ℕ → ℤ) → EndsAreNodes nodes arcs → Balances nodes arcs amounts →
    IsSolution arcs p → IsTight arcs amounts p → IsBestFlow nodes arcs amounts
best_by_tight nodes arcs amounts p ends balances solution tight = record {
  balanced = balances;
  best = λ others balance.
      let e = equal_where_tight nodes arcs amounts p ends balances tight in
      rw e (bound_below nodes arcs others p ends balance solution);
}
