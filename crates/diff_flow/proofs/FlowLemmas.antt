-- Surpluses of nodes, and the first flow.
use Rattle.std.proofs.Common.{◌≡◌, ℕ, zero, suc, ◌<◌, ◌≤◌, ◌⊎◌, inl, inr, ℤ, pos, refl, sym, ap, ◌∙◌, arith, List, length}
use Rattle.std.specs.Prelude.{◌-ℤ◌}
use Rattle.std.proofs.lemmas.Int.{ints}
use Rattle.compact_types.specs.Sums.{sum_to}
use Rattle.compact_types.proofs.Laws.{sum_to-same}
use Rattle.shape_graphs.specs.declared.graph.Arc.{Arc}
use Rattle.shape_graphs.specs.Arcs.{arc_at}
use Rattle.shape_graphs.specs.Flows.{at_node, amount_at, net, Balances, BalancesAt}

pub at_cases : (a b : ℕ) (P : (ℤ → ℤ) → Type 0) → P (λ z. z) → P (λ z. pos 0) → P (at_node a b)
at_cases a b P same other = elim (Rattle.std.proofs.Common.eqb a b) as (λ t. P (λ z. Rattle.std.proofs.Common.cond t z (pos 0))) [ Rattle.std.proofs.Common.true ↦ same | Rattle.std.proofs.Common.false ↦ other ]

pub at_difference : (a b : ℕ) (x y : ℤ) → at_node a b (x -ℤ y) ≡ at_node a b x -ℤ at_node a b y
at_difference a b x y = at_cases a b (λ f. f (x -ℤ y) ≡ f x -ℤ f y) refl refl

apart : (arcs : List Arc) (amounts : List ℕ) (node n : ℕ) →
    sum_to (λ i. at_node (arc_at arcs i).to node (pos (amount_at amounts i) -ℤ (arc_at arcs i).pull)
    -ℤ at_node (arc_at arcs i).from node (pos (amount_at amounts i) -ℤ (arc_at arcs i).pull)) n
    ≡ sum_to (λ i. at_node (arc_at arcs i).to node (pos (amount_at amounts i)) -ℤ at_node (arc_at arcs i).from node (pos (amount_at amounts i))) n
    -ℤ sum_to (λ i. at_node (arc_at arcs i).to node (arc_at arcs i).pull -ℤ at_node (arc_at arcs i).from node (arc_at arcs i).pull) n
apart arcs amounts node zero = refl
apart arcs amounts node (suc n) =
    omega (
      arith,
      ints,
      apart arcs amounts node n,
      at_difference (arc_at arcs n).to node (pos (amount_at amounts n)) (arc_at arcs n).pull,
      at_difference (arc_at arcs n).from node (pos (amount_at amounts n)) (arc_at arcs n).pull,
    )

pub surplus_is : (arcs : List Arc) (amounts : List ℕ) (node n : ℕ) (s : ℤ) → n ≡ length arcs →
    s ≡ sum_to (λ i. at_node (arc_at arcs i).to node (pos (amount_at amounts i) -ℤ (arc_at arcs i).pull)
    -ℤ at_node (arc_at arcs i).from node (pos (amount_at amounts i) -ℤ (arc_at arcs i).pull)) n →
    s ≡ net arcs (λ i. pos (amount_at amounts i)) node -ℤ net arcs (λ i. (arc_at arcs i).pull) node
surplus_is arcs amounts node n s all so_far = so_far ∙ apart arcs amounts node n ∙ ap (λ (m : ℕ).
    sum_to (λ i. at_node (arc_at arcs i).to node (pos (amount_at amounts i)) -ℤ at_node (arc_at arcs i).from node (pos (amount_at amounts i))) m
    -ℤ sum_to (λ i. at_node (arc_at arcs i).to node (arc_at arcs i).pull -ℤ at_node (arc_at arcs i).from node (arc_at arcs i).pull) m) all

pub pulls_balance : (nodes : ℕ) (arcs : List Arc) (amounts : List ℕ) → length amounts ≡ length arcs →
    ((i : ℕ) → i < length arcs → pos (amount_at amounts i) ≡ (arc_at arcs i).pull) → Balances nodes arcs amounts
pulls_balance nodes arcs amounts one_for_each each = record {
  one_for_each = one_for_each;
  each = λ v inside. sum_to-same _ _ (length arcs) (λ i below.
      two (at_node (arc_at arcs i).to v) (at_node (arc_at arcs i).from v) (each i below));
}
  where
    two : (f g : ℤ → ℤ) {x y : ℤ} → x ≡ y → f x -ℤ g x ≡ f y -ℤ g y
    two f g e = ap (λ (z : ℤ). f z -ℤ g z) e

-- the surplus of a node is nothing exactly where it balances
module _ (arcs given : List Arc) (amounts taken : List ℕ) (node : ℕ) (s : ℤ) (one : given ≡ arcs) (two : taken ≡ amounts)
    (is : s ≡ net given (λ i. pos (amount_at taken i)) node -ℤ net given (λ i. (arc_at given i).pull) node) where
  is_here : s ≡ net arcs (λ i. pos (amount_at amounts i)) node -ℤ net arcs (λ i. (arc_at arcs i).pull) node
  is_here = is ∙ ap (λ (a : List Arc). net a (λ i. pos (amount_at taken i)) node -ℤ net a (λ i. (arc_at a i).pull) node) one
      ∙ ap (λ (x : List ℕ). net arcs (λ i. pos (amount_at x i)) node -ℤ net arcs (λ i. (arc_at arcs i).pull) node) two

  pub balances_here : s ≡ pos 0 → BalancesAt arcs amounts node
  balances_here none = let here = is_here in omega (arith, ints, here, none)

  pub unbalanced_here : (s ≡ pos 0 → ⊥) → BalancesAt arcs amounts node → ⊥
  unbalanced_here some balances = let here = is_here in some (omega (arith, ints, here, balances))
