-- How high amounts can be.
use Rattle.std.proofs.Common.{◌≡◌, ℕ, zero, suc, ◌+◌, ◌*◌, ◌<◌, ◌≤◌, ℤ, pos, List, [], ◌∷◌, length, get_or, refl, ap, ◌∙◌, arith, sum}
use Rattle.std.specs.Prelude.{◌+ℤ◌, ◌≤ℤ◌, ◌-ℤ◌}
use Rattle.std.proofs.lemmas.Int.{ints}
use Rattle.std.proofs.lemmas.List.Sums.{sum_by-cons}
use Rattle.compact_types.specs.Sums.{sum_to}
use Rattle.compact_types.proofs.Laws.{sum_to-same, sum_to-nothing}
use Rattle.shape_graphs.specs.declared.graph.Arc.{Arc}
use Rattle.shape_graphs.specs.Arcs.{arc_at, EndsAreNodes, AreArcsWithin}
use Rattle.shape_graphs.specs.Flows.{amount_at, at_node, Balances, IsSolution, net}
use Rattle.diff_flow.proofs.TightLemmas.{nat, nat_is, nat_some}
use Rattle.diff_flow.proofs.CutLemmas.{net_of, carried}

pub sum_low : (f : ℕ → ℕ) (n most : ℕ) → ((j : ℕ) → j < n → f j ≤ most) → sum_to (λ j. pos (f j)) n ≤ℤ pos (n * most)
sum_low f zero most low = omega (arith, ints)
sum_low f (suc n) most low = omega (arith, ints, low n (omega arith), sum_low f n most (λ j below. low j (omega arith)))

front : (f : ℕ → ℤ) (n : ℕ) → sum_to f (suc n) ≡ f 0 +ℤ sum_to (λ i. f (suc i)) n
front f zero = omega (arith, ints)
front f (suc n) = omega (arith, ints, front f n)

pub list_sum : (xs : List ℕ) → sum_to (λ v. pos (get_or xs v 0)) (length xs) ≡ pos (sum xs)
list_sum [] = refl
list_sum (x ∷ xs) =
    let more : sum (x ∷ xs) ≡ x + sum xs = sum_by-cons (λ y. y) x xs in
    let rest : pos x +ℤ sum_to (λ v. pos (get_or xs v 0)) (length xs) ≡ pos (sum (x ∷ xs)) = omega (arith, ints, list_sum xs, more) in
    front (λ v. pos (get_or (x ∷ xs) v 0)) (length xs) ∙ rest

pub amounts_low : (nodes : ℕ) (arcs : List Arc) (amounts : List ℕ) (numbers : ℕ → ℤ) → EndsAreNodes nodes arcs → AreArcsWithin arcs →
    Balances nodes arcs amounts → IsSolution arcs numbers →
    (i : ℕ) → i < length arcs → pos (amount_at amounts i) ≤ℤ sum_to (λ j. (arc_at arcs j).pull) (length arcs)
amounts_low nodes arcs amounts p ends within balances solution i inside =
    let low = carried nodes (length arcs) (λ j. (arc_at arcs j).from) (λ j. (arc_at arcs j).to) ends (amount_at amounts) pull_at (λ v. 0)
    (λ v. nat (p v -ℤ p (arc_at arcs i).from)) i
    (λ v v_in. let is = balances.each v v_in in let same = same_net v in omega (arith, ints, is, same))
    inside (none_at (p (arc_at arcs i).from)) (above i inside (p (arc_at arcs i).from) (omega (arith, ints)))
    (λ j j_in some. above j j_in (p (arc_at arcs i).from) (let one = nat_some _ some in omega (arith, ints, one))) in
    let none = sum_to-nothing nodes in
    let pulls = sum_to-same (λ j. pos (pull_at j)) (λ j. (arc_at arcs j).pull) (length arcs) pull_is in
    omega (arith, ints, low, none, pulls)
  where
    pull_at : ℕ → ℕ
    pull_at j = nat (arc_at arcs j).pull

    pull_is : (j : ℕ) → j < length arcs → pos (nat (arc_at arcs j).pull) ≡ (arc_at arcs j).pull
    pull_is j j_in = nat_is (arc_at arcs j).pull (within j j_in).some_pull

    two : (f g : ℤ → ℤ) {x y : ℤ} → x ≡ y → f x -ℤ g x ≡ f y -ℤ g y
    two f g e = ap (λ (z : ℤ). f z -ℤ g z) e

    same_net : (v : ℕ) → net_of (λ j. (arc_at arcs j).from) (λ j. (arc_at arcs j).to) (length arcs) (λ j. nat (arc_at arcs j).pull) v
        ≡ net arcs (λ j. (arc_at arcs j).pull) v
    same_net v = sum_to-same _ _ (length arcs) (λ j j_in. two (at_node (arc_at arcs j).to v) (at_node (arc_at arcs j).from v) (pull_is j j_in))

    none_at : (z : ℤ) → nat (z -ℤ z) ≡ 0
    none_at z = let is = nat_is (z -ℤ z) (omega (arith, ints)) in omega (arith, ints, is)

    above : (j : ℕ) → j < length arcs → (z : ℤ) → pos 0 ≤ℤ (p (arc_at arcs j).from -ℤ z) → 0 < nat (p (arc_at arcs j).to -ℤ z)
    above j j_in z low =
        let one = (within j j_in).some_least in
        let more = solution j j_in in
        let is = nat_is (p (arc_at arcs j).to -ℤ z) (omega (arith, ints, one, more, low)) in
        omega (arith, ints, is, one, more, low)
