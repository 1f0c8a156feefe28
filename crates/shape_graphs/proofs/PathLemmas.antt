-- Paths, cycles and topological orders.
use Rattle.std.proofs.Common.{◌≡◌, ℕ, zero, suc, ◌+◌, ◌<◌, ◌≤◌, ◌-◌, List, length, slice_index, refl, sym, ap, ◌∙◌, subst, arith}
use Rattle.shape_graphs.specs.declared.graph.Arc.{Arc}
use Rattle.shape_graphs.specs.Arcs.{arc_at}
use Rattle.shape_graphs.specs.Orders.{IsArcOrder}
use Rattle.shape_graphs.specs.Paths.{HasPath, HasCycle, step_arc, IsCycle}
use Rattle.shape_graphs.specs.Paths.HasPath.{along_arc, arc_and_path}

-- an arc and what ends it, at any two nodes
pub one_arc : (arcs : List Arc) (a b i : ℕ) → i < length arcs → (arc_at arcs i).from ≡ a → (arc_at arcs i).to ≡ b → HasPath arcs a b
one_arc arcs a b i within is_from is_to =
    let P : ℕ → Type 0 = λ x. HasPath arcs x b in
    let Q : ℕ → Type 0 = λ y. HasPath arcs (arc_at arcs i).from y in
    subst P is_from (subst Q is_to (along_arc i within))

pub arc_then : (arcs : List Arc) (a b c i : ℕ) → i < length arcs → (arc_at arcs i).from ≡ a → (arc_at arcs i).to ≡ b → HasPath arcs b c → HasPath arcs a c
arc_then arcs a b c i within is_from is_to path =
    let P : ℕ → Type 0 = λ x. HasPath arcs x c in
    subst P is_from (arc_and_path i c within (subst P (sym is_to) path))

-- two paths, one after the other
pub joined_paths : (arcs : List Arc) (a b c : ℕ) → HasPath arcs a b → HasPath arcs b c → HasPath arcs a c
joined_paths arcs a b c (along_arc i within) second = arc_and_path i c within second
joined_paths arcs a b c (arc_and_path i end within rest) second = arc_and_path i c within (joined_paths arcs (arc_at arcs i).to end c rest second)

-- where the path begins and ends in a topological order
abbrev RisesIn : List Arc → List ℕ → ℕ → ℕ → Type 0
RisesIn arcs order a b =
    (k : ℕ) × (l : ℕ) × (k < length order) × (l < length order) × (k ≤ l)
    × ((step_arc arcs order k).from ≡ a) × ((step_arc arcs order l).to ≡ b)

path_rises : (arcs : List Arc) (order : List ℕ) (a b : ℕ) → IsArcOrder arcs order → HasPath arcs a b → RisesIn arcs order a b
path_rises arcs order a b is (along_arc i within) =
    let found = is.has_each i within in (
      found.0,
      found.0,
      found.1,
      found.1,
      omega arith,
      ap (λ (j : ℕ). (arc_at arcs j).from) found.2,
      ap (λ (j : ℕ). (arc_at arcs j).to) found.2,
    )
path_rises arcs order a b is (arc_and_path i end within rest) =
    let found = is.has_each i within in
    let later = path_rises arcs order (arc_at arcs i).to end is rest in
    let before : found.0 < later.0 =
    is.ends_before later.0 found.0 later.2 found.1 (ap (λ (j : ℕ). (arc_at arcs j).to) found.2 ∙ sym later.5) in
    (found.0, later.1, found.1, later.3, omega (arith, before, later.4), ap (λ (j : ℕ). (arc_at arcs j).from) found.2, later.6)

pub no_cycle_in_order : (arcs : List Arc) (order : List ℕ) → IsArcOrder arcs order → HasCycle arcs → ⊥
no_cycle_in_order arcs order is cycle =
    let rises = path_rises arcs order cycle.0 cycle.0 is cycle.1 in
    let back : rises.1 < rises.0 = is.ends_before rises.0 rises.1 rises.2 rises.3 (rises.6 ∙ sym rises.5) in
    omega (arith, back, rises.4)

-- a path along a part of a cycle, up to its end
along_cycle : (arcs : List Arc) (walk : List ℕ) (n k : ℕ) → IsCycle arcs walk → k + suc n ≡ length walk →
    HasPath arcs (step_arc arcs walk k).from (step_arc arcs walk (length walk - 1)).to
along_cycle arcs walk zero k is last =
    let here : length walk - 1 ≡ k = omega arith in
    rw here (along_arc (slice_index walk k) (is.in_graph k (omega arith)))
along_cycle arcs walk (suc n) k is more =
    arc_then arcs (step_arc arcs walk k).from (step_arc arcs walk (suc k)).from (step_arc arcs walk (length walk - 1)).to (slice_index walk k)
    (is.in_graph k (omega arith)) refl (is.joined k (omega arith)) (along_cycle arcs walk n (suc k) is (omega arith))

pub cycle_is_one : (arcs : List Arc) (walk : List ℕ) → IsCycle arcs walk → HasCycle arcs
cycle_is_one arcs walk is =
    let whole : HasPath arcs (step_arc arcs walk 0).from (step_arc arcs walk (length walk - 1)).to =
    along_cycle arcs walk (length walk - 1) 0 is (omega (arith, is.some)) in
    ((step_arc arcs walk 0).from, rw is.closed at whole)
