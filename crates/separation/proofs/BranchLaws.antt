-- The branch pair is determined by the choices.
use Rattle.std.proofs.Common.{◌≡◌, ℕ, zero, suc, ◌<◌, ◌≤◌, Bool, true, false, List, [], ◌∷◌, ◌⊎◌, inl, inr, subst, sym, refl, arith}
use Rattle.std.specs.Prelude.{◌↔◌, slice_index_or}
use Rattle.std.specs.List.{count_by}
use Rattle.std.proofs.lemmas.Bool.{cases_eq, true≢false}
use Rattle.compact_types.specs.declared.places.Key.{Key}
use Rattle.compact_types.specs.declared.places.Places.{Places}
use Rattle.compact_types.specs.declared.plan.Shape.{Shape}
use Rattle.compact_types.specs.declared.search.Choice.{Choice}
use Rattle.compact_types.specs.Bests.{Objective}
use Rattle.bars.specs.Sides.{side_axis}
use Rattle.shape_graphs.specs.Graphs.{arcs_of, side_arc}
use Rattle.shape_graphs.specs.Measures.{IsLeastKey}
use Rattle.shape_graphs.specs.Paths.{HasPath}
use Rattle.shape_graphs.proofs.Laws.{one_least, path_decided}
use Rattle.separation.specs.Branching.{IsBranchPair, IsNotAfter}
use Rattle.separation.specs.Reaching.{ClosesCycle, HasOpenSides, IsSideOpen}

-- whether a side is open is decided
module _ (shape : Shape) (choices : List Choice) (s t : ℕ) where
  cycle_decided : (side : ℕ) → ClosesCycle shape choices s t side ⊎ IsSideOpen shape choices s t side
  cycle_decided side =
      by_loop (cases_eq (side_arc shape s t side).to (side_arc shape s t side).from)
      (path_decided (arcs_of (side_axis side) shape choices) (side_arc shape s t side).to (side_arc shape s t side).from)
    where
      by_loop : ((side_arc shape s t side).to ≡ (side_arc shape s t side).from) ⊎ ((side_arc shape s t side).to ≡ (side_arc shape s t side).from → ⊥) →
          HasPath (arcs_of (side_axis side) shape choices) (side_arc shape s t side).to (side_arc shape s t side).from
          ⊎ (HasPath (arcs_of (side_axis side) shape choices) (side_arc shape s t side).to (side_arc shape s t side).from → ⊥) →
          ClosesCycle shape choices s t side ⊎ IsSideOpen shape choices s t side
      by_loop (inl same) path = inl (inl same)
      by_loop (inr other) (inl path) = inl (inr path)
      by_loop (inr other) (inr none) = inr (λ closes. by_case closes)
        where
          by_case : ClosesCycle shape choices s t side → ⊥
          by_case (inl same) = other same
          by_case (inr path) = none path

  some_flag : (side : ℕ) → (flag : Bool) × ((flag ≡ true) ↔ IsSideOpen shape choices s t side)
  some_flag side = by_case (cycle_decided side)
    where
      by_case : ClosesCycle shape choices s t side ⊎ IsSideOpen shape choices s t side → (flag : Bool) × ((flag ≡ true) ↔ IsSideOpen shape choices s t side)
      by_case (inl closes) = (false, (λ is. absurd (true≢false (sym is)), λ is_open. absurd (is_open closes)))
      by_case (inr is_open) = (true, (λ is. is_open, λ is. refl))

  -- so each pair has a number of open sides
  pub some_count : (n : ℕ) × HasOpenSides shape choices s t n
  some_count = (count_by (λ (flag : Bool). flag) flags, (flags, record { four = refl; each = each }, refl))
    where
      flags : List Bool
      flags = (some_flag 0).0 ∷ (some_flag 1).0 ∷ (some_flag 2).0 ∷ (some_flag 3).0 ∷ []

      each : (side : ℕ) → side < 4 → (slice_index_or flags side false ≡ true) ↔ IsSideOpen shape choices s t side
      each zero below = (some_flag 0).1
      each (suc zero) below = (some_flag 1).1
      each (suc (suc zero)) below = (some_flag 2).1
      each (suc (suc (suc zero))) below = (some_flag 3).1
      each (suc (suc (suc (suc side)))) below = absurd (omega (arith, below))

-- two pairs of which neither comes after the other are one
one_of_two : (m s t n u v : ℕ) → IsNotAfter m s t n u v → IsNotAfter n u v m s t → (s ≡ u) × (t ≡ v)
one_of_two m s t n u v (inl a) (inl b) = absurd (omega (arith, a, b))
one_of_two m s t n u v (inl a) (inr b) = absurd (let e = b.0 in omega (arith, a, e))
one_of_two m s t n u v (inr a) (inl b) = absurd (let e = a.0 in omega (arith, b, e))
one_of_two m s t n u v (inr a) (inr b) = by_first a.1 b.1
  where
    by_first : (s < u) ⊎ ((s ≡ u) × (t ≤ v)) → (u < s) ⊎ ((u ≡ s) × (v ≤ t)) → (s ≡ u) × (t ≡ v)
    by_first (inl p) (inl q) = absurd (omega (arith, p, q))
    by_first (inl p) (inr q) = absurd (let e = q.0 in omega (arith, p, e))
    by_first (inr p) (inl q) = absurd (let e = p.0 in omega (arith, q, e))
    by_first (inr p) (inr q) = (p.0, let e = p.1 in let f = q.1 in omega (arith, e, f))

-- at most one pair is the branch pair
pub branch_pairs_are_one : (shape : Shape) (choices : List Choice) (places : Places) (s t u v : ℕ) → IsBranchPair shape choices places s t →
    IsBranchPair shape choices places u v → (s ≡ u) × (t ≡ v)
branch_pairs_are_one shape choices places s t u v first second =
    let m = some_count shape choices s t in
    let n = some_count shape choices u v in
    one_of_two m.0 s t n.0 u v (first.fewest u v m.0 n.0 second.pair second.share m.1 n.1) (second.fewest s t n.0 m.0 first.pair first.share n.1 m.1)

-- and so is that at the least key
pub branch_pairs_of_choices : (objective : Objective) (shape : Shape) (choices : List Choice) (k l : Key) (s t u v : ℕ) →
    IsLeastKey objective shape choices k → IsLeastKey objective shape choices l → IsBranchPair shape choices k.places s t →
    IsBranchPair shape choices l.places u v → (s ≡ u) × (t ≡ v)
branch_pairs_of_choices objective shape choices k l s t u v least other first second =
    branch_pairs_are_one shape choices l.places s t u v
    (subst (λ (key : Key). IsBranchPair shape choices key.places s t) (one_least objective shape choices k l least other) first) second
