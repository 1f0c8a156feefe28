-- A list of arcs is a cycle where it is broken nowhere.
use Rattle.std.proofs.Common.{◌≡◌, ◌==◌, Bool, true, false, eq-eqb, ap, ℕ, suc, ◌<◌, ◌≤◌, List, [], ◌∷◌, length, ◌⊎◌, inl, inr, refl, arith, slice_index}
use Rattle.std.proofs.lemmas.Bool.{cases_eq, cases_lt}
use Rattle.shape_graphs.specs.declared.graph.Arc.{Arc}
use Rattle.shape_graphs.specs.Paths.{IsCycle, step_arc}
use Rattle.cert_check.specs.Faults.{IsBrokenAt, IsFirstBreak, place_before}

-- a walk that is not empty
pub some_walk : (walk : List ℕ) (b : Bool) → b ≡ (length walk == 0) → b ≡ false → walk ≡ [] → ⊥
some_walk walk b is not none =
    let zero : length walk ≡ 0 = ap length none in
    let yes : (length walk == 0) ≡ true = eq-eqb (length walk) 0 zero in
    cc

module _ (arcs : List Arc) (walk : List ℕ) (some : walk ≡ [] → ⊥) where
  count : (l : List ℕ) → (l ≡ [] → ⊥) → 0 < length l
  count [] none = absurd (none refl)
  count (x ∷ l) none = omega arith

  module _ (whole : (place : ℕ) → place < length walk → IsBrokenAt arcs walk place → ⊥) where
    there : (k : ℕ) → k < length walk → slice_index walk k < length arcs
    there k inside = by_order (cases_lt (slice_index walk k) (length arcs))
      where
        by_order : (slice_index walk k < length arcs) ⊎ (length arcs ≤ slice_index walk k) → slice_index walk k < length arcs
        by_order (inl less) = less
        by_order (inr most) = absurd (whole k inside (record { inside = inside; broken = inl (λ less. omega (arith, less, most)) }))

    meets : (place : ℕ) → place < length walk → place_before (length walk) place < length walk →
        (step_arc arcs walk (place_before (length walk) place)).to ≡ (step_arc arcs walk place).from
    meets place inside before_inside =
        by_end (cases_eq (step_arc arcs walk (place_before (length walk) place)).to (step_arc arcs walk place).from)
      where
        by_end : ((step_arc arcs walk (place_before (length walk) place)).to ≡ (step_arc arcs walk place).from)
            ⊎ ((step_arc arcs walk (place_before (length walk) place)).to ≡ (step_arc arcs walk place).from → ⊥) →
            (step_arc arcs walk (place_before (length walk) place)).to ≡ (step_arc arcs walk place).from
        by_end (inl same) = same
        by_end (inr apart) = absurd (whole place inside (record { inside = inside; broken = inr (there (place_before (length walk) place) before_inside, apart) }))

    pub cycle_from : IsCycle arcs walk
    cycle_from =
        let positive = count walk some in
        record {
          some = positive;
          in_graph = there;
          joined = λ k inside. meets (suc k) inside (omega (arith, inside));
          closed = meets 0 positive (omega (arith, positive));
        }

  pub first_break_at : (place : ℕ) → IsBrokenAt arcs walk place → ((before : ℕ) → before < place → IsBrokenAt arcs walk before → ⊥) →
      IsFirstBreak arcs walk place
  first_break_at place broken first = by_walk walk some broken first
    where
      by_walk : (l : List ℕ) → (l ≡ [] → ⊥) → IsBrokenAt arcs l place → ((before : ℕ) → before < place → IsBrokenAt arcs l before → ⊥) → IsFirstBreak arcs l place
      by_walk [] none broken first = absurd (none refl)
      by_walk (x ∷ l) none broken first = (broken, first)
