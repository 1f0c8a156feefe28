-- Ways, lengths and slants of pieces.
use Rattle.std.proofs.Common.{◌≡◌, ℕ, ◌+◌, ◌<◌, ◌≤◌, List, [], ◌∷◌, ◌++◌, length, ◌⊎◌, inl, inr, subst, sym, ap, ◌∙◌, arith}
use Rattle.std.proofs.lemmas.Int.{ints, by_lt_z}
use Rattle.std.proofs.lemmas.Bool.{cases_lt}
use Rattle.std.proofs.lemmas.List.{length_push, get_or_push, get_or_append_left}
use Rattle.compact_types.specs.declared.places.Point.{Point}
use Rattle.compact_types.specs.declared.places.Places.{Places}
use Rattle.compact_types.specs.declared.plan.Plan.{Plan}
use Rattle.compact_types.specs.declared.plan.Way.{Way}
use Rattle.compact_types.specs.declared.plan.Way.TheVariants.{East, West, High, Low}
use Rattle.compact_types.specs.Lookups.{way_at}
use Rattle.compact_types.specs.Ways.{HasWay}
use Rattle.compact_types.specs.Drawings.{begin_of, end_of}
use Rattle.compact_types.proofs.Laws.{same_point}

-- both coordinates of two points differ
abbrev pub AreSlanted : Point → Point → Type 0
AreSlanted a b = (a.x ≡ b.x → ⊥) × (a.y ≡ b.y → ⊥)

-- two different points with no way are slanted
pub slanted_without_way : (a b : Point) → (a ≡ b → ⊥) → ((way : Way) → HasWay way a b → ⊥) → AreSlanted a b
slanted_without_way a b apart none = (
  λ same. by_lt_z a.y b.y (λ less. none High (less, sym same))
      (λ le. by_lt_z b.y a.y (λ less. none Low (less, sym same)) (λ ge. apart (same_point a b same (omega (arith, ints))))),
  λ same. by_lt_z a.x b.x (λ less. none East (less, sym same))
      (λ le. by_lt_z b.x a.x (λ less. none West (less, sym same)) (λ ge. apart (same_point a b (omega (arith, ints)) same))),
)

-- two points with a way are not slanted
pub way_not_slanted : (a b : Point) (way : Way) → HasWay way a b → AreSlanted a b → ⊥
way_not_slanted a b East goes slanted = slanted.1 (sym goes.1)
way_not_slanted a b West goes slanted = slanted.1 (sym goes.1)
way_not_slanted a b High goes slanted = slanted.0 (sym goes.1)
way_not_slanted a b Low goes slanted = slanted.0 (sym goes.1)

-- two points with a way are not the same
pub way_apart : (a b : Point) (way : Way) → HasWay way a b → a ≡ b → ⊥
way_apart a b East goes same = let x : a.x ≡ b.x = ap (λ (p : Point). p.x) same in omega (arith, ints)
way_apart a b West goes same = let x : a.x ≡ b.x = ap (λ (p : Point). p.x) same in omega (arith, ints)
way_apart a b High goes same = let y : a.y ≡ b.y = ap (λ (p : Point). p.y) same in omega (arith, ints)
way_apart a b Low goes same = let y : a.y ≡ b.y = ap (λ (p : Point). p.y) same in omega (arith, ints)

-- the pieces below n have these ways
abbrev pub HaveWaysBelow : Plan → Places → List Way → ℕ → Type 0
HaveWaysBelow plan places ways n = (k : ℕ) → k < n → HasWay (way_at ways k) (begin_of plan places k) (end_of plan places k)

-- one more way at the end
pub ways_one_more : (plan : Plan) (places : Places) (ways more : List Way) (n : ℕ) (way : Way) → more ≡ ways ++ way ∷ [] → length ways ≡ n →
    HaveWaysBelow plan places ways n → HasWay way (begin_of plan places n) (end_of plan places n) →
    (length more ≡ n + 1) × HaveWaysBelow plan places more (n + 1)
ways_one_more plan places ways more n way is fits below here =
    (ap length is ∙ length_push ways way ∙ ap (λ (m : ℕ). m + 1) fits, λ k inside. by_order k (cases_lt k n) inside)
  where
    at : (k : ℕ) (w : Way) → way_at (ways ++ way ∷ []) k ≡ w → HasWay w (begin_of plan places k) (end_of plan places k) → HasWay (way_at more k) (begin_of plan places k) (end_of plan places k)
    at k w e goes = subst (λ (v : Way). HasWay v (begin_of plan places k) (end_of plan places k)) (sym (ap (λ (l : List Way). way_at l k) is ∙ e)) goes

    by_order : (k : ℕ) → (k < n) ⊎ (n ≤ k) → k < n + 1 → HasWay (way_at more k) (begin_of plan places k) (end_of plan places k)
    by_order k (inl less) inside = at k (way_at ways k) (get_or_append_left ways (way ∷ []) East k (omega (arith, fits))) (below k less)
    by_order k (inr more') inside =
        let same : n ≡ k = omega arith in
        at k way (get_or_push ways way East k (fits ∙ same)) (subst (λ (m : ℕ). HasWay way (begin_of plan places m) (end_of plan places m)) same here)
