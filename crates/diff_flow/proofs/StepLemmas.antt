-- Steps of a graph, and rows of them.
use Rattle.std.proofs.Common.{◌≡◌, ℕ, zero, suc, ◌+◌, ◌-◌, ◌*◌, ◌<◌, ◌≤◌, ◌⊎◌, inl, inr, List, [], ◌∷◌, ◌++◌, length, get_or, set, refl, sym, ap, subst, ◌∙◌, arith, pos, replicate}
use Rattle.std.specs.Prelude.{◌≤ℤ◌}
use Rattle.std.proofs.lemmas.Int.{ints}
use Rattle.std.proofs.lemmas.Bool.{cases_lt}
use Rattle.std.proofs.lemmas.List.{length-set, length_push, length-append, get_or_append_left, get_or-append_right, get_or_push, get_or-replicate, length-replicate}
use Rattle.shape_graphs.specs.declared.graph.Arc.{Arc}
use Rattle.shape_graphs.specs.Arcs.{arc_at, no_arc, EndsAreNodes}
use Rattle.diff_flow.specs.declared.steps.ResidualArc.{ResidualArc}
use Rattle.diff_flow.specs.inner.Steps.{step_at, no_step, along_at, against_at, AreOneMore, IsStepWithin, AreStepsWithin, AreRows, IsAlongArc, IsAgainstArc, AreStepsOf}
use Rattle.diff_flow.proofs.SetLemmas.{by_write, by_push}

-- a number is twice another, or one more
pub halves : (k : ℕ) → (i : ℕ) × ((2 * i ≡ k) ⊎ (2 * i + 1 ≡ k))
halves zero = (0, inl refl)
halves (suc k) =
    let half = halves k in
    elim half.1 [
      | inl even ↦ (half.0, inr (omega (arith, even)))
      | inr odd ↦ (half.0 + 1, inl (omega (arith, odd)))
    ]

-- what holds of the steps along the arcs and of those against them holds of all steps
pub by_direction : (P : ℕ → Type 0) (m k : ℕ) → k < 2 * m → ((i : ℕ) → i < m → P (2 * i)) → ((i : ℕ) → i < m → P (2 * i + 1)) → P k
by_direction P m k inside front back =
    let half = halves k in
    elim half.1 [
      | inl even ↦ subst P even (front half.0 (omega (arith, even)))
      | inr odd ↦ subst P odd (back half.0 (omega (arith, odd)))
    ]

-- the list with two more at the end
pub before_two : (steps : List ResidualArc) (a b : ResidualArc) (k : ℕ) → k < length steps → step_at (steps ++ a ∷ b ∷ []) k ≡ step_at steps k
before_two steps a b k inside = get_or_append_left steps (a ∷ b ∷ []) no_step k inside

pub first_of_two : (steps : List ResidualArc) (a b : ResidualArc) (k : ℕ) → k ≡ length steps → step_at (steps ++ a ∷ b ∷ []) k ≡ a
first_of_two steps a b k here =
    let place : k - length steps ≡ 0 = omega (arith, here) in
    get_or-append_right steps (a ∷ b ∷ []) (length steps) k no_step refl (omega (arith, here)) ∙ ap (step_at (a ∷ b ∷ [])) place

pub second_of_two : (steps : List ResidualArc) (a b : ResidualArc) (k : ℕ) → k ≡ length steps + 1 → step_at (steps ++ a ∷ b ∷ []) k ≡ b
second_of_two steps a b k here =
    let place : k - length steps ≡ 1 = omega (arith, here) in
    get_or-append_right steps (a ∷ b ∷ []) (length steps) k no_step refl (omega (arith, here)) ∙ ap (step_at (a ∷ b ∷ [])) place

-- the steps of the arcs with one arc more
pub steps_more : (arcs : List Arc) (arc : Arc) (i : ℕ) (steps steps' : List ResidualArc) → i ≡ length arcs → AreStepsOf arcs steps →
    AreOneMore arc i steps steps' → AreStepsOf (arcs ++ arc ∷ []) steps'
steps_more arcs arc i steps steps' last are more = subst (AreStepsOf (arcs ++ arc ∷ [])) (sym more.grown) (record {
  two_for_each = omega (arith, are.two_for_each, length_push arcs arc, length-append steps (more.there ∷ more.back ∷ []));
  along = λ k inside. elim (cases_lt k (length arcs)) [
    | inl front ↦ subst (λ (a : Arc). IsAlongArc a k (along_at (steps ++ more.there ∷ more.back ∷ []) k)) (sym (get_or_append_left arcs (arc ∷ []) no_arc k front))
        (subst (IsAlongArc (arc_at arcs k) k) (sym (before_two steps more.there more.back (2 * k) (omega (arith, front, are.two_for_each)))) (are.along k front))
    | inr back ↦
        let here : k ≡ length arcs = omega (arith, back, inside, length_push arcs arc) in
        let is : i ≡ k = last ∙ sym here in
        subst (λ (a : Arc). IsAlongArc a k (along_at (steps ++ more.there ∷ more.back ∷ []) k)) (sym (get_or_push arcs arc no_arc k (sym here)))
        (subst (IsAlongArc arc k) (sym (first_of_two steps more.there more.back (2 * k) (omega (arith, here, are.two_for_each))))
        (subst (λ j. IsAlongArc arc j more.there) is more.along))
  ];
  against = λ k inside. elim (cases_lt k (length arcs)) [
    | inl front ↦ subst (λ (a : Arc). IsAgainstArc a k (against_at (steps ++ more.there ∷ more.back ∷ []) k)) (sym (get_or_append_left arcs (arc ∷ []) no_arc k front))
        (subst (IsAgainstArc (arc_at arcs k) k) (sym (before_two steps more.there more.back (2 * k + 1) (omega (arith, front, are.two_for_each)))) (are.against k front))
    | inr back ↦
        let here : k ≡ length arcs = omega (arith, back, inside, length_push arcs arc) in
        let is : i ≡ k = last ∙ sym here in
        subst (λ (a : Arc). IsAgainstArc a k (against_at (steps ++ more.there ∷ more.back ∷ []) k)) (sym (get_or_push arcs arc no_arc k (sym here)))
        (subst (IsAgainstArc arc k) (sym (second_of_two steps more.there more.back (2 * k + 1) (omega (arith, here, are.two_for_each))))
        (subst (λ j. IsAgainstArc arc j more.back) is more.against))
  ];
})

pub along_within : (arc : Arc) (nodes arcs reach i : ℕ) (step : ResidualArc) → IsAlongArc arc i step → arc.from < nodes → arc.to < nodes →
    i < arcs → arc.least ≤ℤ pos reach → IsStepWithin nodes arcs reach step
along_within arc nodes arcs reach i step is from to inside low = record {
  from = omega (arith, is.from);
  to = omega (arith, is.to);
  arc = omega (arith, is.number);
  up = omega (arith, ints, is.up);
  down = omega (arith, is.down);
}

pub against_within : (arc : Arc) (nodes arcs reach i : ℕ) (step : ResidualArc) → IsAgainstArc arc i step → arc.from < nodes → arc.to < nodes →
    i < arcs → arc.least ≤ℤ pos reach → IsStepWithin nodes arcs reach step
against_within arc nodes arcs reach i step is from to inside low = record {
  from = omega (arith, is.from);
  to = omega (arith, is.to);
  arc = omega (arith, is.number);
  up = omega (arith, is.up);
  down = omega (arith, ints, is.down);
}

pub steps_within : (nodes reach m : ℕ) (arcs : List Arc) (steps : List ResidualArc) → AreStepsOf arcs steps → EndsAreNodes nodes arcs →
    m ≡ length arcs → ((i : ℕ) → i < length arcs → (arc_at arcs i).least ≤ℤ pos reach) → AreStepsWithin nodes m reach steps
steps_within nodes reach m arcs steps are ends all low k inside =
    by_direction (λ j. IsStepWithin nodes m reach (step_at steps j)) (length arcs) k (omega (arith, are.two_for_each))
    (λ i front. along_within (arc_at arcs i) nodes m reach i _ (are.along i front) (ends i front).0 (ends i front).1 (omega arith) (low i front))
    (λ i back. against_within (arc_at arcs i) nodes m reach i _ (are.against i back) (ends i back).0 (ends i back).1 (omega arith) (low i back))

none : (nodes v : ℕ) → v < nodes → get_or (replicate {A = ℕ} nodes 0) v 0 ≡ 0
none nodes v inside = get_or-replicate {A = ℕ} nodes v 0 0 inside

pub no_rows : (nodes : ℕ) (steps : List ResidualArc) → AreRows nodes 0 steps (replicate {A = ℕ} nodes 0) []
no_rows nodes steps = record {
  last_for_each = length-replicate {A = ℕ} nodes 0;
  before_for_each = refl;
  last_most = λ v inside. omega (arith, none nodes v inside);
  last_from = λ v inside some. absurd (omega (arith, none nodes v inside));
  last_all = λ k inside. absurd (omega arith);
  before_most = λ k inside. absurd (omega arith);
  before_from = λ k inside some. absurd (omega arith);
  before_all = λ j k less inside same. absurd (omega arith);
}

-- one more step in its row
module _ (nodes k : ℕ) (steps : List ResidualArc) (last before : List ℕ) (rows : AreRows nodes k steps last before)
    (from_inside : (step_at steps k).from < nodes) where
  pub rows_more : AreRows nodes (k + 1) steps (set last (step_at steps k).from (k + 1)) (before ++ get_or last (step_at steps k).from 0 ∷ [])
  rows_more =
      let f_in : (step_at steps k).from < length last = omega (arith, rows.last_for_each) in
      let was_low = rows.last_most (step_at steps k).from from_inside in
      let place : length before ≡ k = rows.before_for_each in
      record {
        last_for_each = length-set last (step_at steps k).from (k + 1) ∙ rows.last_for_each;
        before_for_each = length_push before (get_or last (step_at steps k).from 0) ∙ ap (λ n. n + 1) place;
        last_most = λ v inside. by_write (λ x. x ≤ k + 1) last (step_at steps k).from v (k + 1) f_in (λ _. omega arith)
            (λ _. omega (arith, rows.last_most v inside));
        last_from = λ v inside. by_write (λ x. 0 < x → (step_at steps (x - 1)).from ≡ v) last (step_at steps k).from v (k + 1) f_in
            (λ here _. ap (λ j. (step_at steps j).from) back ∙ sym here)
            (λ _ some. rows.last_from v inside some);
        last_all = λ j inside. by_write (λ x. j < x) last (step_at steps k).from (step_at steps j).from (k + 1) f_in (λ _. omega arith)
            (λ other. elim (cases_lt j k) [
              | inl less ↦ rows.last_all j less
              | inr more ↦ let same : j ≡ k = omega arith in absurd (other (ap (λ i. (step_at steps i).from) same))
            ]);
        before_most = λ j inside. by_push (λ x. x ≤ j) before j (get_or last (step_at steps k).from 0) (omega arith)
            (λ here. omega (arith, was_low))
            (λ less. rows.before_most j (omega arith));
        before_from = λ j inside. by_push (λ x. 0 < x → (step_at steps (x - 1)).from ≡ (step_at steps j).from) before j
            (get_or last (step_at steps k).from 0) (omega arith)
            (λ here some. rows.last_from (step_at steps k).from from_inside some ∙ ap (λ i. (step_at steps i).from) (sym (here ∙ place)))
            (λ less some. rows.before_from j (omega arith) some);
        before_all = λ i j less inside same. by_push (λ x. i < x) before j (get_or last (step_at steps k).from 0) (omega arith)
            (λ here. let at : j ≡ k = here ∙ place in
            let all = rows.last_all i (omega arith) in
            subst (λ v. i < get_or last v 0) (same ∙ ap (λ i'. (step_at steps i').from) at) all)
            (λ front. rows.before_all i j less (omega arith) same);
      }
    where
      back : (k + 1) - 1 ≡ k
      back = omega arith
