-- Steps and rows with the two steps of one arc more, and without those of the last.
use Rattle.std.proofs.Common.{◌≡◌, ℕ, ◌+◌, ◌-◌, ◌*◌, ◌^◌, ◌<◌, ◌≤◌, inl, inr, List, [], ◌∷◌, ◌++◌, length, get_or, set, sym, ap, subst, ◌∙◌, arith, pos, take}
use Rattle.std.specs.Prelude.{◌≤ℤ◌}
use Rattle.std.proofs.lemmas.Int.{ints}
use Rattle.std.proofs.lemmas.Bool.{cases_lt}
use Rattle.std.proofs.lemmas.List.{append_assoc, get_or-take, length-take-le, take-take, length-set, length-append}
use Rattle.std.proofs.Math.Nat.{mul-le-mul_left}
use Rattle.shape_graphs.specs.declared.graph.Arc.{Arc}
use Rattle.shape_graphs.specs.Arcs.{FitsGraph, IsArcWithin}
use Rattle.diff_flow.specs.declared.steps.ResidualArc.{ResidualArc}
use Rattle.diff_flow.specs.inner.Steps.{step_at, no_step, along_at, against_at, AreOneMore, IsStepWithin, AreStepsWithin, AreRows, ArePaired, IsBack}
use Rattle.diff_flow.specs.inner.Growing.{AreRowsMore}
use Rattle.diff_flow.proofs.SetLemmas.{by_write}
use Rattle.diff_flow.proofs.StepLemmas.{along_within, against_within, by_direction, before_two, first_of_two, second_of_two, rows_more}

-- the rows of a longer list
pub rows_longer : (nodes count : ℕ) (steps steps' : List ResidualArc) (last before : List ℕ) →
    ((k : ℕ) → k < count → step_at steps' k ≡ step_at steps k) → AreRows nodes count steps last before → AreRows nodes count steps' last before
rows_longer nodes count steps steps' last before same rows = record {
  last_for_each = rows.last_for_each;
  before_for_each = rows.before_for_each;
  last_most = rows.last_most;
  last_from = λ v inside some.
      let most = rows.last_most v inside in
      begins (get_or last v 0 - 1) (omega (arith, most, some)) ∙ rows.last_from v inside some;
  last_all = λ k inside. subst (λ v. k < get_or last v 0) (sym (begins k inside)) (rows.last_all k inside);
  before_most = rows.before_most;
  before_from = λ k inside some.
      let most = rows.before_most k inside in
      begins (get_or before k 0 - 1) (omega (arith, most, some, inside)) ∙ rows.before_from k inside some ∙ sym (begins k inside);
  before_all = λ j k less inside is. rows.before_all j k less inside
      (sym (begins j (omega (arith, less, inside))) ∙ is ∙ begins k inside);
}
  where
    begins : (k : ℕ) → k < count → (step_at steps' k).from ≡ (step_at steps k).from
    begins k inside = ap (λ (s : ResidualArc). s.from) (same k inside)

-- one step less in its row
pub rows_less : (nodes k : ℕ) (steps : List ResidualArc) (last before : List ℕ) → AreRows nodes (k + 1) steps last before → (step_at steps k).from < nodes →
    AreRows nodes k steps (set last (step_at steps k).from (get_or before k 0)) (take k before)
rows_less nodes k steps last before rows from_in = record {
  last_for_each = length-set last (step_at steps k).from (get_or before k 0) ∙ rows.last_for_each;
  before_for_each = length-take-le k before (omega (arith, rows.before_for_each));
  last_most = λ v inside. by_write (λ x. x ≤ k) last (step_at steps k).from v (get_or before k 0) f_in
      (λ here. rows.before_most k (omega arith))
      (λ apart. elim (cases_lt k (get_or last v 0)) [
        | inl high ↦
            let most = rows.last_most v inside in
            let place : get_or last v 0 - 1 ≡ k = omega (arith, most, high) in
            absurd (apart (sym (rows.last_from v inside (omega (arith, high))) ∙ ap (λ j. (step_at steps j).from) place))
        | inr low ↦ low
      ]);
  last_from = λ v inside. by_write (λ x. 0 < x → (step_at steps (x - 1)).from ≡ v) last (step_at steps k).from v (get_or before k 0) f_in
      (λ here some. rows.before_from k (omega arith) some ∙ sym here)
      (λ apart. rows.last_from v inside);
  last_all = λ j inside. by_write (λ x. j < x) last (step_at steps k).from (step_at steps j).from (get_or before k 0) f_in
      (λ here. rows.before_all j k inside (omega arith) here)
      (λ apart. rows.last_all j (omega (arith, inside)));
  before_most = λ j inside. subst (λ x. x ≤ j) (sym (get_or-take k before j 0 inside)) (rows.before_most j (omega (arith, inside)));
  before_from = λ j inside. subst (λ x. 0 < x → (step_at steps (x - 1)).from ≡ (step_at steps j).from) (sym (get_or-take k before j 0 inside))
      (rows.before_from j (omega (arith, inside)));
  before_all = λ i j less inside is. subst (λ x. i < x) (sym (get_or-take k before j 0 inside)) (rows.before_all i j less (omega (arith, inside)) is);
}
  where
    f_in : (step_at steps k).from < length last
    f_in = omega (arith, from_in, rows.last_for_each)

-- the rows with the two steps of one arc more
pub rows_grown : (nodes count from to : ℕ) (steps steps' : List ResidualArc) (last before last' before' : List ℕ) (a b : ResidualArc) →
    count ≡ length steps → steps' ≡ steps ++ a ∷ b ∷ [] → a.from ≡ from → b.from ≡ to → from < nodes → to < nodes →
    AreRows nodes count steps last before → AreRowsMore from to last before last' before' → AreRows nodes (length steps') steps' last' before'
rows_grown nodes count from to steps steps' last before last' before' a b all grown is_from is_to from_in to_in rows more =
    let whole : length steps' ≡ count + 1 + 1 = omega (arith, ap length grown, length-append steps (a ∷ b ∷ []), all) in
    let longer = rows_longer nodes count steps steps' last before
    (λ k inside. ap (λ ss. step_at ss k) grown ∙ before_two steps a b k (omega (arith, inside, all))) rows in
    let at_first : (step_at steps' count).from ≡ from = ap (λ ss. (step_at ss count).from) grown ∙ ap (λ (s : ResidualArc). s.from) (first_of_two steps a b count all) ∙ is_from in
    let at_second : (step_at steps' (count + 1)).from ≡ to = ap (λ ss. (step_at ss (count + 1)).from) grown
    ∙ ap (λ (s : ResidualArc). s.from) (second_of_two steps a b (count + 1) (omega (arith, all))) ∙ is_to in
    let one = rw at_first at (rows_more nodes count steps' last before longer (subst (λ v. v < nodes) (sym at_first) from_in)) in
    let two = rw at_second at (rows_more nodes (count + 1) steps' (set last from (count + 1)) (before ++ get_or last from 0 ∷ []) one
    (subst (λ v. v < nodes) (sym at_second) to_in)) in
    let len : length before ≡ count = rows.before_for_each in
    let next : length before + 2 ≡ count + 1 + 1 = omega (arith, len) in
    let second : more.second ≡ get_or (set last from (count + 1)) to 0 = more.is_second ∙ ap (λ n. get_or (set last from (n + 1)) to 0) len in
    let last_is : last' ≡ set (set last from (count + 1)) to (count + 1 + 1) =
    more.last_set ∙ ap (λ n. set (set last from (n + 1)) to (length before + 2)) len ∙ ap (set (set last from (count + 1)) to) next in
    let before_is : before' ≡ (before ++ get_or last from 0 ∷ []) ++ get_or (set last from (count + 1)) to 0 ∷ [] =
    more.grown ∙ ap (λ x. before ++ get_or last from 0 ∷ x ∷ []) second ∙ sym (append_assoc before (get_or last from 0 ∷ []) (get_or (set last from (count + 1)) to 0 ∷ [])) in
    subst (λ n. AreRows nodes n steps' last' before') (sym whole)
    (subst (λ xs. AreRows nodes (count + 1 + 1) steps' xs before') (sym last_is)
    (subst (AreRows nodes (count + 1 + 1) steps' (set (set last from (count + 1)) to (count + 1 + 1))) (sym before_is) two))

-- the rows without the two steps of the last arc
pub rows_shrunk : (nodes at from to : ℕ) (steps : List ResidualArc) (last before : List ℕ) → length steps ≡ at + 2 →
    (step_at steps at).from ≡ from → (step_at steps (at + 1)).from ≡ to → from < nodes → to < nodes → AreRows nodes (length steps) steps last before →
    AreRows nodes at (take at steps) (set (set last to (get_or before (at + 1) 0)) from (get_or before at 0)) (take at before)
rows_shrunk nodes at from to steps last before all is_from is_to from_in to_in rows =
    let whole : length steps ≡ at + 1 + 1 = omega (arith, all) in
    let here = subst (λ n. AreRows nodes n steps last before) whole rows in
    let one = rw is_to at (rows_less nodes (at + 1) steps last before here (subst (λ v. v < nodes) (sym is_to) to_in)) in
    let two = rw is_from at (rows_less nodes at steps (set last to (get_or before (at + 1) 0)) (take (at + 1) before) one
    (subst (λ v. v < nodes) (sym is_from) from_in)) in
    let kept : get_or (take (at + 1) before) at 0 ≡ get_or before at 0 = get_or-take (at + 1) before at 0 (omega arith) in
    let front : take at (take (at + 1) before) ≡ take at before = take-take at (at + 1) before (omega arith) in
    rows_longer nodes at steps (take at steps) (set (set last to (get_or before (at + 1) 0)) from (get_or before at 0)) (take at before)
    (λ k inside. get_or-take at steps k no_step inside)
    (subst (λ x. AreRows nodes at steps (set (set last to (get_or before (at + 1) 0)) from x) (take at before)) kept
    (subst (AreRows nodes at steps (set (set last to (get_or before (at + 1) 0)) from (get_or (take (at + 1) before) at 0))) front two))

-- a step within less is within more
pub within_more : (nodes arcs arcs' reach reach' : ℕ) (step : ResidualArc) → arcs ≤ arcs' → reach ≤ reach' → IsStepWithin nodes arcs reach step →
    IsStepWithin nodes arcs' reach' step
within_more nodes arcs arcs' reach reach' step more higher is = record {
  from = is.from;
  to = is.to;
  arc = omega (arith, is.arc, more);
  up = omega (arith, is.up, higher);
  down = omega (arith, is.down, higher);
}

module _ (nodes arcs reach reach' : ℕ) (arc : Arc) (steps steps' : List ResidualArc) (all : length steps ≡ 2 * arcs) (more : AreOneMore arc arcs steps steps') where
  at_before : (k : ℕ) → k < length steps → step_at steps' k ≡ step_at steps k
  at_before k inside = ap (λ ss. step_at ss k) more.grown ∙ before_two steps more.there more.back k inside

  at_there : along_at steps' arcs ≡ more.there
  at_there = ap (λ ss. along_at ss arcs) more.grown ∙ first_of_two steps more.there more.back (2 * arcs) (sym all)

  at_back : against_at steps' arcs ≡ more.back
  at_back = ap (λ ss. against_at ss arcs) more.grown ∙ second_of_two steps more.there more.back (2 * arcs + 1) (omega (arith, all))

  pub two_more : length steps' ≡ 2 * (arcs + 1)
  two_more = omega (arith, ap length more.grown, length-append steps (more.there ∷ more.back ∷ []), all)

  pub within_grown : reach ≤ reach' → arc.least ≤ℤ pos reach' → FitsGraph nodes arc → AreStepsWithin nodes arcs reach steps →
      AreStepsWithin nodes (arcs + 1) reach' steps'
  within_grown higher low fits within k inside =
      by_direction (λ j. IsStepWithin nodes (arcs + 1) reach' (step_at steps' j)) (arcs + 1) k (omega (arith, inside, two_more))
      (λ i i_in. elim (cases_lt i arcs) [
        | inl front ↦ old (2 * i) (omega (arith, front, all))
        | inr last ↦
            let here : arcs ≡ i = omega (arith, i_in, last) in
            subst (λ j. IsStepWithin nodes (arcs + 1) reach' (along_at steps' j)) here
            (subst (IsStepWithin nodes (arcs + 1) reach') (sym at_there)
            (along_within arc nodes (arcs + 1) reach' arcs more.there more.along fits.begins fits.ends (omega arith) low))
      ])
      (λ i i_in. elim (cases_lt i arcs) [
        | inl front ↦ old (2 * i + 1) (omega (arith, front, all))
        | inr last ↦
            let here : arcs ≡ i = omega (arith, i_in, last) in
            subst (λ j. IsStepWithin nodes (arcs + 1) reach' (against_at steps' j)) here
            (subst (IsStepWithin nodes (arcs + 1) reach') (sym at_back)
            (against_within arc nodes (arcs + 1) reach' arcs more.back more.against fits.begins fits.ends (omega arith) low))
      ])
    where
      old : (k : ℕ) → k < length steps → IsStepWithin nodes (arcs + 1) reach' (step_at steps' k)
      old k k_in = subst (IsStepWithin nodes (arcs + 1) reach') (sym (at_before k k_in))
          (within_more nodes arcs (arcs + 1) reach reach' (step_at steps k) (omega arith) higher (within k k_in))

  pub paired_grown : IsArcWithin arc → ArePaired arcs steps → ArePaired (arcs + 1) steps'
  paired_grown fits paired = record {
    two_for_each = two_more;
    number = λ i i_in. by_last i i_in (λ (s t : ResidualArc). s.arc ≡ i) (paired.number i) (λ here. more.along.number ∙ here);
    up = λ i i_in. by_last i i_in (λ (s t : ResidualArc). 0 < s.up) (paired.up i) (λ here. omega (arith, ints, more.along.up, fits.some_least));
    level = λ i i_in. by_last i i_in (λ (s t : ResidualArc). s.down ≡ 0) (paired.level i) (λ here. more.along.down);
    back = λ i i_in. by_last i i_in IsBack (paired.back i) (λ here. record {
      from = more.against.from ∙ sym more.along.to;
      to = more.against.to ∙ sym more.along.from;
      arc = more.against.number ∙ sym more.along.number;
      up = more.against.up;
      down = omega (arith, ints, more.against.down, more.along.up);
    });
  }
    where
      by_last : (i : ℕ) → i < arcs + 1 → (P : ResidualArc → ResidualArc → Type 0) → (i < arcs → P (along_at steps i) (against_at steps i)) →
          (arcs ≡ i → P more.there more.back) → P (along_at steps' i) (against_at steps' i)
      by_last i i_in P front last = elim (cases_lt i arcs) [
        | inl before ↦ subst (λ s. P s (against_at steps' i)) (sym (at_before (2 * i) (omega (arith, before, all))))
            (subst (P (along_at steps i)) (sym (at_before (2 * i + 1) (omega (arith, before, all)))) (front before))
        | inr behind ↦
            let here : arcs ≡ i = omega (arith, i_in, behind) in
            subst (λ j. P (along_at steps' j) (against_at steps' j)) here
            (subst (λ s. P s (against_at steps' arcs)) (sym at_there) (subst (P more.there) (sym at_back) (last here)))
      ]

-- the steps without those of the last arc
module _ (nodes arcs reach : ℕ) (steps : List ResidualArc) (paired : ArePaired (arcs + 1) steps) where
  at_front : (k : ℕ) → k < 2 * arcs → step_at (take (2 * arcs) steps) k ≡ step_at steps k
  at_front k inside = get_or-take (2 * arcs) steps k no_step inside

  pub two_less : length (take (2 * arcs) steps) ≡ 2 * arcs
  two_less = length-take-le (2 * arcs) steps (omega (arith, paired.two_for_each))

  pub paired_shrunk : ArePaired arcs (take (2 * arcs) steps)
  paired_shrunk = record {
    two_for_each = two_less;
    number = λ i i_in. by_front i i_in (λ (s t : ResidualArc). s.arc ≡ i) (paired.number i (omega (arith, i_in)));
    up = λ i i_in. by_front i i_in (λ (s t : ResidualArc). 0 < s.up) (paired.up i (omega (arith, i_in)));
    level = λ i i_in. by_front i i_in (λ (s t : ResidualArc). s.down ≡ 0) (paired.level i (omega (arith, i_in)));
    back = λ i i_in. by_front i i_in IsBack (paired.back i (omega (arith, i_in)));
  }
    where
      by_front : (i : ℕ) → i < arcs → (P : ResidualArc → ResidualArc → Type 0) → P (along_at steps i) (against_at steps i) →
          P (along_at (take (2 * arcs) steps) i) (against_at (take (2 * arcs) steps) i)
      by_front i i_in P is =
          subst (λ s. P s (against_at (take (2 * arcs) steps) i)) (sym (at_front (2 * i) (omega (arith, i_in))))
          (subst (P (along_at steps i)) (sym (at_front (2 * i + 1) (omega (arith, i_in)))) is)

  pub within_shrunk : AreStepsWithin nodes (arcs + 1) reach steps → AreStepsWithin nodes arcs reach (take (2 * arcs) steps)
  within_shrunk within k inside =
      by_direction (λ j. IsStepWithin nodes arcs reach (step_at (take (2 * arcs) steps) j)) arcs k (omega (arith, inside, two_less))
      (λ i i_in. at (2 * i) i (omega (arith, i_in)) i_in (paired.number i (omega (arith, i_in))))
      (λ i i_in. at (2 * i + 1) i (omega (arith, i_in)) i_in ((paired.back i (omega (arith, i_in))).arc ∙ paired.number i (omega (arith, i_in))))
    where
      at : (k i : ℕ) → k < 2 * arcs → i < arcs → (step_at steps k).arc ≡ i → IsStepWithin nodes arcs reach (step_at (take (2 * arcs) steps) k)
      at k i k_in i_in number =
          let is = within k (omega (arith, k_in, paired.two_for_each)) in
          subst (IsStepWithin nodes arcs reach) (sym (at_front k k_in))
          (record { from = is.from; to = is.to; arc = omega (arith, number, i_in); up = is.up; down = is.down })

-- the greatest number that least numbers can have is low
pub short_most : (nodes reach : ℕ) → nodes ≤ 2 ^ 32 → reach ≤ 1000 → (nodes - 1) * reach ≤ 2 ^ 42
short_most nodes reach few low =
    let most = mul-le-mul_left (nodes - 1) low in
    omega (arith, most, few)
