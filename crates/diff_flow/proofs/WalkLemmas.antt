-- The longest walks: the steps in topological order, each met once and for all.
use Rattle.std.proofs.Common.{◌≡◌, ℕ, ◌+◌, ◌*◌, ◌<◌, ◌≤◌, inl, inr, List, [], length, replicate, refl, sym, ap, subst, ◌∙◌, arith}
use Rattle.std.specs.Prelude.{pos, ℤ, ◌≤ℤ◌, slice_index}
use Rattle.std.proofs.lemmas.Bool.{cases_lt}
use Rattle.shape_graphs.specs.declared.graph.Arc.{Arc}
use Rattle.shape_graphs.specs.Arcs.{EndsAreNodes}
use Rattle.shape_graphs.specs.Flows.{amount_at, IsSolution}
use Rattle.shape_graphs.specs.Orders.{IsArcOrder}
use Rattle.diff_flow.specs.declared.steps.ResidualArc.{ResidualArc}
use Rattle.diff_flow.specs.Tight.{AreLeastTight}
use Rattle.diff_flow.specs.Walks.{AreLongestWalkLengths}
use Rattle.diff_flow.specs.inner.Steps.{step_at, along_at, AreStepsWithin, ArePaired, AreStepsOf, AreInOrder, IsResidual, MeetsStep}
use Rattle.diff_flow.specs.inner.Numbers.{height, NoneMeet, IsLift, AreLeastMet, AreWalked}
use Rattle.diff_flow.proofs.SetLemmas.{by_write}
use Rattle.diff_flow.proofs.LabelLemmas.{zeros_low, raised_low_at}
use Rattle.diff_flow.proofs.RouteLemmas.{along_number}
use Rattle.diff_flow.proofs.TightLemmas.{none_tight}

-- arcs in order are steps in order
pub in_order : (arcs : List Arc) (steps : List ResidualArc) (order : List ℕ) (m : ℕ) → AreStepsOf arcs steps → m ≡ length arcs →
    IsArcOrder arcs order → AreInOrder m steps order
in_order arcs steps order m are all is = record {
  inside = λ j j_in. omega (arith, is.in_graph j j_in, all);
  has_each = λ k k_in. is.has_each k (omega (arith, k_in, all));
  ends_before = λ i j i_in j_in same.
      is.ends_before i j i_in j_in
      (sym (are.along (slice_index order j) (is.in_graph j j_in)).to ∙ same ∙ (are.along (slice_index order i) (is.in_graph i i_in)).from);
}

-- nothing is walked yet
pub walked_first : (nodes limit : ℕ) (steps : List ResidualArc) (order : List ℕ) → AreWalked nodes steps limit order 0 (replicate {A = ℕ} nodes 0)
walked_first nodes limit steps order = record {
  low = zeros_low nodes limit steps [];
  met = λ j before. absurd (omega arith);
}

module _ (nodes arcs reach limit : ℕ) (steps : List ResidualArc) (order : List ℕ) (at : ℕ) (old : List ℕ) (all : AreStepsWithin nodes arcs reach steps)
    (paired : ArePaired arcs steps) (ordered : AreInOrder arcs steps order) (inside : at < length order)
    (walked : AreWalked nodes steps limit order at old) where
  number_in : 2 * slice_index order at < length steps
  number_in = omega (arith, ordered.inside at inside, paired.two_for_each)

  pub walk_open : IsResidual [] (along_at steps (slice_index order at))
  walk_open = omega (arith, paired.up (slice_index order at) (ordered.inside at inside))

  -- the step is met already
  pub walked_kept : (new : List ℕ) → new ≡ old → MeetsStep (height old) (along_at steps (slice_index order at)) →
      AreWalked nodes steps limit order (at + 1) new
  walked_kept new same meets =
      subst (AreWalked nodes steps limit order (at + 1)) (sym same)
      (record {
        low = walked.low;
        met = λ j before. elim (cases_lt j at) [
          | inl front ↦ walked.met j front
          | inr back ↦
              let here : at ≡ j = omega arith in
              subst (λ i. MeetsStep (height old) (along_at steps (slice_index order i))) here meets
        ];
      })

  -- the number at its end is raised: the steps that were met begin elsewhere
  pub walked_raised : (step : ResidualArc) (new : List ℕ) (up : ℕ) → step ≡ along_at steps (slice_index order at) → IsLift step old new up → up ≤ limit →
      AreWalked nodes steps limit order (at + 1) new
  walked_raised step new up is lifted within = record {
    low = raised_low_at nodes arcs reach steps [] limit old all walked.low (2 * slice_index order at) step number_in is
        (subst (IsResidual []) (sym is) walk_open) new up lifted within;
    met = λ j before. elim (cases_lt j at) [
      | inl front ↦
          let meets = walked.met j front in
          let from = kept (along_at steps (slice_index order j)).from
          (λ same. let less = ordered.ends_before j at (omega (arith, front, inside)) inside (sym (same ∙ ap (λ (s : ResidualArc). s.to) is)) in omega (arith, less, front)) in
          let to = risen (along_at steps (slice_index order j)).to in
          omega (arith, meets, from, to)
      | inr back ↦
          let here : at ≡ j = omega arith in
          subst (λ i. MeetsStep (height new) (along_at steps (slice_index order i))) here
          (subst (MeetsStep (height new)) is just)
    ];
  }
    where
      to_in : step.to < length old
      to_in = omega (arith, ap (λ (s : ResidualArc). s.to) is, (all (2 * slice_index order at) number_in).to, walked.low.one_for_each)

      kept : (v : ℕ) → (v ≡ step.to → ⊥) → height new v ≡ height old v
      kept v apart = rw lifted.written (by_write (λ x. x ≡ height old v) old step.to v up to_in (λ same. absurd (apart same)) (λ _. refl))

      risen : (v : ℕ) → height old v ≤ height new v
      risen v = rw lifted.written (by_write (λ x. height old v ≤ x) old step.to v up to_in
          (λ same. subst (λ w. height old w ≤ up) (sym same) (omega (arith, lifted.higher))) (λ _. omega arith))

      end_is : height new step.to ≡ up
      end_is = rw lifted.written (by_write (λ x. x ≡ up) old step.to step.to up to_in (λ _. refl) (λ apart. absurd (apart refl)))

      just : MeetsStep (height new) step
      just =
          let from = kept step.from
          (λ same. let less = ordered.ends_before at at inside inside
          (sym (ap (λ (s : ResidualArc). s.to) is) ∙ sym same ∙ ap (λ (s : ResidualArc). s.from) is) in omega (arith, less)) in
          omega (arith, from, end_is, lifted.just)

-- all steps along arcs are met
pub walked_all : (nodes arcs limit : ℕ) (steps : List ResidualArc) (order numbers : List ℕ) (count : ℕ) → ArePaired arcs steps → AreInOrder arcs steps order →
    count ≡ length order → AreWalked nodes steps limit order count numbers → AreLeastMet nodes steps [] limit numbers
walked_all nodes arcs limit steps order numbers count paired ordered all walked = record {
  low = walked.low;
  met = λ k inside opens.
      let none : amount_at [] (step_at steps k).arc ≡ 0 = refl in
      let number = along_number arcs steps paired k inside (omega (arith, opens, none)) in
      let found = ordered.has_each number.0 number.1 in
      subst (λ j. MeetsStep (height numbers) (step_at steps j)) (sym number.2)
      (subst (λ i. MeetsStep (height numbers) (along_at steps i)) found.2 (walked.met found.0 (omega (arith, all, found.1))));
}

-- where the graph has a solution, numbers meet the steps along its arcs
pub some_walks : (nodes : ℕ) (arcs : List Arc) (steps : List ResidualArc) (p : ℕ → ℤ) → EndsAreNodes nodes arcs → AreStepsOf arcs steps →
    IsSolution arcs p → ((v : ℕ) → pos 0 ≤ℤ p v) → NoneMeet steps [] → ⊥
some_walks nodes arcs steps p ends are solution from_zero none =
    none_tight nodes arcs steps [] ends are none p (record {
      from_zero = λ v inside. from_zero v;
      solution = solution;
      tight = λ i inside some. absurd (let zero_is : amount_at [] i ≡ 0 = refl in omega (arith, some, zero_is));
    })

-- the least numbers for the empty flow are the longest walks
pub are_longest : (nodes : ℕ) (arcs : List Arc) (p : ℕ → ℤ) → AreLeastTight nodes arcs [] p → AreLongestWalkLengths nodes arcs p
are_longest nodes arcs p least = record {
  from_zero = least.tight.from_zero;
  solution = least.tight.solution;
  least = λ others from_zero solution. least.least others (record {
    from_zero = from_zero;
    solution = solution;
    tight = λ i inside some. absurd (let zero_is : amount_at [] i ≡ 0 = refl in omega (arith, some, zero_is));
  });
}
