-- Numbers that are raised step by step.
use Rattle.std.proofs.Common.{◌≡◌, ℕ, suc, ◌+◌, ◌-◌, ◌*◌, ◌<◌, ◌≤◌, ◌⊎◌, inl, inr, List, [], ◌∷◌, ◌++◌, length, get_or, set, drop, replicate, refl, sym, ap, subst, ◌∙◌, arith, sum}
use Rattle.std.proofs.lemmas.Bool.{cases_eq, cases_lt}
use Rattle.std.proofs.lemmas.List.{length-set, get_or-replicate, length-replicate, length_push}
use Rattle.std.proofs.lemmas.List.Sums.{sum_by-set}
use Rattle.diff_flow.specs.declared.steps.ResidualArc.{ResidualArc}
use Rattle.shape_graphs.specs.Flows.{amount_at}
use Rattle.diff_flow.specs.inner.Steps.{step_at, along_at, against_at, AreStepsWithin, AreRows, ArePaired, IsResidual, MeetsStep, AreMet}
use Rattle.diff_flow.specs.inner.Numbers.{height, IsInList, AreLow, NoneMeet, IsLift, AreListed, Waits, Rises, AreLate, NoneLate, IsAtLeast, AreLeastMet}
use Rattle.diff_flow.proofs.Gaps.{closed, closed_most, closed_keeps}
use Rattle.diff_flow.proofs.StepLemmas.{halves}
use Rattle.diff_flow.proofs.SetLemmas.{by_write, by_push, in_rest, in_last, in_pushed}

-- numbers that meet the steps, without gaps
pub without_gaps : (nodes arcs reach : ℕ) (steps : List ResidualArc) (amounts : List ℕ) (h : ℕ → ℕ) →
    AreStepsWithin nodes arcs reach steps → AreMet steps amounts h → AreMet steps amounts (λ v. closed reach h nodes (h v))
without_gaps nodes arcs reach steps amounts h all met k inside opens =
    let is = all k inside in
    closed_keeps reach h nodes (step_at steps k).from (step_at steps k).to (step_at steps k).up (step_at steps k).down
    is.from is.to is.up is.down (met k inside opens)

pub zeros_low : (nodes limit : ℕ) (steps : List ResidualArc) (amounts : List ℕ) → AreLow nodes steps amounts limit (replicate {A = ℕ} nodes 0)
zeros_low nodes limit steps amounts = record {
  one_for_each = length-replicate {A = ℕ} nodes 0;
  inside = λ v inside. omega (arith, zero_at v inside);
  below = λ others met v inside. omega (arith, zero_at v inside);
}
  where
    zero_at : (v : ℕ) → v < nodes → get_or (replicate {A = ℕ} nodes 0) v 0 ≡ 0
    zero_at v inside = get_or-replicate {A = ℕ} nodes v 0 0 inside

module _ (nodes arcs reach : ℕ) (steps : List ResidualArc) (amounts : List ℕ) (limit : ℕ) (old : List ℕ)
    (all : AreStepsWithin nodes arcs reach steps) (low : AreLow nodes steps amounts limit old) where
  -- a number above the limit
  pub too_high : (k : ℕ) → k < length steps → limit ≡ (nodes - 1) * reach → IsResidual amounts (step_at steps k) →
      limit + (step_at steps k).down < height old (step_at steps k).from + (step_at steps k).up → NoneMeet steps amounts
  too_high k inside is opens high others met =
      let fits = all k inside in
      let less = without_gaps nodes arcs reach steps amounts others all met in
      let at_from = low.below (λ v. closed reach others nodes (others v)) less (step_at steps k).from fits.from in
      let at_to = closed_most reach others nodes (step_at steps k).to fits.to in
      let kept = less k inside opens in
      omega (arith, at_from, at_to, kept, high, is)

  pub too_high_at : (k : ℕ) (step : ResidualArc) → k < length steps → limit ≡ (nodes - 1) * reach → step ≡ step_at steps k → IsResidual amounts step →
      limit + step.down < height old step.from + step.up → NoneMeet steps amounts
  too_high_at k step inside limited is opens high =
      too_high k inside limited (subst (IsResidual amounts) is opens) (subst (λ s. limit + s.down < height old s.from + s.up) is high)

  -- a raised number is low
  pub raised_low : (k : ℕ) → k < length steps → IsResidual amounts (step_at steps k) → (new : List ℕ) (up : ℕ) →
      IsLift (step_at steps k) old new up → up ≤ limit → AreLow nodes steps amounts limit new
  raised_low k inside opens new up lifted within =
      let fits = all k inside in
      let to_in : (step_at steps k).to < length old = omega (arith, fits.to, low.one_for_each) in
      subst (AreLow nodes steps amounts limit) (sym lifted.written)
      (record {
        one_for_each = length-set old (step_at steps k).to up ∙ low.one_for_each;
        inside = λ v v_in. by_write (λ x. x ≤ limit) old (step_at steps k).to v up to_in (λ _. within) (λ _. low.inside v v_in);
        below = λ others met v v_in. by_write (λ x. x ≤ others v) old (step_at steps k).to v up to_in
            (λ here. let kept = met k inside opens in
            let start = low.below others met (step_at steps k).from fits.from in
            let end : up ≤ others (step_at steps k).to = omega (arith, kept, start, lifted.just) in
            subst (λ w. up ≤ others w) (sym here) end)
            (λ _. low.below others met v v_in);
      })

  pub raised_low_at : (k : ℕ) (step : ResidualArc) → k < length steps → step ≡ step_at steps k → IsResidual amounts step → (new : List ℕ) (up : ℕ) →
      IsLift step old new up → up ≤ limit → AreLow nodes steps amounts limit new
  raised_low_at k step inside is opens new up lifted within =
      raised_low k inside (subst (IsResidual amounts) is opens) new up (subst (λ s. IsLift s old new up) is lifted) within

sum_raised : (old : List ℕ) (i up : ℕ) → i < length old → get_or old i 0 < up → suc (sum old) ≤ sum (set old i up)
sum_raised old i up inside higher = omega (arith, sum_by-set (λ x. x) old i up 0 inside)

-- a raise shortens what is left by as much as the queue grows
pub raise_shortens : (step : ResidualArc) (old new queue queue' : List ℕ) (up : ℕ) → step.to < length old → IsLift step old new up →
    length queue' ≤ length queue + 1 → length queue' + sum old ≤ length queue + sum new
raise_shortens step old new queue queue' up inside lifted more =
    let grown : suc (sum old) ≤ sum new = rw lifted.written (sum_raised old step.to up inside lifted.higher) in
    omega (arith, grown, more)

-- numbers, flags and queue at one step
module _ (nodes arcs reach : ℕ) (steps : List ResidualArc) (amounts : List ℕ) (limit : ℕ) (numbers waits queue : List ℕ)
    (all : AreStepsWithin nodes arcs reach steps) (k : ℕ) (inside : k < length steps)
    (rises : Rises nodes steps amounts limit numbers waits queue (AreLate steps (step_at steps k).from (k + 1))) where
  -- the step is met already, or closed
  pub rises_kept : (new : List ℕ) → new ≡ numbers → (IsResidual amounts (step_at steps k) → MeetsStep (height numbers) (step_at steps k)) →
      Rises nodes steps amounts limit new waits queue (AreLate steps (step_at steps k).from k)
  rises_kept new same kept =
      subst (λ xs. Rises nodes steps amounts limit xs waits queue (AreLate steps (step_at steps k).from k)) (sym same)
      (record {
        low = rises.low;
        lists = rises.lists;
        met = λ j j_in opens. elim (rises.met j j_in opens) [
          | inl waits_now ↦ inl waits_now
          | inr (inl meets) ↦ inr (inl meets)
          | inr (inr late) ↦ elim (cases_lt j k) [
            | inl before ↦ inr (inr (late.0, before))
            | inr behind ↦ let here : j ≡ k = omega (arith, late.1) in
                inr (inl (subst (λ i. IsResidual amounts (step_at steps i) → MeetsStep (height numbers) (step_at steps i)) (sym here) kept opens))
          ]
        ];
      })

  -- the number at its end is raised, and its node waits
  pub rises_raised : (new waits' queue' : List ℕ) (up : ℕ) → IsResidual amounts (step_at steps k) → IsLift (step_at steps k) numbers new up → up ≤ limit →
      Waits nodes (step_at steps k).to waits queue waits' queue' →
      Rises nodes steps amounts limit new waits' queue' (AreLate steps (step_at steps k).from k)
  rises_raised new waits' queue' up opens lifted within more =
      let fits = all k inside in
      let to_in : (step_at steps k).to < length numbers = omega (arith, fits.to, rises.low.one_for_each) in
      record {
        low = raised_low nodes arcs reach steps amounts limit numbers all rises.low k inside opens new up lifted within;
        lists = more.lists;
        met = λ j j_in opens'. elim (cases_eq (step_at steps j).from (step_at steps k).to) [
          | inl same ↦ inl (subst (λ v. 0 < get_or waits' v 0) (sym same) more.here)
          | inr apart ↦
              let from_is : height new (step_at steps j).from ≡ height numbers (step_at steps j).from = kept_at (step_at steps j).from apart to_in in
              let to_up : height numbers (step_at steps j).to ≤ height new (step_at steps j).to = risen_at (step_at steps j).to to_in in
              elim (rises.met j j_in opens') [
                | inl waits_now ↦ inl (more.still _ waits_now)
                | inr (inl meets) ↦ inr (inl (omega (arith, from_is, to_up, meets)))
                | inr (inr late) ↦ elim (cases_lt j k) [
                  | inl before ↦ inr (inr (late.0, before))
                  | inr behind ↦
                      let here : k ≡ j = omega (arith, late.1) in
                      inr (inl (subst (λ i. height new (step_at steps i).from ≡ height numbers (step_at steps i).from → MeetsStep (height new) (step_at steps i))
                      here just from_is))
                ]
              ]
        ];
      }
    where
      kept_at : (v : ℕ) → (v ≡ (step_at steps k).to → ⊥) → (step_at steps k).to < length numbers → height new v ≡ height numbers v
      kept_at v apart to_in = rw lifted.written (by_write (λ x. x ≡ height numbers v) numbers (step_at steps k).to v up to_in (λ same. absurd (apart same)) (λ _. refl))

      risen_at : (v : ℕ) → (step_at steps k).to < length numbers → height numbers v ≤ height new v
      risen_at v to_in = rw lifted.written (by_write (λ x. height numbers v ≤ x) numbers (step_at steps k).to v up to_in
          (λ same. subst (λ w. height numbers w ≤ up) (sym same) (omega (arith, lifted.higher))) (λ _. omega arith))

      end_is : (step_at steps k).to < length numbers → height new (step_at steps k).to ≡ up
      end_is to_in = rw lifted.written (by_write (λ x. x ≡ up) numbers (step_at steps k).to (step_at steps k).to up to_in (λ _. refl) (λ apart. absurd (apart refl)))

      just : height new (step_at steps k).from ≡ height numbers (step_at steps k).from → MeetsStep (height new) (step_at steps k)
      just from_is = omega (arith, from_is, end_is (omega (arith, (all k inside).to, rises.low.one_for_each)), lifted.just)

  pub rises_raised_at : (step : ResidualArc) (new waits' queue' : List ℕ) (up : ℕ) → step ≡ step_at steps k → IsResidual amounts step → IsLift step numbers new up →
      up ≤ limit → Waits nodes step.to waits queue waits' queue' → Rises nodes steps amounts limit new waits' queue' (AreLate steps (step_at steps k).from k)
  rises_raised_at step new waits' queue' up is opens lifted within more =
      rises_raised new waits' queue' up (subst (IsResidual amounts) is opens) (subst (λ s. IsLift s numbers new up) is lifted) within
      (subst (λ s. Waits nodes s.to waits queue waits' queue') is more)

-- the next step of the node
pub rises_next : (nodes : ℕ) (steps : List ResidualArc) (amounts : List ℕ) (limit : ℕ) (numbers waits queue last before : List ℕ) (node k : ℕ) →
    AreRows nodes (length steps) steps last before → k < length steps → (step_at steps k).from ≡ node →
    Rises nodes steps amounts limit numbers waits queue (AreLate steps (step_at steps k).from k) →
    Rises nodes steps amounts limit numbers waits queue (AreLate steps node (get_or before k 0))
rises_next nodes steps amounts limit numbers waits queue last before node k rows inside from rises = record {
  low = rises.low;
  lists = rises.lists;
  met = λ j j_in opens. elim (rises.met j j_in opens) [
    | inl waits_now ↦ inl waits_now
    | inr (inl meets) ↦ inr (inl meets)
    | inr (inr late) ↦ inr (inr (late.0 ∙ from, rows.before_all j k late.1 inside late.0))
  ];
}

-- the last step of the node
pub rises_last : (nodes : ℕ) (steps : List ResidualArc) (amounts : List ℕ) (limit : ℕ) (numbers waits queue last before : List ℕ) (node : ℕ) →
    AreRows nodes (length steps) steps last before →
    Rises nodes steps amounts limit numbers waits queue (AreLate steps node (length steps)) →
    Rises nodes steps amounts limit numbers waits queue (AreLate steps node (get_or last node 0))
rises_last nodes steps amounts limit numbers waits queue last before node rows rises = record {
  low = rises.low;
  lists = rises.lists;
  met = λ j j_in opens. elim (rises.met j j_in opens) [
    | inl waits_now ↦ inl waits_now
    | inr (inl meets) ↦ inr (inl meets)
    | inr (inr late) ↦ inr (inr (late.0, subst (λ v. j < get_or last v 0) late.0 (rows.last_all j j_in)))
  ];
}

-- no step is left
pub rises_all : (nodes : ℕ) (steps : List ResidualArc) (amounts : List ℕ) (limit : ℕ) (numbers waits queue : List ℕ) (node entry : ℕ) → entry ≡ 0 →
    Rises nodes steps amounts limit numbers waits queue (AreLate steps node entry) →
    Rises nodes steps amounts limit numbers waits queue NoneLate
rises_all nodes steps amounts limit numbers waits queue node entry none rises = record {
  low = rises.low;
  lists = rises.lists;
  met = λ j j_in opens. elim (rises.met j j_in opens) [
    | inl waits_now ↦ inl waits_now
    | inr (inl meets) ↦ inr (inl meets)
    | inr (inr late) ↦ absurd (omega (arith, late.1, none))
  ];
}

-- the first of the queue
pub in_first : (queue queue' : List ℕ) (node : ℕ) → queue ≡ node ∷ queue' → IsInList queue node
in_first queue queue' node taken = subst (λ xs. IsInList xs node) (sym taken) (0, omega arith, refl)

-- the nodes that wait are in the queue without its first, which waits no more
pub listed_taken : (nodes : ℕ) (waits queue queue' : List ℕ) (node : ℕ) → queue ≡ node ∷ queue' →
    AreListed nodes waits queue → AreListed nodes (set waits node 0) queue'
listed_taken nodes waits queue queue' node taken lists = record {
  flags = length-set waits node 0 ∙ lists.flags;
  listed = λ v v_in. by_write (λ x. 0 < x → IsInList queue' v) waits node v 0 node_in (λ here some. absurd (omega arith))
      (λ apart some. subst (λ xs. IsInList xs v) (ap (drop 1) taken) (in_rest queue v node (ap (λ xs. get_or xs 0 0) (sym taken)) (lists.listed v v_in some) apart));
  nodes_only = λ k k_in.
      let old = lists.nodes_only (suc k) (omega (arith, k_in, ap length taken)) in
      let e : get_or queue (suc k) 0 ≡ get_or queue' k 0 = ap (λ xs. get_or xs (suc k) 0) taken in
      omega (arith, e, old);
}
  where
    node_in : node < length waits
    node_in =
        let first = in_first queue queue' node taken in
        let low = lists.nodes_only first.0 first.1 in
        omega (arith, low, first.2, lists.flags)

-- and its steps are late
pub rises_taken : (nodes : ℕ) (steps : List ResidualArc) (amounts : List ℕ) (limit : ℕ) (numbers waits queue queue' : List ℕ) (node : ℕ) →
    queue ≡ node ∷ queue' → Rises nodes steps amounts limit numbers waits queue NoneLate →
    Rises nodes steps amounts limit numbers (set waits node 0) queue' (AreLate steps node (length steps))
rises_taken nodes steps amounts limit numbers waits queue queue' node taken rises = record {
  low = rises.low;
  lists = listed_taken nodes waits queue queue' node taken rises.lists;
  met = λ j j_in opens. elim (rises.met j j_in opens) [
    | inl waits_now ↦ elim (cases_eq (step_at steps j).from node) [
      | inl here ↦ inr (inr (here, j_in))
      | inr apart ↦ inl (by_write (λ x. 0 < x) waits node (step_at steps j).from 0 flag_in (λ here. absurd (apart here)) (λ _. waits_now))
    ]
    | inr (inl meets) ↦ inr (inl meets)
    | inr (inr late) ↦ absurd late
  ];
}
  where
    flag_in : node < length waits
    flag_in =
        let first = in_first queue queue' node taken in
        let low = rises.lists.nodes_only first.0 first.1 in
        omega (arith, low, first.2, rises.lists.flags)

-- no node waits
pub rises_done : (nodes arcs reach : ℕ) (steps : List ResidualArc) (amounts : List ℕ) (limit : ℕ) (numbers waits queue : List ℕ) →
    AreStepsWithin nodes arcs reach steps → length queue ≡ 0 → Rises nodes steps amounts limit numbers waits queue NoneLate →
    AreLeastMet nodes steps amounts limit numbers
rises_done nodes arcs reach steps amounts limit numbers waits queue all none rises = record {
  low = rises.low;
  met = λ j j_in opens. elim (rises.met j j_in opens) [
    | inl waits_now ↦ absurd (let found = rises.lists.listed (step_at steps j).from (all j j_in).from waits_now in omega (arith, found.1, none))
    | inr (inl meets) ↦ meets
    | inr (inr late) ↦ absurd late
  ];
}

-- numbers that are low for the steps along the arcs are low for more steps
pub low_more : (nodes arcs : ℕ) (steps : List ResidualArc) (amounts : List ℕ) (limit : ℕ) (numbers : List ℕ) → ArePaired arcs steps →
    AreLow nodes steps [] limit numbers → AreLow nodes steps amounts limit numbers
low_more nodes arcs steps amounts limit numbers paired low = record {
  one_for_each = low.one_for_each;
  inside = low.inside;
  below = λ others met. low.below others (λ k inside opens. met k inside (still k opens));
}
  where
    still : (k : ℕ) → IsResidual [] (step_at steps k) → IsResidual amounts (step_at steps k)
    still k opens = let none : amount_at [] (step_at steps k).arc ≡ 0 = refl in omega (arith, opens, none)

-- at the beginning only steps against arcs are not met
pub rises_first : (nodes arcs : ℕ) (steps : List ResidualArc) (amounts : List ℕ) (limit : ℕ) (walks waits queue : List ℕ) →
    ArePaired arcs steps → AreLeastMet nodes steps [] limit walks → waits ≡ replicate {A = ℕ} nodes 0 → queue ≡ [] →
    Rises nodes steps amounts limit walks waits queue (IsAtLeast 0)
rises_first nodes arcs steps amounts limit walks waits queue paired least flags none = record {
  low = low_more nodes arcs steps amounts limit walks paired least.low;
  lists = record {
    flags = ap length flags ∙ length-replicate {A = ℕ} nodes 0;
    listed = λ v v_in some.
        let zero_at = get_or-replicate {A = ℕ} nodes v 0 0 v_in in
        let flag : get_or waits v 0 ≡ get_or (replicate {A = ℕ} nodes 0) v 0 = ap (λ xs. get_or xs v 0) flags in
        absurd (omega (arith, some, flag, zero_at));
    nodes_only = λ k k_in. absurd (omega (arith, k_in, ap length none));
  };
  met = λ k k_in opens. let half = halves k in elim half.1 [
    | inl even ↦
        let some = paired.up half.0 (omega (arith, even, k_in, paired.two_for_each)) in
        let up : 0 < (step_at steps k).up = subst (λ j. 0 < (step_at steps j).up) even some in
        inr (inl (least.met k k_in (omega (arith, up))))
    | inr odd ↦ inr (inr (half.0, omega arith, sym odd))
  ];
}

-- the step against one arc more is met, or its node waits
pub rises_looked : (nodes arcs : ℕ) (steps : List ResidualArc) (amounts : List ℕ) (limit : ℕ) (walks waits queue waits' queue' : List ℕ) (i : ℕ) →
    ((v : ℕ) → 0 < get_or waits v 0 → 0 < get_or waits' v 0) → AreListed nodes waits' queue' →
    (IsResidual amounts (against_at steps i) →
    (0 < get_or waits' (against_at steps i).from 0) ⊎ MeetsStep (height walks) (against_at steps i)) →
    Rises nodes steps amounts limit walks waits queue (IsAtLeast i) →
    Rises nodes steps amounts limit walks waits' queue' (IsAtLeast (i + 1))
rises_looked nodes arcs steps amounts limit walks waits queue waits' queue' i still lists here rises = record {
  low = rises.low;
  lists = lists;
  met = λ k k_in opens. elim (rises.met k k_in opens) [
    | inl waits_now ↦ inl (still _ waits_now)
    | inr (inl meets) ↦ inr (inl meets)
    | inr (inr late) ↦ elim (cases_lt i late.0) [
      | inl later ↦ inr (inr (late.0, omega (arith, later), late.2))
      | inr now ↦
          let same : 2 * i + 1 ≡ k = omega (arith, late.1, late.2, now) in
          elim (subst (λ j. IsResidual amounts (step_at steps j) → (0 < get_or waits' (step_at steps j).from 0) ⊎ MeetsStep (height walks) (step_at steps j))
          same here opens) [
            | inl waits_here ↦ inl waits_here
            | inr meets ↦ inr (inl meets)
          ]
    ]
  ];
}

-- where the arc is slack its node waits now
pub looked_slack : (nodes arcs : ℕ) (steps : List ResidualArc) (amounts : List ℕ) (limit : ℕ) (walks waits queue waits' queue' : List ℕ) (i : ℕ) (step : ResidualArc) →
    ArePaired arcs steps → i < arcs → step ≡ along_at steps i → Waits nodes step.to waits queue waits' queue' →
    Rises nodes steps amounts limit walks waits queue (IsAtLeast i) →
    Rises nodes steps amounts limit walks waits' queue' (IsAtLeast (i + 1))
looked_slack nodes arcs steps amounts limit walks waits queue waits' queue' i step paired inside is more rises =
    rises_looked nodes arcs steps amounts limit walks waits queue waits' queue' i more.still more.lists
    (λ opens. let back = paired.back i inside in
    let node : step.to ≡ (against_at steps i).from = ap (λ (s : ResidualArc). s.to) is ∙ sym back.from in
    inl (subst (λ v. 0 < get_or waits' v 0) node more.here)) rises

-- where it is not slack the step against it is met
pub looked_just : (nodes arcs : ℕ) (steps : List ResidualArc) (amounts : List ℕ) (limit : ℕ) (walks waits queue : List ℕ) (i : ℕ) (step : ResidualArc) →
    ArePaired arcs steps → i < arcs → step ≡ along_at steps i →
    (0 < amount_at amounts i → height walks step.from + step.up < height walks step.to → ⊥) →
    Rises nodes steps amounts limit walks waits queue (IsAtLeast i) →
    Rises nodes steps amounts limit walks waits queue (IsAtLeast (i + 1))
looked_just nodes arcs steps amounts limit walks waits queue i step paired inside is just rises =
    rises_looked nodes arcs steps amounts limit walks waits queue waits queue i (λ v some. some) rises.lists
    (λ opens.
    let back = paired.back i inside in
    let number : (against_at steps i).arc ≡ i = back.arc ∙ paired.number i inside in
    let there : 0 < amount_at amounts (against_at steps i).arc = omega (arith, opens, back.up) in
    let some : 0 < amount_at amounts i = subst (λ j. 0 < amount_at amounts j) number there in
    let from : height walks (against_at steps i).from ≡ height walks (along_at steps i).to = ap (height walks) back.from in
    let to : height walks (against_at steps i).to ≡ height walks (along_at steps i).from = ap (height walks) back.to in
    inr (met_back (subst (λ (s : ResidualArc). height walks s.from + s.up < height walks s.to → ⊥) is (just some)) from to back.up back.down)) rises
  where
    met_back : {a b u c d v w : ℕ} → (a + u < b → ⊥) → c ≡ b → d ≡ a → v ≡ 0 → w ≡ u → c + v ≤ d + w
    met_back apart from to up down = omega (arith, apart, from, to, up, down)

-- all steps were looked at
pub rises_begun : (nodes arcs : ℕ) (steps : List ResidualArc) (amounts : List ℕ) (limit : ℕ) (walks waits queue : List ℕ) (count : ℕ) →
    ArePaired arcs steps → count ≡ arcs → Rises nodes steps amounts limit walks waits queue (IsAtLeast count) →
    Rises nodes steps amounts limit walks waits queue NoneLate
rises_begun nodes arcs steps amounts limit walks waits queue count paired all rises = record {
  low = rises.low;
  lists = rises.lists;
  met = λ k k_in opens. elim (rises.met k k_in opens) [
    | inl waits_now ↦ inl waits_now
    | inr (inl meets) ↦ inr (inl meets)
    | inr (inr late) ↦ absurd (omega (arith, late.1, late.2, all, k_in, paired.two_for_each))
  ];
}

-- a node more in the queue
pub waits_pushed : (node : ℕ) (waits queue : List ℕ) → node < length waits → AreListed (length waits) waits queue →
    Waits (length waits) node waits queue (set waits node 1) (queue ++ node ∷ [])
waits_pushed node waits queue inside lists = record {
  lists = record {
    flags = length-set waits node 1;
    listed = λ v v_in. by_write (λ x. 0 < x → IsInList (queue ++ node ∷ []) v) waits node v 1 inside
        (λ here some. subst (IsInList (queue ++ node ∷ [])) (sym here) (in_last queue node))
        (λ apart some. in_pushed queue node v (lists.listed v v_in some));
    nodes_only = λ k k_in. by_push (λ x. x < length waits) queue k node (omega (arith, k_in, length_push queue node))
        (λ here. inside) (λ front. lists.nodes_only k front);
  };
  here = by_write (λ x. 0 < x) waits node node 1 inside (λ same. omega arith) (λ apart. absurd (apart refl));
  still = λ v some. by_write (λ x. 0 < x) waits node v 1 inside (λ same. omega arith) (λ apart. some);
  one_more = omega (arith, length_push queue node);
}
