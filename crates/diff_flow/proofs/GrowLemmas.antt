-- A network whose graph has one arc more or less at its end.
use Rattle.std.proofs.Common.{◌≡◌, ℕ, ◌+◌, ◌-◌, ◌*◌, ◌<◌, ◌≤◌, inl, inr, ℤ, pos, List, [], ◌∷◌, ◌++◌, length, take, refl, sym, ap, subst, ◌∙◌, arith}
use Rattle.std.specs.Prelude.{◌≤ℤ◌, ◌+ℤ◌, ◌-ℤ◌, Result, Ok, Err, OnErr}
use Rattle.std.proofs.lemmas.Int.{ints}
use Rattle.std.proofs.lemmas.Bool.{cases_lt}
use Rattle.std.proofs.lemmas.List.{length_push, length-append, length-take-le, get_or-take, get_or_append_left, get_or_push, take_at}
use Rattle.std.proofs.Math.Nat.{mul-le-mul_left}
use Rattle.shape_graphs.specs.declared.graph.Arc.{Arc}
use Rattle.shape_graphs.specs.declared.graph.DiffGraph.{DiffGraph}
use Rattle.shape_graphs.specs.Arcs.{arc_at, no_arc, EndsAreNodes, AreArcsWithin, IsArcWithin}
use Rattle.shape_graphs.specs.Flows.{amount_at, IsSolution, number_at}
use Rattle.shape_graphs.specs.Paths.{HasCycle}
use Rattle.shape_graphs.proofs.Laws.{cycle_decided, some_solution, no_cycle_in_solution}
use Rattle.diff_flow.specs.Tight.{AreLeastTight}
use Rattle.diff_flow.specs.Walks.{AreLongestWalkLengths, AreWalkLengthsOf, AreLeastBefore, HasOneMoreArc}
use Rattle.diff_flow.specs.declared.steps.ResidualArc.{ResidualArc}
use Rattle.diff_flow.specs.declared.steps.Steps.{Steps}
use Rattle.diff_flow.specs.inner.Networks.{AreMadeFor}
use Rattle.diff_flow.specs.inner.Steps.{step_at, no_step, along_at, against_at, AreOneMore, AreStepsWithin, AreStepsOf, IsAlongArc, IsAgainstArc, IsResidual, MeetsStep, AreMet}
use Rattle.diff_flow.specs.inner.Numbers.{height, AreLeastMet}
use Rattle.diff_flow.specs.inner.Routing.{AreFirst}
use Rattle.diff_flow.specs.inner.Lengthening.{MeetsAlong, StayBelow, NoneAbove}
use Rattle.diff_flow.proofs.Gaps.{closed, closed_most}
use Rattle.diff_flow.proofs.StepLemmas.{before_two, first_of_two, second_of_two, steps_more}
use Rattle.diff_flow.proofs.LabelLemmas.{without_gaps}
use Rattle.diff_flow.proofs.BestLemmas.{met_where_just}
use Rattle.diff_flow.proofs.TightLemmas.{nat, nat_is, met_where_tight, tight_where_met, least_where_met, least_low}
use Rattle.diff_flow.proofs.WalkLemmas.{are_longest}
use Rattle.diff_flow.proofs.RouteLemmas.{along_number}

-- what holds anyhow holds where a call failed
pub at_any : {T E P : Type 0} (r : Result T E) → P → OnErr r P
at_any (Ok x) is = tt
at_any (Err e) is = is

none_carried : (k : ℕ) → amount_at [] k ≡ 0
none_carried k = refl

-- the longest walks are the least numbers for the empty flow
longest_tight : (nodes : ℕ) (arcs : List Arc) (p : ℕ → ℤ) → AreLongestWalkLengths nodes arcs p → AreLeastTight nodes arcs [] p
longest_tight nodes arcs p longest = record {
  tight = record {
    from_zero = longest.from_zero;
    solution = longest.solution;
    tight = λ i inside some. absurd (omega (arith, some, none_carried i));
  };
  least = λ others tight. longest.least others tight.from_zero tight.solution;
}

-- solutions meet the steps along all arcs
module _ (nodes : ℕ) (arcs : List Arc) (steps : List ResidualArc) (ends : EndsAreNodes nodes arcs) (are : AreStepsOf arcs steps) where
  pub solution_met : (p : ℕ → ℤ) → ((v : ℕ) → v < nodes → pos 0 ≤ℤ p v) → IsSolution arcs p → AreMet steps [] (λ v. nat (p v))
  solution_met p from_zero solution = met_where_tight nodes arcs steps [] ends are p (record {
    from_zero = from_zero;
    solution = solution;
    tight = λ i inside some. absurd (omega (arith, some, none_carried i));
  })

  -- the leasts are at most the reach
  leasts_low : (m reach : ℕ) → AreStepsWithin nodes m reach steps → (i : ℕ) → i < length arcs → (arc_at arcs i).least ≤ℤ pos reach
  leasts_low m reach within i inside =
      let is = within (2 * i) (omega (arith, inside, are.two_for_each)) in
      omega (arith, ints, is.up, (are.along i inside).up)

  -- and are met by no less
  pub longest_met : (m reach : ℕ) (walks : List ℕ) → AreStepsWithin nodes m reach steps → AreArcsWithin arcs → length walks ≡ nodes →
      AreLongestWalkLengths nodes arcs (λ v. pos (height walks v)) → AreLeastMet nodes steps [] ((nodes - 1) * reach) walks
  longest_met m reach walks within fits all longest = record {
    low = record {
      one_for_each = all;
      inside = λ v v_in.
          let low = least_low nodes arcs [] (λ u. pos (height walks u)) reach ends fits (leasts_low m reach within)
          (longest_tight nodes arcs (λ u. pos (height walks u)) longest) v v_in in
          omega (arith, ints, low);
      below = λ others met v v_in.
          let tight = tight_where_met nodes arcs steps [] ends are fits others met in
          let low = longest.least (λ u. pos (others u)) tight.from_zero tight.solution v v_in in
          omega (arith, ints, low);
    };
    met = λ k k_in opens.
        let is = solution_met (λ u. pos (height walks u)) (λ v v_in. omega (arith, ints)) longest.solution k k_in opens in
        let a = nat_is (pos (height walks (step_at steps k).from)) (omega (arith, ints)) in
        let b = nat_is (pos (height walks (step_at steps k).to)) (omega (arith, ints)) in
        omega (arith, ints, is, a, b);
  }

-- steps that are the same, within a greater reach
pub made_kept : (graph : DiffGraph) (steps steps' : Steps) (walks : List ℕ) → steps'.nodes ≡ steps.nodes → steps'.arcs ≡ steps.arcs →
    steps'.list.items ≡ steps.list.items → steps.reach ≤ steps'.reach → AreMadeFor graph steps walks → AreMadeFor graph steps' walks
made_kept graph steps steps' walks nodes arcs list reach made = record {
  no_cycle = made.no_cycle;
  nodes = nodes ∙ made.nodes;
  arcs = arcs ∙ made.arcs;
  steps_of = are;
  longest = made.longest;
  least_met = subst (λ n. AreLeastMet n steps'.list.items [] ((n - 1) * steps'.reach) walks) (sym (nodes ∙ made.nodes))
      (longest_met graph.nodes graph.arcs steps'.list.items graph.ends are steps'.arcs steps'.reach walks
      (subst (λ n. AreStepsWithin n steps'.arcs steps'.reach steps'.list.items) (nodes ∙ made.nodes) steps'.within)
      graph.within (made.least_met.low.one_for_each ∙ made.nodes) made.longest);
}
  where
    are : AreStepsOf graph.arcs steps'.list.items
    are = subst (AreStepsOf graph.arcs) (sym list) made.steps_of

-- the steps without those of the last arc
pub steps_fewer : (arcs : List Arc) (arc : Arc) (steps : List ResidualArc) → AreStepsOf (arcs ++ arc ∷ []) steps →
    AreStepsOf arcs (take (2 * length arcs) steps)
steps_fewer arcs arc steps are = record {
  two_for_each = length-take-le (2 * length arcs) steps (omega (arith, are.two_for_each, length_push arcs arc));
  along = λ i inside.
      subst (IsAlongArc (arc_at arcs i) i) (sym (get_or-take (2 * length arcs) steps (2 * i) no_step (omega (arith, inside))))
      (subst (λ (a : Arc). IsAlongArc a i (along_at steps i)) (get_or_append_left arcs (arc ∷ []) no_arc i inside)
      (are.along i (omega (arith, inside, length_push arcs arc))));
  against = λ i inside.
      subst (IsAgainstArc (arc_at arcs i) i) (sym (get_or-take (2 * length arcs) steps (2 * i + 1) no_step (omega (arith, inside))))
      (subst (λ (a : Arc). IsAgainstArc a i (against_at steps i)) (get_or_append_left arcs (arc ∷ []) no_arc i inside)
      (are.against i (omega (arith, inside, length_push arcs arc))));
}

-- what is made for the graph without its last arc
pub made_fewer : (graph larger : DiffGraph) (steps steps' : Steps) (others walks : List ℕ) → HasOneMoreArc graph larger → AreMadeFor larger steps others →
    steps'.nodes ≡ steps.nodes → steps'.arcs + 1 ≡ steps.arcs → steps'.list.items ≡ take (2 * steps'.arcs) steps.list.items →
    AreWalkLengthsOf graph walks → AreMadeFor graph steps' walks
made_fewer graph larger steps steps' others walks one made nodes arcs list is = record {
  no_cycle = no_cycle_in_solution graph.arcs (λ v. pos (height walks v)) graph.within is.longest.solution;
  nodes = nodes_are;
  arcs = arcs_are;
  steps_of = are;
  longest = is.longest;
  least_met = subst (λ n. AreLeastMet n steps'.list.items [] ((n - 1) * steps'.reach) walks) (sym nodes_are)
      (longest_met graph.nodes graph.arcs steps'.list.items graph.ends are steps'.arcs steps'.reach walks
      (subst (λ n. AreStepsWithin n steps'.arcs steps'.reach steps'.list.items) nodes_are steps'.within)
      graph.within is.one_for_each is.longest);
}
  where
    nodes_are : steps'.nodes ≡ graph.nodes
    nodes_are = nodes ∙ made.nodes ∙ one.nodes

    arcs_are : steps'.arcs ≡ length graph.arcs
    arcs_are = omega (arith, arcs, made.arcs, ap length one.arcs, length_push graph.arcs one.last)

    are : AreStepsOf graph.arcs steps'.list.items
    are = subst (AreStepsOf graph.arcs) (sym (list ∙ ap (λ n. take (2 * n) steps.list.items) arcs_are))
        (steps_fewer graph.arcs one.last steps.list.items (subst (λ ys. AreStepsOf ys steps.list.items) one.arcs made.steps_of))

-- the last arc
pub last_is : (before graph : DiffGraph) (one : HasOneMoreArc before graph) (n : ℕ) → n ≡ length before.arcs → arc_at graph.arcs n ≡ one.last
last_is before graph one n all = ap (λ ys. arc_at ys n) one.arcs ∙ get_or_push before.arcs one.last no_arc n (sym all)

-- the steps of one arc more
module _ (before graph : DiffGraph) (one : HasOneMoreArc before graph) (old steps : Steps) (walks : List ℕ) (made : AreMadeFor before old walks)
    (nodes : steps.nodes ≡ old.nodes) (reach : old.reach ≤ steps.reach) (arcs : steps.arcs ≡ old.arcs + 1)
    (more : AreOneMore one.last old.arcs old.list.items steps.list.items) where
  pub steps_are : AreStepsOf graph.arcs steps.list.items
  steps_are = subst (λ ys. AreStepsOf ys steps.list.items) (sym one.arcs)
      (steps_more before.arcs one.last old.arcs old.list.items steps.list.items made.arcs made.steps_of more)

  pub nodes_are : steps.nodes ≡ graph.nodes
  nodes_are = nodes ∙ made.nodes ∙ sym one.nodes

  pub arcs_are : steps.arcs ≡ length graph.arcs
  arcs_are = omega (arith, arcs, made.arcs, ap length one.arcs, length_push before.arcs one.last)

  front_at : (k : ℕ) → k < length old.list.items → step_at steps.list.items k ≡ step_at old.list.items k
  front_at k inside = ap (λ ss. step_at ss k) more.grown ∙ before_two old.list.items more.there more.back k inside

  longer_list : length steps.list.items ≡ length old.list.items + 2
  longer_list = omega (arith, ap length more.grown, length-append old.list.items (more.there ∷ more.back ∷ []))

  front_met : (others : ℕ → ℕ) → AreMet steps.list.items [] others → AreMet old.list.items [] others
  front_met others met k k_in opens =
      subst (MeetsStep others) (front_at k k_in)
      (met k (omega (arith, k_in, longer_list)) (subst (IsResidual []) (sym (front_at k k_in)) opens))

  -- the walks are low
  pub walks_low : (v : ℕ) → v < steps.nodes → height walks v ≤ (steps.nodes - 1) * steps.reach
  walks_low v v_in =
      let low = made.least_met.low.inside v (omega (arith, v_in, nodes)) in
      let higher = mul-le-mul_left (old.nodes - 1) reach in
      let same : (steps.nodes - 1) * steps.reach ≡ (old.nodes - 1) * steps.reach = ap (λ n. (n - 1) * steps.reach) nodes in
      omega (arith, low, higher, same)

  -- and meet all steps but the new one
  pub start_met : (start : ℕ) → start ≡ one.last.from → (k : ℕ) → k < length steps.list.items → ((step_at steps.list.items k).from ≡ start → ⊥) →
      MeetsAlong walks (step_at steps.list.items k)
  start_met start begins k k_in apart =
      elim (cases_lt k (length old.list.items)) [
        | inl front ↦ subst (MeetsAlong walks) (sym (front_at k front)) (λ up. made.least_met.met k front (omega (arith, up)))
        | inr behind ↦ elim (cases_lt k (length old.list.items + 1)) [
          | inl first ↦
              let here : k ≡ length old.list.items = omega (arith, behind, first) in
              let is : step_at steps.list.items k ≡ more.there =
              ap (λ ss. step_at ss k) more.grown ∙ first_of_two old.list.items more.there more.back k here in
              absurd (apart (ap (λ (s : ResidualArc). s.from) is ∙ more.along.from ∙ sym begins))
          | inr second ↦
              let here : k ≡ length old.list.items + 1 = omega (arith, k_in, longer_list, second) in
              let is : step_at steps.list.items k ≡ more.back =
              ap (λ ss. step_at ss k) more.grown ∙ second_of_two old.list.items more.there more.back k here in
              let level : (step_at steps.list.items k).up ≡ 0 = ap (λ (s : ResidualArc). s.up) is ∙ more.against.up in
              λ up. absurd (omega (arith, up, level))
        ]
      ]

  -- where they are taken away again they are what they were
  pub made_again : (less : Steps) → less.nodes ≡ steps.nodes → less.reach ≡ steps.reach → less.arcs + 1 ≡ steps.arcs →
      less.list.items ≡ take (2 * less.arcs) steps.list.items → AreMadeFor before less walks
  made_again less same_nodes same_reach fewer list =
      let same : less.arcs ≡ old.arcs = omega (arith, fewer, arcs) in
      let len : length old.list.items ≡ 2 * less.arcs = omega (arith, same, old.paired.two_for_each) in
      made_kept before old less walks (same_nodes ∙ nodes) same
      (list ∙ ap (take (2 * less.arcs)) more.grown ∙ take_at old.list.items (more.there ∷ more.back ∷ []) (2 * less.arcs) len)
      (omega (arith, same_reach, reach)) made

  -- walks that meet the new arc too, and are no longer than they have to be
  pub made_longer : (longer : List ℕ) →
      AreFirst steps.nodes steps.arcs ((steps.nodes - 1) * steps.reach) steps.list.items longer →
      StayBelow steps.nodes steps.list.items walks longer → AreMadeFor graph steps longer
  made_longer longer first below = record {
    no_cycle = no_cycle_in_solution graph.arcs (λ v. pos (height longer v)) graph.within longest.solution;
    nodes = nodes_are;
    arcs = arcs_are;
    steps_of = steps_are;
    longest = longest;
    least_met = least;
  }
    where
      least : AreLeastMet steps.nodes steps.list.items [] ((steps.nodes - 1) * steps.reach) longer
      least = record {
        low = record {
          one_for_each = first.one_for_each;
          inside = first.low;
          below = λ others met. below others met (λ v v_in. made.least_met.low.below others (front_met others met) v (omega (arith, v_in, nodes)));
        };
        met = met_where_just steps.arcs steps.list.items [] longer steps.paired first.met (λ k k_in some. absurd (omega (arith, some, none_carried k)));
      }

      longest : AreLongestWalkLengths graph.nodes graph.arcs (λ v. pos (height longer v))
      longest = are_longest graph.nodes graph.arcs _
          (least_where_met graph.nodes graph.arcs steps.list.items [] graph.ends steps_are graph.within ((steps.nodes - 1) * steps.reach) longer
          (subst (λ n. AreLeastMet n steps.list.items [] ((steps.nodes - 1) * steps.reach) longer) nodes_are least))

  -- where no numbers above the walks meet it there is a cycle
  pub cycle_found : NoneAbove steps.nodes steps.list.items ((steps.nodes - 1) * steps.reach) walks → HasCycle graph.arcs
  cycle_found none = elim (cycle_decided graph.arcs) [
    | inl cycle ↦ cycle
    | inr no_cycle ↦
        let solved = some_solution graph.arcs no_cycle in
        let met = solution_met graph.nodes graph.arcs steps.list.items graph.ends steps_are solved.0 (λ v v_in. solved.2 v) solved.1 in
        let gapless = without_gaps steps.nodes steps.arcs steps.reach steps.list.items [] (λ v. nat (solved.0 v)) steps.within met in
        absurd (none (λ v. closed steps.reach (λ u. nat (solved.0 u)) steps.nodes (nat (solved.0 v))) gapless
        (λ v v_in. made.least_met.low.below (λ w. closed steps.reach (λ u. nat (solved.0 u)) steps.nodes (nat (solved.0 w))) (front_met (λ w. closed steps.reach (λ u. nat (solved.0 u)) steps.nodes (nat (solved.0 w))) gapless) v
        (omega (arith, v_in, nodes)))
        (λ v v_in. closed_most steps.reach (λ u. nat (solved.0 u)) steps.nodes v v_in))
  ]

-- numbers that were least before the last arc meet all steps but those from its beginning
module _ (graph : DiffGraph) (steps : Steps) (walks : List ℕ) (made : AreMadeFor graph steps walks) (numbers : List ℤ) (first : List ℕ)
    (before : AreLeastBefore graph.nodes graph.arcs (number_at numbers)) (all : length first ≡ graph.nodes)
    (same : (v : ℕ) → v < graph.nodes → pos (height first v) ≡ number_at numbers v) where
  front_in : (i : ℕ) → i < length before.front → i < length graph.arcs
  front_in i inside = omega (arith, inside, ap length before.arcs_are, length_push before.front before.last)

  front_is : (i : ℕ) → i < length before.front → arc_at graph.arcs i ≡ arc_at before.front i
  front_is i inside = ap (λ ys. arc_at ys i) before.arcs_are ∙ get_or_append_left before.front (before.last ∷ []) no_arc i inside

  front_ends : EndsAreNodes graph.nodes before.front
  front_ends i inside = subst (λ (a : Arc). (a.from < graph.nodes) × (a.to < graph.nodes)) (front_is i inside) (graph.ends i (front_in i inside))

  front_within : AreArcsWithin before.front
  front_within i inside = subst IsArcWithin (front_is i inside) (graph.within i (front_in i inside))

  front_leasts : (i : ℕ) → i < length before.front → (arc_at before.front i).least ≤ℤ pos steps.reach
  front_leasts i inside =
      subst (λ (a : Arc). a.least ≤ℤ pos steps.reach) (front_is i inside)
      (leasts_low graph.nodes graph.arcs steps.list.items graph.ends made.steps_of steps.arcs steps.reach
      (subst (λ n. AreStepsWithin n steps.arcs steps.reach steps.list.items) made.nodes steps.within) i (front_in i inside))

  pub first_low : (v : ℕ) → v < steps.nodes → height first v ≤ (steps.nodes - 1) * steps.reach
  first_low v v_in =
      let v_in' : v < graph.nodes = omega (arith, v_in, made.nodes) in
      let low = least_low graph.nodes before.front before.carried (number_at numbers) steps.reach front_ends front_within front_leasts before.least v v_in' in
      let is = same v v_in' in
      let limit : (steps.nodes - 1) * steps.reach ≡ (graph.nodes - 1) * steps.reach = ap (λ n. (n - 1) * steps.reach) made.nodes in
      omega (arith, ints, low, is, limit)

  pub first_met : (start : ℕ) → start ≡ (along_at steps.list.items (steps.arcs - 1)).from → (k : ℕ) → k < length steps.list.items →
      ((step_at steps.list.items k).from ≡ start → ⊥) → MeetsAlong first (step_at steps.list.items k)
  first_met start begins k k_in apart up =
      let number = along_number steps.arcs steps.list.items steps.paired k k_in up in
      elim (cases_lt number.0 (length before.front)) [
        | inl front ↦
            let i_in = front_in number.0 front in
            let along = made.steps_of.along number.0 i_in in
            let solved = before.least.tight.solution number.0 front in
            let arc = front_is number.0 front in
            let step = number.2 in
            let from : (step_at steps.list.items k).from ≡ (arc_at before.front number.0).from =
            ap (λ j. (step_at steps.list.items j).from) step ∙ along.from ∙ ap (λ (a : Arc). a.from) arc in
            let to : (step_at steps.list.items k).to ≡ (arc_at before.front number.0).to =
            ap (λ j. (step_at steps.list.items j).to) step ∙ along.to ∙ ap (λ (a : Arc). a.to) arc in
            let ups : pos (step_at steps.list.items k).up ≡ (arc_at before.front number.0).least =
            ap (λ j. pos (step_at steps.list.items j).up) step ∙ along.up ∙ ap (λ (a : Arc). a.least) arc in
            let h_from : height first (step_at steps.list.items k).from ≡ height first (arc_at before.front number.0).from = ap (height first) from in
            let h_to : height first (step_at steps.list.items k).to ≡ height first (arc_at before.front number.0).to = ap (height first) to in
            let p_from = same (arc_at before.front number.0).from (front_ends number.0 front).0 in
            let p_to = same (arc_at before.front number.0).to (front_ends number.0 front).1 in
            omega (arith, ints, solved, ups, h_from, h_to, p_from, p_to)
        | inr behind ↦
            let last : number.0 ≡ steps.arcs - 1 = omega (arith, behind, number.1, made.arcs, ap length before.arcs_are, length_push before.front before.last) in
            absurd (apart (ap (λ j. (step_at steps.list.items j).from) number.2 ∙ ap (λ j. (along_at steps.list.items j).from) last ∙ sym begins))
      ]

-- numbers that are least for a flow, and meet one arc more, are least for the flow that carries nothing there
pub least_more : (nodes : ℕ) (arcs : List Arc) (arc : Arc) (amounts : List ℕ) (p : ℕ → ℤ) → length amounts ≡ length arcs →
    AreLeastTight nodes arcs amounts p → (p arc.from +ℤ arc.least) ≤ℤ p arc.to →
    AreLeastTight nodes (arcs ++ arc ∷ []) (amounts ++ 0 ∷ []) p
least_more nodes arcs arc amounts p all least met = record {
  tight = record {
    from_zero = least.tight.from_zero;
    solution = λ i inside. elim (cases_lt i (length arcs)) [
      | inl front ↦ subst (λ (a : Arc). a.least ≤ℤ (p a.to -ℤ p a.from)) (sym (get_or_append_left arcs (arc ∷ []) no_arc i front))
          (least.tight.solution i front)
      | inr behind ↦
          let here : length arcs ≡ i = omega (arith, inside, behind, length_push arcs arc) in
          subst (λ (a : Arc). a.least ≤ℤ (p a.to -ℤ p a.from))
          (sym (get_or_push arcs arc no_arc i here)) (omega (arith, ints, met))
    ];
    tight = λ i inside some. elim (cases_lt i (length arcs)) [
      | inl front ↦
          let carried : 0 < amount_at amounts i = subst (λ x. 0 < x) (get_or_append_left amounts (0 ∷ []) 0 i (omega (arith, front, all))) some in
          subst (λ (a : Arc). p a.to -ℤ p a.from ≡ a.least) (sym (get_or_append_left arcs (arc ∷ []) no_arc i front))
          (least.tight.tight i front carried)
      | inr behind ↦
          let here : length amounts ≡ i = omega (arith, inside, behind, all, length_push arcs arc) in
          let none : amount_at (amounts ++ 0 ∷ []) i ≡ 0 = get_or_push amounts 0 0 i here in
          absurd (omega (arith, some, none))
    ];
  };
  least = λ others tight. least.least others (record {
    from_zero = tight.from_zero;
    solution = λ i inside. subst (λ (a : Arc). a.least ≤ℤ (others a.to -ℤ others a.from)) (get_or_append_left arcs (arc ∷ []) no_arc i inside)
        (tight.solution i (omega (arith, inside, length_push arcs arc)));
    tight = λ i inside some. subst (λ (a : Arc). others a.to -ℤ others a.from ≡ a.least) (get_or_append_left arcs (arc ∷ []) no_arc i inside)
        (tight.tight i (omega (arith, inside, length_push arcs arc))
        (subst (λ x. 0 < x) (sym (get_or_append_left amounts (0 ∷ []) 0 i (omega (arith, inside, all)))) some));
  });
}
