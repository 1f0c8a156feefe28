-- A turn of the search: the numbers of the reached nodes are raised, and one node more is reached.
use Rattle.std.proofs.Common.{◌≡◌, ℕ, zero, suc, ◌+◌, ◌-◌, ◌*◌, ◌^◌, ◌<◌, ◌≤◌, ◌⊎◌, inl, inr, List, length, slice_index, refl, sym, ap, subst, ◌∙◌, arith, ltb, Bool, true, false, MatchBool, Option, Some, None}
use Rattle.std.proofs.lemmas.Bool.{cases_eq, cases_lt, ltb-true, ltb-false}
use Rattle.shape_graphs.specs.Flows.{amount_at}
use Rattle.diff_flow.specs.declared.steps.ResidualArc.{ResidualArc}
use Rattle.diff_flow.specs.declared.tree.Reached.{Reached}
use Rattle.diff_flow.specs.declared.leaving.Leaving.{Leaving}
use Rattle.diff_flow.specs.inner.Steps.{step_at, along_at, against_at, AreStepsWithin, AreRows, ArePaired, IsResidual, MeetsStep, AreMet}
use Rattle.diff_flow.specs.inner.Numbers.{height}
use Rattle.diff_flow.specs.inner.Search.{entry_at, step_of_entry, AreFit, IsPassable, IsTree, ArePlaced, NoneLacks, IsFollowed, AreFollowed, IsLeaving, IsScanned, IsScannedBefore, IsLeastLeaving, IsLesser, Grows, Raises, IsTrap}
use Rattle.diff_flow.proofs.Gaps.{closed_most, uncovered}
use Rattle.diff_flow.proofs.StepLemmas.{by_direction}
use Rattle.diff_flow.proofs.RouteLemmas.{along_number}

-- along the arcs the numbers meet every step
pub met_along : (arcs : ℕ) (steps : List ResidualArc) (amounts numbers : List ℕ) → ArePaired arcs steps → AreMet steps amounts (height numbers) →
    (k : ℕ) → k < arcs → height numbers (along_at steps k).from + (along_at steps k).up ≤ height numbers (along_at steps k).to
met_along arcs steps amounts numbers paired met k inside =
    let ups = paired.up k inside in
    let meets = met (2 * k) (omega (arith, paired.two_for_each)) (omega arith) in
    omega (arith, meets, paired.level k inside)

-- a step against an arc with an amount can be passed
back_open : (arcs : ℕ) (steps : List ResidualArc) (amounts numbers : List ℕ) → ArePaired arcs steps → (i : ℕ) → i < arcs → 0 < amount_at amounts i →
    IsPassable amounts numbers (against_at steps i)
back_open arcs steps amounts numbers paired i inside some =
    let back = paired.back i inside in
    let number : (against_at steps i).arc ≡ i = back.arc ∙ paired.number i inside in
    record {
      along = λ ups. absurd (omega (arith, back.up));
      against = λ _. subst (λ j. 0 < amount_at amounts j) (sym number) some;
    }

-- and is open
back_is_open : (arcs : ℕ) (steps : List ResidualArc) (amounts : List ℕ) → ArePaired arcs steps → (i : ℕ) → i < arcs → 0 < amount_at amounts i →
    IsResidual amounts (against_at steps i)
back_is_open arcs steps amounts paired i inside some =
    let back = paired.back i inside in
    let number : (against_at steps i).arc ≡ i = back.arc ∙ paired.number i inside in
    let there : 0 < amount_at amounts (against_at steps i).arc = subst (λ j. 0 < amount_at amounts j) (sym number) some in
    omega (arith, there)

-- only arcs with an amount have an open step against them
back_some : (arcs : ℕ) (steps : List ResidualArc) (amounts : List ℕ) → ArePaired arcs steps → (i : ℕ) → i < arcs →
    IsResidual amounts (against_at steps i) → 0 < amount_at amounts i
back_some arcs steps amounts paired i inside opens =
    let back = paired.back i inside in
    let number : (against_at steps i).arc ≡ i = back.arc ∙ paired.number i inside in
    let there : 0 < amount_at amounts (against_at steps i).arc = omega (arith, opens, back.up) in
    subst (λ j. 0 < amount_at amounts j) number there

-- where the steps of all reached nodes are passed
module _ (nodes arcs reach : ℕ) (steps : List ResidualArc) (amounts numbers want : List ℕ) (tree : List Reached) (places : List ℕ)
    (all : AreStepsWithin nodes arcs reach steps) (paired : ArePaired arcs steps)
    (is : IsTree nodes steps amounts numbers tree places)
    (passed : AreFollowed steps amounts numbers tree places (length tree)) where
  pub passed_at : (k : ℕ) → k < length steps → 0 < slice_index places (step_at steps k).from → IsFollowed steps amounts numbers places k
  passed_at k inside reached =
      let v_in = (all k inside).from in
      let within = is.within (step_at steps k).from v_in in
      passed (slice_index places (step_at steps k).from - 1) (omega arith) k inside (omega arith)
      (sym (is.placed (step_at steps k).from v_in reached))

  -- an arc with an amount begins at a reached node where it ends at one
  pub begins_reached : (k : ℕ) → k < arcs → 0 < amount_at amounts k → 0 < slice_index places (along_at steps k).to →
      0 < slice_index places (along_at steps k).from
  begins_reached k inside some reached =
      let back = paired.back k inside in
      let from_reached : 0 < slice_index places (against_at steps k).from = subst (λ v. 0 < slice_index places v) (sym back.from) reached in
      subst (λ v. 0 < slice_index places v) back.to
      (passed_at (2 * k + 1) (omega (arith, paired.two_for_each)) from_reached (back_open arcs steps amounts numbers paired k inside some))

  -- the reached nodes are a trap where no arc leaves them
  pub trapped : NoneLacks want places → ((k slack : ℕ) → k < length steps → IsLeaving steps numbers places k slack → ⊥) →
      AreMet steps amounts (height numbers) →
      IsTrap nodes arcs steps amounts want (entry_at tree 0).node (λ v. slice_index places v)
  trapped none leaves met = record {
    begins = omega (arith, is.at_place 0 is.some);
    none_lacks = λ v v_in some. none v some;
    none_leaves = λ k inside from. elim (cases_lt 0 (slice_index places (along_at steps k).to)) [
      | inl some ↦ some
      | inr out ↦
          let step_in : 2 * k < length steps = omega (arith, inside, paired.two_for_each) in
          absurd (leaves (2 * k) (height numbers (along_at steps k).to - (height numbers (along_at steps k).from + (along_at steps k).up)) step_in
          (record {
            inside = step_in;
            along = paired.up k inside;
            from = from;
            to = omega arith;
            just = omega (arith, met_along arcs steps amounts numbers paired met k inside);
          }))
    ];
    none_enters = begins_reached;
  }

-- the numbers of the reached nodes are raised by the least slack of the steps that leave them
module _ (nodes arcs reach limit : ℕ) (steps : List ResidualArc) (amounts numbers numbers' want : List ℕ) (tree : List Reached) (places : List ℕ)
    (all : AreStepsWithin nodes arcs reach steps) (paired : ArePaired arcs steps)
    (fit : AreFit nodes limit steps amounts numbers want)
    (is : IsTree nodes steps amounts numbers tree places)
    (none : NoneLacks want places)
    (passed : AreFollowed steps amounts numbers tree places (length tree))
    (step slack : ℕ) (leaving : IsLeaving steps numbers places step slack)
    (least : (k other : ℕ) → k < length steps → IsLeaving steps numbers places k other → slack ≤ other)
    (raises : Raises places numbers numbers' slack) where
  raised_at : (v : ℕ) → v < nodes → 0 < slice_index places v → height numbers' v ≡ height numbers v + slack
  raised_at v inside reached = raises.raised v (omega (arith, fit.one_for_each)) reached

  kept_at : (v : ℕ) → v < nodes → slice_index places v ≡ 0 → height numbers' v ≡ height numbers v
  kept_at v inside out = raises.kept v (omega (arith, fit.one_for_each)) out

  risen_at : (v : ℕ) → v < nodes → height numbers v ≤ height numbers' v
  risen_at v inside = elim (cases_lt 0 (slice_index places v)) [
    | inl reached ↦ omega (arith, raised_at v inside reached)
    | inr out ↦ omega (arith, kept_at v inside (omega arith))
  ]

  risen_most : (v : ℕ) → v < nodes → height numbers' v ≤ height numbers v + slack
  risen_most v inside = elim (cases_lt 0 (slice_index places v)) [
    | inl reached ↦ omega (arith, raised_at v inside reached)
    | inr out ↦ omega (arith, kept_at v inside (omega arith))
  ]

  -- a step is met still, where it does not leave the reached nodes or the raise is at most its slack
  meets_still : (k : ℕ) → k < length steps → MeetsStep (height numbers) (step_at steps k) →
      (0 < slice_index places (step_at steps k).from → slice_index places (step_at steps k).to ≡ 0 →
      height numbers (step_at steps k).from + (step_at steps k).up + slack ≤ height numbers (step_at steps k).to + (step_at steps k).down) →
      MeetsStep (height numbers') (step_at steps k)
  meets_still k inside meets leaves =
      let fits = all k inside in
      elim (cases_lt 0 (slice_index places (step_at steps k).from)) [
        | inl from ↦ elim (cases_lt 0 (slice_index places (step_at steps k).to)) [
          | inl to ↦ omega (arith, raised_at (step_at steps k).from fits.from from, raised_at (step_at steps k).to fits.to to, meets)
          | inr out ↦
              let apart : slice_index places (step_at steps k).to ≡ 0 = omega arith in
              omega (arith, raised_at (step_at steps k).from fits.from from, kept_at (step_at steps k).to fits.to apart, leaves from apart)
        ]
        | inr out ↦
            let apart : slice_index places (step_at steps k).from ≡ 0 = omega arith in
            omega (arith, kept_at (step_at steps k).from fits.from apart, risen_at (step_at steps k).to fits.to, meets)
      ]

  pub met_raised : AreMet steps amounts (height numbers')
  met_raised k inside opens =
      by_direction (λ j. j < length steps → IsResidual amounts (step_at steps j) → MeetsStep (height numbers') (step_at steps j)) arcs k
      (omega (arith, paired.two_for_each)) front_met back_met inside opens
    where
      front_met : (i : ℕ) → i < arcs → 2 * i < length steps → IsResidual amounts (along_at steps i) → MeetsStep (height numbers') (along_at steps i)
      front_met i front inside opens =
          let along = met_along arcs steps amounts numbers paired fit.met i front in
          meets_still (2 * i) inside (fit.met (2 * i) inside opens)
          (λ from to. let most = least (2 * i) (height numbers (along_at steps i).to - (height numbers (along_at steps i).from + (along_at steps i).up)) inside
          (record { inside = inside; along = paired.up i front; from = from; to = to; just = omega arith }) in
          omega arith)

      back_met : (i : ℕ) → i < arcs → 2 * i + 1 < length steps → IsResidual amounts (against_at steps i) →
          MeetsStep (height numbers') (against_at steps i)
      back_met i front inside opens =
          meets_still (2 * i + 1) inside (fit.met (2 * i + 1) inside opens)
          (λ from to.
          let some = back_some arcs steps amounts paired i front opens in
          let reached = passed_at nodes arcs reach steps amounts numbers want tree places all paired is passed (2 * i + 1) inside from
          (back_open arcs steps amounts numbers paired i front some) in
          absurd (omega (arith, reached, to)))

  -- what was passed can be passed still
  passable_still : (k : ℕ) → k < length steps → 0 < slice_index places (step_at steps k).from → 0 < slice_index places (step_at steps k).to →
      IsPassable amounts numbers (step_at steps k) → IsPassable amounts numbers' (step_at steps k)
  passable_still k inside from to can =
      let fits = all k inside in
      record {
        along = λ ups. omega (arith, can.along ups, raised_at (step_at steps k).from fits.from from, raised_at (step_at steps k).to fits.to to);
        against = can.against;
      }

  entry_reached : (j : ℕ) → j < length tree → 0 < slice_index places (entry_at tree j).node
  entry_reached j inside = omega (arith, is.at_place j inside)

  pub tree_raised : IsTree nodes steps amounts numbers' tree places
  tree_raised = record {
    some = is.some;
    inside = is.inside;
    rooms = is.rooms;
    most = is.most;
    each = λ j after inside.
        let was = is.each j after inside in
        record {
          earlier = was.earlier;
          inside = was.inside;
          from = was.from;
          to = was.to;
          passable = passable_still (entry_at tree j).step was.inside
              (subst (λ v. 0 < slice_index places v) (sym was.from) (entry_reached (entry_at tree j).parent (omega (arith, was.earlier))))
              (subst (λ v. 0 < slice_index places v) (sym was.to) (entry_reached j inside))
              was.passable;
          room = was.room;
        };
    one_for_each = is.one_for_each;
    at_place = is.at_place;
    within = is.within;
    placed = is.placed;
    count = is.count;
  }

  -- the step with the least slack is tight
  pub leaving_passable : IsPassable amounts numbers' (step_at steps step)
  leaving_passable =
      let fits = all step leaving.inside in
      record {
        along = λ _. omega (arith, raised_at (step_at steps step).from fits.from leaving.from, kept_at (step_at steps step).to fits.to leaving.to, leaving.just);
        against = λ level. absurd (omega (arith, level, leaving.along));
      }

  lacking_low : (v : ℕ) → v < nodes → 0 < slice_index want v → height numbers' v ≤ limit
  lacking_low v inside lacks = elim (cases_lt 0 (slice_index places v)) [
    | inl reached ↦ absurd (omega (arith, none v reached))
    | inr out ↦ omega (arith, kept_at v inside (omega arith), fit.lacking v inside lacks)
  ]

  -- a passable step climbs by at most the reach
  step_near : (k : ℕ) → k < length steps → IsPassable amounts numbers' (step_at steps k) →
      height numbers' (step_at steps k).to ≤ height numbers' (step_at steps k).from + reach
  step_near k inside can =
      by_direction (λ j. j < length steps → IsPassable amounts numbers' (step_at steps j) →
      height numbers' (step_at steps j).to ≤ height numbers' (step_at steps j).from + reach) arcs k
      (omega (arith, paired.two_for_each))
      (λ i front inside can. omega (arith, can.along (paired.up i front), (all (2 * i) inside).up))
      (λ i front _ _.
      let back = paired.back i front in
      let along = met_along arcs steps amounts numbers' paired met_raised i front in
      let end : height numbers' (against_at steps i).to ≡ height numbers' (along_at steps i).from = ap (height numbers') back.to in
      let start : height numbers' (against_at steps i).from ≡ height numbers' (along_at steps i).to = ap (height numbers') back.from in
      omega (arith, along, end, start))
      inside can

  -- above a height from the limit on that no node covers no reached node is
  module _ (low : ℕ) (low_most : limit ≤ low) (gap : (u : ℕ) → u < nodes → (low < height numbers' u) ⊎ (height numbers' u + reach ≤ low)) where
    above_near : (u v : ℕ) → u < nodes → low < height numbers' v → height numbers' v ≤ height numbers' u + reach → low < height numbers' u
    above_near u v inside above near = elim (gap u inside) [
      | inl there ↦ there
      | inr under ↦ absurd (omega (arith, above, near, under))
    ]

    above_first : (n j : ℕ) → j < n → j < length tree → low < height numbers' (entry_at tree j).node → low < height numbers' (entry_at tree 0).node
    above_first zero j less inside above = absurd (omega arith)
    above_first (suc n) j less inside above = elim (cases_lt 0 j) [
      | inl after ↦
          let was = tree_raised.each j after inside in
          let parent_in : (entry_at tree j).parent < length tree = omega (arith, was.earlier) in
          let near = step_near (entry_at tree j).step was.inside was.passable in
          let end : height numbers' (step_of_entry steps tree j).to ≡ height numbers' (entry_at tree j).node = ap (height numbers') was.to in
          let start : height numbers' (step_of_entry steps tree j).from ≡ height numbers' (entry_at tree (entry_at tree j).parent).node =
          ap (height numbers') was.from in
          above_first n (entry_at tree j).parent (omega (arith, was.earlier)) parent_in
          (above_near (entry_at tree (entry_at tree j).parent).node (entry_at tree j).node (is.inside _ parent_in) above
          (omega (arith, near, end, start)))
      | inr first ↦
          let here : j ≡ 0 = omega arith in
          subst (λ i. low < height numbers' (entry_at tree i).node) here above
    ]

    above_trap : (v : ℕ) → v < nodes → 0 < slice_index places v → low < height numbers' v →
        IsTrap nodes arcs steps amounts want (entry_at tree 0).node (λ u. height numbers' u - low)
    above_trap v inside reached above = record {
      begins =
          let place_in : slice_index places v - 1 < length tree = omega (arith, is.within v inside) in
          let up = above_first (suc (slice_index places v - 1)) (slice_index places v - 1) (omega arith) place_in
          (subst (λ u. low < height numbers' u) (sym (is.placed v inside reached)) above) in
          omega (arith, up);
      none_lacks = λ u u_in mark. elim (cases_lt 0 (slice_index want u)) [
        | inl lacks ↦ absurd (omega (arith, lacking_low u u_in lacks, mark))
        | inr filled ↦ omega arith
      ];
      none_leaves = λ k front mark. omega (arith, met_along arcs steps amounts numbers' paired met_raised k front, mark);
      none_enters = λ k front some mark.
          let inside' : 2 * k + 1 < length steps = omega (arith, paired.two_for_each) in
          let back = paired.back k front in
          let fits = all (2 * k) (omega (arith, paired.two_for_each)) in
          let meets = met_raised (2 * k + 1) inside' (back_is_open arcs steps amounts paired k front some) in
          let end : height numbers' (against_at steps k).to ≡ height numbers' (along_at steps k).from = ap (height numbers') back.to in
          let start : height numbers' (against_at steps k).from ≡ height numbers' (along_at steps k).to = ap (height numbers') back.from in
          let up = above_near (along_at steps k).from (along_at steps k).to fits.from (omega (arith, mark))
          (omega (arith, meets, end, start, back.up, back.down, fits.up)) in
          omega (arith, up);
    }

  low_raised : limit ≡ (nodes - 1) * reach → ((marks : ℕ → ℕ) → IsTrap nodes arcs steps amounts want (entry_at tree 0).node marks → ⊥) →
      (v : ℕ) → v < nodes → height numbers' v ≤ limit + limit
  low_raised limited no_trap v inside = elim (cases_lt 0 (slice_index places v)) [
    | inl reached ↦ elim (cases_lt (limit + limit) (height numbers' v)) [
      | inl high ↦
          let covered = closed_most reach (height numbers') nodes v inside in
          let found = uncovered reach (height numbers') nodes limit (height numbers' v) (omega (arith, covered, high, limited)) in
          absurd (no_trap _ (above_trap found.0 found.1 found.3 v inside reached found.2))
      | inr within ↦ within
    ]
    | inr out ↦ omega (arith, kept_at v inside (omega arith), fit.low v inside)
  ]

  pub fit_raised : limit ≡ (nodes - 1) * reach → ((marks : ℕ → ℕ) → IsTrap nodes arcs steps amounts want (entry_at tree 0).node marks → ⊥) →
      AreFit nodes limit steps amounts numbers' want
  fit_raised limited no_trap = record {
    one_for_each = raises.one_for_each ∙ fit.one_for_each;
    met = met_raised;
    low = low_raised limited no_trap;
    lacking = lacking_low;
  }

-- numbers that meet all arcs meet each step along one
pub met_step : (arcs : ℕ) (steps : List ResidualArc) (numbers : List ℕ) → ArePaired arcs steps →
    ((i : ℕ) → i < arcs → height numbers (along_at steps i).from + (along_at steps i).up ≤ height numbers (along_at steps i).to) →
    (k : ℕ) → k < length steps → 0 < (step_at steps k).up →
    height numbers (step_at steps k).from + (step_at steps k).up ≤ height numbers (step_at steps k).to
met_step arcs steps numbers paired met k inside along =
    let number = along_number arcs steps paired k inside along in
    subst (λ j. height numbers (step_at steps j).from + (step_at steps j).up ≤ height numbers (step_at steps j).to) (sym number.2)
    (met number.0 number.1)

-- the step just read leaves the reached nodes
pub leaves_at : (steps : List ResidualArc) (numbers places : List ℕ) (k : ℕ) (step : ResidualArc) → step ≡ step_at steps k → k < length steps → 0 < step.up →
    (slice_index places step.from ≡ 0 → ⊥) → slice_index places step.to ≤ 0 →
    height numbers (step_at steps k).from + (step_at steps k).up ≤ height numbers (step_at steps k).to →
    IsLeaving steps numbers places k (height numbers step.to - height numbers step.from - step.up)
leaves_at steps numbers places k step is inside along from to met =
    let from' : slice_index places (step_at steps k).from ≡ 0 → ⊥ = subst (λ (s : ResidualArc). slice_index places s.from ≡ 0 → ⊥) is from in
    let to' : slice_index places (step_at steps k).to ≤ 0 = subst (λ (s : ResidualArc). slice_index places s.to ≤ 0) is to in
    let along' : 0 < (step_at steps k).up = subst (λ (s : ResidualArc). 0 < s.up) is along in
    subst (λ (s : ResidualArc). IsLeaving steps numbers places k (height numbers s.to - height numbers s.from - s.up)) (sym is)
    (record { inside = inside; along = along'; from = omega (arith, from'); to = omega arith; just = omega (arith, met) })

-- a step that does not leave them changes nothing
pub least_same : (steps : List ResidualArc) (numbers places : List ℕ) (k : ℕ) (seen seen' : ℕ → Type 0) (least : Option Leaving) →
    ((j : ℕ) → seen' j → seen j ⊎ (j ≡ k)) → ((slack : ℕ) → IsLeaving steps numbers places k slack → ⊥) →
    IsLeastLeaving seen steps numbers places least → IsLeastLeaving seen' steps numbers places least
least_same steps numbers places k seen seen' None more stays was = λ j slack inside leaves.
    elim (more j inside) [
      | inl front ↦ was j slack front leaves
      | inr here ↦ stays slack (subst (λ i. IsLeaving steps numbers places i slack) here leaves)
    ]
least_same steps numbers places k seen seen' (Some least) more stays was = (
  was.0,
  λ j slack inside leaves. elim (more j inside) [
    | inl front ↦ was.1 j slack front leaves
    | inr here ↦ absurd (stays slack (subst (λ i. IsLeaving steps numbers places i slack) here leaves))
  ],
)

-- a step has one slack
one_slack : (steps : List ResidualArc) (numbers places : List ℕ) (j k slack other : ℕ) → j ≡ k →
    IsLeaving steps numbers places k slack → IsLeaving steps numbers places j other → slack ≡ other
one_slack steps numbers places j k slack other here leaves leaves' =
    let there = subst (λ i. IsLeaving steps numbers places i other) here leaves' in
    omega (arith, leaves.just, there.just)

-- the first step that leaves them
pub least_first : (steps : List ResidualArc) (numbers places : List ℕ) (k slack : ℕ) (seen seen' : ℕ → Type 0) →
    ((j : ℕ) → seen' j → seen j ⊎ (j ≡ k)) →
    IsLeaving steps numbers places k slack → IsLeastLeaving seen steps numbers places None →
    IsLeastLeaving seen' steps numbers places (Some (record { step = k; slack = slack }))
least_first steps numbers places k slack seen seen' more leaves none = (
  leaves,
  λ j other inside leaves'. elim (more j inside) [
    | inl front ↦ absurd (none j other front leaves')
    | inr here ↦ omega (arith, one_slack steps numbers places j k slack other here leaves leaves')
  ],
)

-- the lesser of two
pub least_lesser : (steps : List ResidualArc) (numbers places : List ℕ) (k slack : ℕ) (seen seen' : ℕ → Type 0) (least lesser : Leaving) →
    ((j : ℕ) → seen' j → seen j ⊎ (j ≡ k)) →
    IsLeaving steps numbers places k slack → IsLesser least k slack lesser → IsLeastLeaving seen steps numbers places (Some least) →
    IsLeastLeaving seen' steps numbers places (Some lesser)
least_lesser steps numbers places k slack seen seen' least lesser more leaves is was = (
  elim is.one [
    | inl same ↦ subst (λ (l : Leaving). IsLeaving steps numbers places l.step l.slack) (sym same) was.0
    | inr here ↦ subst (λ i. IsLeaving steps numbers places i lesser.slack) (sym here.0)
        (subst (λ x. IsLeaving steps numbers places k x) (sym here.1) leaves)
  ],
  λ j other inside leaves'. elim (more j inside) [
    | inl front ↦ omega (arith, was.1 j other front leaves', is.first)
    | inr here ↦ omega (arith, one_slack steps numbers places j k slack other here leaves leaves', is.second)
  ],
)

-- the least of more steps is the least of those of them that leave
pub least_within : (steps : List ResidualArc) (numbers places : List ℕ) (seen seen' : ℕ → Type 0) (least : Option Leaving) →
    ((k slack : ℕ) → IsLeaving steps numbers places k slack → seen' k → seen k) →
    IsLeastLeaving seen steps numbers places least → IsLeastLeaving seen' steps numbers places least
least_within steps numbers places seen seen' None more was = λ k slack inside leaves. was k slack (more k slack leaves inside) leaves
least_within steps numbers places seen seen' (Some least) more was =
    (was.0, λ k slack inside leaves. was.1 k slack (more k slack leaves inside) leaves)

-- one step more of the node is seen
pub seen_next : (steps : List ResidualArc) (places : List ℕ) (at node k j : ℕ) → IsScanned steps places at node k j →
    IsScanned steps places at node (k + 1) j ⊎ (j ≡ k)
seen_next steps places at node k j seen =
    elim seen [
      | inl before ↦ inl (inl before)
      | inr here ↦ elim (cases_eq j k) [
        | inl same ↦ inr same
        | inr apart ↦ inl (inr (here.0, omega (arith, here.1, apart)))
      ]
    ]

-- no step of the node is seen yet
pub least_begun : (nodes : ℕ) (steps : List ResidualArc) (numbers places last before : List ℕ) (at node : ℕ) (least : Option Leaving) →
    AreRows nodes (length steps) steps last before →
    IsLeastLeaving (IsScannedBefore steps places at) steps numbers places least →
    IsLeastLeaving (IsScanned steps places at node (slice_index last node)) steps numbers places least
least_begun nodes steps numbers places last before at node least rows was =
    least_within steps numbers places (IsScannedBefore steps places at) (IsScanned steps places at node (slice_index last node)) least
    (λ k slack leaves seen. elim seen [
      | inl seen_before ↦ seen_before
      | inr here ↦
          let all = rows.last_all k leaves.inside in
          absurd (omega (arith, here.1, subst (λ v. k < slice_index last v) here.0 all))
    ]) was

-- the steps of the node between two entries of its row are none
pub least_next : (nodes : ℕ) (steps : List ResidualArc) (numbers places last before : List ℕ) (at node k : ℕ) (least : Option Leaving) →
    AreRows nodes (length steps) steps last before → k < length steps → (step_at steps k).from ≡ node →
    IsLeastLeaving (IsScanned steps places at (step_at steps k).from k) steps numbers places least →
    IsLeastLeaving (IsScanned steps places at node (slice_index before k)) steps numbers places least
least_next nodes steps numbers places last before at node k least rows inside from was =
    least_within steps numbers places (IsScanned steps places at (step_at steps k).from k)
    (IsScanned steps places at node (slice_index before k)) least
    (λ j slack leaves seen. elim seen [
      | inl seen_before ↦ inl seen_before
      | inr here ↦ elim (cases_lt j k) [
        | inl less ↦ absurd (let all = rows.before_all j k less inside (here.0 ∙ sym from) in omega (arith, all, here.1))
        | inr behind ↦ inr (here.0 ∙ sym from, behind)
      ]
    ]) was

-- the steps of one entry more are seen
pub least_entry : (nodes arcs reach : ℕ) (steps : List ResidualArc) (numbers places : List ℕ) (tree : List Reached) (at : ℕ) (least : Option Leaving) →
    AreStepsWithin nodes arcs reach steps → ArePlaced nodes tree places → at < length tree →
    IsLeastLeaving (IsScanned steps places at (entry_at tree at).node 0) steps numbers places least →
    IsLeastLeaving (IsScannedBefore steps places (at + 1)) steps numbers places least
least_entry nodes arcs reach steps numbers places tree at least all placed inside was =
    least_within steps numbers places (IsScanned steps places at (entry_at tree at).node 0) (IsScannedBefore steps places (at + 1)) least
    (λ k slack leaves seen. elim (cases_lt at (slice_index places (step_at steps k).from)) [
      | inl last ↦
          let within = all k leaves.inside in
          let is = placed.placed (step_at steps k).from within.from leaves.from in
          let place : slice_index places (step_at steps k).from - 1 ≡ at = omega (arith, last, seen) in
          inr (sym is ∙ ap (λ j. (entry_at tree j).node) place, omega arith)
      | inr before ↦ inl before
    ]) was

-- the steps of all entries are all that leave
pub least_of_all : (nodes arcs reach : ℕ) (steps : List ResidualArc) (numbers places : List ℕ) (tree : List Reached) (count : ℕ) (least : Option Leaving) →
    AreStepsWithin nodes arcs reach steps → ArePlaced nodes tree places → count ≡ length tree →
    IsLeastLeaving (IsScannedBefore steps places count) steps numbers places least →
    IsLeastLeaving (λ k. k < length steps) steps numbers places least
least_of_all nodes arcs reach steps numbers places tree count least all placed is was =
    least_within steps numbers places (IsScannedBefore steps places count) (λ k. k < length steps) least
    (λ k slack leaves inside.
    let within = all k inside in
    omega (arith, is, placed.within (step_at steps k).from within.from)) was

-- no step is seen yet
pub least_none : (steps : List ResidualArc) (numbers places : List ℕ) → IsLeastLeaving (IsScannedBefore steps places 0) steps numbers places None
least_none steps numbers places k slack seen leaves = omega (arith, seen, leaves.from)

by_test : (b : Bool) (P Q : Type 0) → (b ≡ true → P) → (b ≡ false → Q) → MatchBool b P Q
by_test true P Q this that = this refl
by_test false P Q this that = that refl

-- slacks are low
pub slack_low : (nodes arcs reach : ℕ) (steps : List ResidualArc) (amounts numbers want places : List ℕ) (k slack : ℕ) → (nodes - 1) * reach ≤ 2 ^ 42 →
    AreStepsWithin nodes arcs reach steps → k < length steps → AreFit nodes ((nodes - 1) * reach) steps amounts numbers want →
    IsLeaving steps numbers places k slack → slack ≤ 2 ^ 60
slack_low nodes arcs reach steps amounts numbers want places k slack short all inside fit leaves =
    let end = fit.low (step_at steps k).to (all k inside).to in
    omega (arith, short, end, leaves.just)

-- fit numbers are low
pub fit_low : (nodes reach : ℕ) (steps : List ResidualArc) (amounts numbers want : List ℕ) → (nodes - 1) * reach ≤ 2 ^ 42 →
    AreFit nodes ((nodes - 1) * reach) steps amounts numbers want → (v : ℕ) → v < nodes → height numbers v ≤ 2 ^ 60
fit_low nodes reach steps amounts numbers want short fit v inside = omega (arith, short, fit.low v inside)

-- a trap around the first node of a grown search is one around that of the search
pub trap_grown : (nodes arcs : ℕ) (steps : List ResidualArc) (amounts want : List ℕ) (tree tree' : List Reached) (places places' : List ℕ) (marks : ℕ → ℕ) →
    0 < length tree → Grows tree places tree' places' → IsTrap nodes arcs steps amounts want (entry_at tree' 0).node marks →
    IsTrap nodes arcs steps amounts want (entry_at tree 0).node marks
trap_grown nodes arcs steps amounts want tree tree' places places' marks some grows trap =
    subst (λ (first : Reached). IsTrap nodes arcs steps amounts want first.node marks) (grows.kept 0 some) trap

-- whether the start lacks
pub planted_search : (want : List ℕ) (tree : List Reached) (places : List ℕ) (start : ℕ) → length tree ≡ 1 → (entry_at tree 0).node ≡ start →
    ((v : ℕ) → 0 < slice_index places v → v ≡ start) →
    MatchBool (ltb 0 (slice_index want start)) (0 < slice_index want (entry_at tree (length tree - 1)).node) (NoneLacks want places)
planted_search want tree places start one first only =
    by_test _ _ _
    (λ is_true.
    let last : length tree - 1 ≡ 0 = omega arith in
    subst (λ j. 0 < slice_index want (entry_at tree j).node) (sym last)
    (subst (λ v. 0 < slice_index want v) (sym first) (ltb-true 0 (slice_index want start) is_true)))
    (λ is_false v reached. subst (λ w. slice_index want w ≡ 0) (sym (only v reached))
    (omega (arith, ltb-false 0 (slice_index want start) is_false)))
