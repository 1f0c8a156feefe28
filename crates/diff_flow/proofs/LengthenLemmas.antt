-- Numbers that are raised from one node on.
use Rattle.std.proofs.Common.{◌≡◌, ℕ, suc, ◌+◌, ◌*◌, ◌<◌, ◌≤◌, ◌⊎◌, inl, inr, List, [], ◌∷◌, ◌++◌, length, get_or, set, replicate, refl, sym, ap, subst, ◌∙◌, arith}
use Rattle.std.proofs.lemmas.Bool.{cases_eq, cases_lt}
use Rattle.std.proofs.lemmas.List.{length-set, length_push, get_or_append_left, get_or_push, get_or-replicate, length-replicate}
use Rattle.diff_flow.specs.declared.steps.ResidualArc.{ResidualArc}
use Rattle.diff_flow.specs.inner.Steps.{step_at, along_at, AreStepsWithin, AreRows, ArePaired, MeetsStep, AreMet}
use Rattle.diff_flow.specs.inner.Numbers.{height, IsInList, IsLift, AreListed, Waits, AreLate, NoneLate}
use Rattle.diff_flow.specs.inner.Routing.{AreFirst}
use Rattle.diff_flow.specs.inner.Lengthening.{MeetsAlong, StayBelow, NoneAbove, ClimbTo, Lengthens, AreLengthened}
use Rattle.diff_flow.proofs.SetLemmas.{by_write}
use Rattle.diff_flow.proofs.LabelLemmas.{raise_shortens, in_first, listed_taken}

-- numbers that meet all arcs meet each step along one
pub along_met : (steps : List ResidualArc) (others : ℕ → ℕ) (k : ℕ) → AreMet steps [] others → k < length steps → 0 < (step_at steps k).up →
    MeetsStep others (step_at steps k)
along_met steps others k met inside up = met k inside (omega (arith, up))

pub below_then : (nodes : ℕ) (steps : List ResidualArc) (a b c : List ℕ) → StayBelow nodes steps a b → StayBelow nodes steps b c → StayBelow nodes steps a c
below_then nodes steps a b c first second others met low = second others met (first others met low)

pub none_then : (nodes : ℕ) (steps : List ResidualArc) (limit : ℕ) (a b : List ℕ) → StayBelow nodes steps a b → NoneAbove nodes steps limit b →
    NoneAbove nodes steps limit a
none_then nodes steps limit a b below none others met low within = none others met (below others met low) within

-- the start is the only one in the queue
pub lengthens_begun : (nodes : ℕ) (steps : List ResidualArc) (limit start : ℕ) (numbers waits queue waits' queue' : List ℕ) →
    length numbers ≡ nodes → ((v : ℕ) → v < nodes → height numbers v ≤ limit) →
    ((k : ℕ) → k < length steps → ((step_at steps k).from ≡ start → ⊥) → MeetsAlong numbers (step_at steps k)) →
    queue ≡ [] → Waits nodes start waits queue waits' queue' → ((v : ℕ) → IsInList queue' v → (v ≡ start) ⊎ IsInList queue v) → Lengthens nodes steps limit start numbers waits' queue' NoneLate
lengthens_begun nodes steps limit start numbers waits queue waits' queue' all low met none more only = record {
  one_for_each = all;
  inside = low;
  lists = more.lists;
  met = λ k inside. elim (cases_eq (step_at steps k).from start) [
    | inl here ↦ inl (subst (λ v. 0 < get_or waits' v 0) (sym here) more.here)
    | inr apart ↦ inr (inl (met k inside apart))
  ];
  climb = λ v is others met'. elim (only v is) [
    | inl here ↦
        let a : height numbers v ≡ height numbers start = ap (height numbers) here in
        let b : others v ≡ others start = ap others here in
        omega (arith, a, b)
    | inr before ↦ absurd (omega (arith, before.1, ap length none))
  ];
}

pub none_waits : (nodes : ℕ) (waits queue : List ℕ) → waits ≡ replicate {A = ℕ} nodes 0 → queue ≡ [] → AreListed (length waits) waits queue
none_waits nodes waits queue flags none = record {
  flags = refl;
  listed = λ v v_in some.
      let inside : v < nodes = omega (arith, v_in, ap length flags, length-replicate {A = ℕ} nodes 0) in
      let zero_at = get_or-replicate {A = ℕ} nodes v 0 0 inside in
      let flag : get_or waits v 0 ≡ get_or (replicate {A = ℕ} nodes 0) v 0 = ap (λ xs. get_or xs v 0) flags in
      absurd (omega (arith, some, flag, zero_at));
  nodes_only = λ k k_in. absurd (omega (arith, k_in, ap length none));
}

-- what is in a list after a push
pub out_of_pushed : (xs : List ℕ) (x v : ℕ) → IsInList (xs ++ x ∷ []) v → (v ≡ x) ⊎ IsInList xs v
out_of_pushed xs x v found =
    elim (cases_lt found.0 (length xs)) [
      | inl front ↦ inr (found.0, front, sym (get_or_append_left xs (x ∷ []) 0 found.0 front) ∙ found.2)
      | inr back ↦
          let last : found.0 ≡ length xs = omega (arith, back, found.1, length_push xs x) in
          inl (sym found.2 ∙ get_or_push xs x 0 found.0 (sym last))
    ]

-- what is behind the first of the queue
in_behind : (queue queue' : List ℕ) (node v : ℕ) → queue ≡ node ∷ queue' → IsInList queue' v → IsInList queue v
in_behind queue queue' node v taken is = subst (λ xs. IsInList xs v) (sym taken) (suc is.0, omega (arith, is.1), is.2)

-- the first of the queue is taken, and its steps are late
pub lengthens_taken : (nodes : ℕ) (steps : List ResidualArc) (limit start : ℕ) (numbers waits queue queue' : List ℕ) (node : ℕ) →
    queue ≡ node ∷ queue' → Lengthens nodes steps limit start numbers waits queue NoneLate →
    Lengthens nodes steps limit start numbers (set waits node 0) queue' (AreLate steps node (length steps))
lengthens_taken nodes steps limit start numbers waits queue queue' node taken is = record {
  one_for_each = is.one_for_each;
  inside = is.inside;
  lists = listed_taken nodes waits queue queue' node taken is.lists;
  met = λ j j_in. elim (is.met j j_in) [
    | inl waits_now ↦ elim (cases_eq (step_at steps j).from node) [
      | inl here ↦ inr (inr (here, j_in))
      | inr apart ↦ inl (by_write (λ x. 0 < x) waits node (step_at steps j).from 0 flag_in (λ here. absurd (apart here)) (λ _. waits_now))
    ]
    | inr (inl meets) ↦ inr (inl meets)
    | inr (inr late) ↦ absurd late
  ];
  climb = λ v inside. is.climb v (in_behind queue queue' node v taken inside);
}
  where
    flag_in : node < length waits
    flag_in =
        let first = in_first queue queue' node taken in
        let low = is.lists.nodes_only first.0 first.1 in
        omega (arith, low, first.2, is.lists.flags)

-- the last step of the node
pub lengthens_last : (nodes : ℕ) (steps : List ResidualArc) (limit start : ℕ) (numbers waits queue last before : List ℕ) (node : ℕ) →
    AreRows nodes (length steps) steps last before →
    Lengthens nodes steps limit start numbers waits queue (AreLate steps node (length steps)) →
    Lengthens nodes steps limit start numbers waits queue (AreLate steps node (get_or last node 0))
lengthens_last nodes steps limit start numbers waits queue last before node rows is = record {
  one_for_each = is.one_for_each;
  inside = is.inside;
  lists = is.lists;
  met = λ j j_in. elim (is.met j j_in) [
    | inl waits_now ↦ inl waits_now
    | inr (inl meets) ↦ inr (inl meets)
    | inr (inr late) ↦ inr (inr (late.0, subst (λ v. j < get_or last v 0) late.0 (rows.last_all j j_in)))
  ];
  climb = is.climb;
}

-- the next step of the node
pub lengthens_next : (nodes : ℕ) (steps : List ResidualArc) (limit start : ℕ) (numbers waits queue last before : List ℕ) (node k : ℕ) →
    AreRows nodes (length steps) steps last before → k < length steps → (step_at steps k).from ≡ node →
    Lengthens nodes steps limit start numbers waits queue (AreLate steps (step_at steps k).from k) →
    Lengthens nodes steps limit start numbers waits queue (AreLate steps node (get_or before k 0))
lengthens_next nodes steps limit start numbers waits queue last before node k rows inside from is = record {
  one_for_each = is.one_for_each;
  inside = is.inside;
  lists = is.lists;
  met = λ j j_in. elim (is.met j j_in) [
    | inl waits_now ↦ inl waits_now
    | inr (inl meets) ↦ inr (inl meets)
    | inr (inr late) ↦ inr (inr (late.0 ∙ from, rows.before_all j k late.1 inside late.0))
  ];
  climb = is.climb;
}

-- no step is left
pub lengthens_all : (nodes : ℕ) (steps : List ResidualArc) (limit start : ℕ) (numbers waits queue : List ℕ) (node entry : ℕ) → entry ≡ 0 →
    Lengthens nodes steps limit start numbers waits queue (AreLate steps node entry) →
    Lengthens nodes steps limit start numbers waits queue NoneLate
lengthens_all nodes steps limit start numbers waits queue node entry none is = record {
  one_for_each = is.one_for_each;
  inside = is.inside;
  lists = is.lists;
  met = λ j j_in. elim (is.met j j_in) [
    | inl waits_now ↦ inl waits_now
    | inr (inl meets) ↦ inr (inl meets)
    | inr (inr late) ↦ absurd (omega (arith, late.1, none))
  ];
  climb = is.climb;
}

-- no node waits
pub lengthens_done : (nodes arcs reach : ℕ) (steps : List ResidualArc) (limit start : ℕ) (numbers waits queue : List ℕ) →
    AreStepsWithin nodes arcs reach steps → ArePaired arcs steps → length queue ≡ 0 →
    Lengthens nodes steps limit start numbers waits queue NoneLate → AreFirst nodes arcs limit steps numbers
lengthens_done nodes arcs reach steps limit start numbers waits queue all paired none is = record {
  one_for_each = is.one_for_each;
  low = is.inside;
  met = λ i i_in.
      let k_in : 2 * i < length steps = omega (arith, i_in, paired.two_for_each) in
      elim (is.met (2 * i) k_in) [
        | inl waits_now ↦ absurd (let found = is.lists.listed (along_at steps i).from (all (2 * i) k_in).from waits_now in omega (arith, found.1, none))
        | inr (inl meets) ↦ let is_met = meets (paired.up i i_in) in omega (arith, is_met, paired.level i i_in)
        | inr (inr late) ↦ absurd late
      ];
}

-- at one step
module _ (nodes arcs reach : ℕ) (steps : List ResidualArc) (limit start : ℕ) (numbers waits queue : List ℕ)
    (all : AreStepsWithin nodes arcs reach steps) (k : ℕ) (inside : k < length steps) (start_in : start < nodes)
    (is : Lengthens nodes steps limit start numbers waits queue (AreLate steps (step_at steps k).from (k + 1)))
    (climb : ClimbTo steps start numbers (step_at steps k).from) where
  -- the step is met already, or leads against an arc
  pub over_kept : (new : List ℕ) → new ≡ numbers → MeetsAlong numbers (step_at steps k) →
      AreLengthened nodes steps limit start (step_at steps k).from numbers queue new waits queue (AreLate steps (step_at steps k).from k)
  over_kept new same kept =
      subst (λ xs. AreLengthened nodes steps limit start (step_at steps k).from numbers queue xs waits queue (AreLate steps (step_at steps k).from k))
      (sym same)
      (record {
        state = record {
          one_for_each = is.one_for_each;
          inside = is.inside;
          lists = is.lists;
          met = λ j j_in. elim (is.met j j_in) [
            | inl waits_now ↦ inl waits_now
            | inr (inl meets) ↦ inr (inl meets)
            | inr (inr late) ↦ elim (cases_lt j k) [
              | inl before ↦ inr (inr (late.0, before))
              | inr behind ↦ let here : k ≡ j = omega (arith, late.1) in
                  inr (inl (subst (λ i. MeetsAlong numbers (step_at steps i)) here kept))
            ]
          ];
          climb = is.climb;
        };
        climb = climb;
        below = λ others met low. low;
        shorter = omega arith;
      })

  -- a number above the limit
  pub over_too_high : 0 < (step_at steps k).up → limit + (step_at steps k).down < height numbers (step_at steps k).from + (step_at steps k).up →
      NoneAbove nodes steps limit numbers
  over_too_high up high others met low within =
      let fits = all k inside in
      let meets = along_met steps others k met inside up in
      let from = low (step_at steps k).from fits.from in
      let to = within (step_at steps k).to fits.to in
      omega (arith, high, meets, from, to)

  module _ (new : List ℕ) (most : ℕ) (up : 0 < (step_at steps k).up) (lifted : IsLift (step_at steps k) numbers new most) where
    to_in : (step_at steps k).to < length numbers
    to_in = omega (arith, (all k inside).to, is.one_for_each)

    kept_at : (v : ℕ) → (v ≡ (step_at steps k).to → ⊥) → height new v ≡ height numbers v
    kept_at v apart = rw lifted.written (by_write (λ x. x ≡ height numbers v) numbers (step_at steps k).to v most to_in (λ same. absurd (apart same)) (λ _. refl))

    risen_at : (v : ℕ) → height numbers v ≤ height new v
    risen_at v = rw lifted.written (by_write (λ x. height numbers v ≤ x) numbers (step_at steps k).to v most to_in
        (λ same. subst (λ w. height numbers w ≤ most) (sym same) (omega (arith, lifted.higher))) (λ _. omega arith))

    end_is : height new (step_at steps k).to ≡ most
    end_is = rw lifted.written (by_write (λ x. x ≡ most) numbers (step_at steps k).to (step_at steps k).to most to_in (λ _. refl) (λ apart. absurd (apart refl)))

    -- the number of the start would have to rise
    pub over_start : (step_at steps k).to ≡ start → NoneAbove nodes steps limit numbers
    over_start same others met low within =
        let meets = along_met steps others k met inside up in
        let climbs = climb others met in
        let a : height numbers (step_at steps k).to ≡ height numbers start = ap (height numbers) same in
        let b : others (step_at steps k).to ≡ others start = ap others same in
        omega (arith, meets, climbs, a, b, lifted.just, lifted.higher)

    -- the number at its end is raised, and its node waits
    pub over_raised : (waits' queue' : List ℕ) → most ≤ limit → ((step_at steps k).to ≡ start → ⊥) →
        Waits nodes (step_at steps k).to waits queue waits' queue' → ((v : ℕ) → IsInList queue' v → (v ≡ (step_at steps k).to) ⊎ IsInList queue v) →
        AreLengthened nodes steps limit start (step_at steps k).from numbers queue new waits' queue' (AreLate steps (step_at steps k).from k)
    over_raised waits' queue' within apart more only = record {
      state = record {
        one_for_each = ap length lifted.written ∙ length-set numbers (step_at steps k).to most ∙ is.one_for_each;
        inside = λ v v_in. rw lifted.written (by_write (λ x. x ≤ limit) numbers (step_at steps k).to v most to_in (λ _. within) (λ _. is.inside v v_in));
        lists = more.lists;
        met = λ j j_in. elim (cases_eq (step_at steps j).from (step_at steps k).to) [
          | inl same ↦ inl (subst (λ v. 0 < get_or waits' v 0) (sym same) more.here)
          | inr other ↦
              let from_is = kept_at (step_at steps j).from other in
              let to_up = risen_at (step_at steps j).to in
              elim (is.met j j_in) [
                | inl waits_now ↦ inl (more.still _ waits_now)
                | inr (inl meets) ↦ inr (inl (λ some. let was = meets some in omega (arith, from_is, to_up, was)))
                | inr (inr late) ↦ elim (cases_lt j k) [
                  | inl before ↦ inr (inr (late.0, before))
                  | inr behind ↦
                      let here : k ≡ j = omega (arith, late.1) in
                      inr (inl (subst (λ i. height new (step_at steps i).from ≡ height numbers (step_at steps i).from → MeetsAlong new (step_at steps i))
                      here just from_is))
                ]
              ]
        ];
        climb = λ v in_queue. elim (cases_eq v (step_at steps k).to) [
          | inl here ↦ subst (ClimbTo steps start new) (sym here) climb_end
          | inr other ↦ climb_kept v other (elim (only v in_queue) [ inl here ↦ absurd (other here) | inr before ↦ is.climb v before ])
        ];
      };
      climb = elim (cases_eq (step_at steps k).from (step_at steps k).to) [
        | inl here ↦ subst (ClimbTo steps start new) (sym here) climb_end
        | inr other ↦ climb_kept (step_at steps k).from other climb
      ];
      below = λ others met low v v_in. rw lifted.written (by_write (λ x. x ≤ others v) numbers (step_at steps k).to v most to_in
          (λ here. let meets = along_met steps others k met inside up in
          let from = low (step_at steps k).from (all k inside).from in
          let end : most ≤ others (step_at steps k).to = omega (arith, meets, from, lifted.just) in
          subst (λ w. most ≤ others w) (sym here) end)
          (λ _. low v v_in));
      shorter = raise_shortens (step_at steps k) numbers new queue queue' most to_in lifted more.one_more;
    }
      where
        just : height new (step_at steps k).from ≡ height numbers (step_at steps k).from → MeetsAlong new (step_at steps k)
        just from_is some = omega (arith, from_is, end_is, lifted.just)

        start_is : height new start ≡ height numbers start
        start_is = kept_at start (λ same. apart (sym same))

        climb_kept : (v : ℕ) → (v ≡ (step_at steps k).to → ⊥) → ClimbTo steps start numbers v → ClimbTo steps start new v
        climb_kept v other was others met =
            let climbs = was others met in
            omega (arith, climbs, start_is, kept_at v other)

        climb_end : ClimbTo steps start new (step_at steps k).to
        climb_end others met =
            let meets = along_met steps others k met inside up in
            let climbs = climb others met in
            omega (arith, meets, climbs, start_is, end_is, lifted.just)

-- one step of the node more
pub lengthened_next : (nodes : ℕ) (steps : List ResidualArc) (limit start : ℕ) (last before : List ℕ) (node k : ℕ)
    (old queue numbers waits1 queue1 new waits2 queue2 : List ℕ) (late : ℕ → Type 0) →
    AreRows nodes (length steps) steps last before → k < length steps → (step_at steps k).from ≡ node →
    AreLengthened nodes steps limit start node old queue numbers waits1 queue1 late →
    AreLengthened nodes steps limit start (step_at steps k).from numbers queue1 new waits2 queue2 (AreLate steps (step_at steps k).from k) →
    AreLengthened nodes steps limit start node old queue new waits2 queue2 (AreLate steps node (get_or before k 0))
lengthened_next nodes steps limit start last before node k old queue numbers waits1 queue1 new waits2 queue2 late rows inside from first second = record {
  state = lengthens_next nodes steps limit start new waits2 queue2 last before node k rows inside from second.state;
  climb = subst (ClimbTo steps start new) from second.climb;
  below = below_then nodes steps old numbers new first.below second.below;
  shorter = omega (arith, first.shorter, second.shorter);
}

-- all steps of the node are done
pub lengthened_all : (nodes : ℕ) (steps : List ResidualArc) (limit start node entry : ℕ) (old queue new waits' queue' : List ℕ) → entry ≡ 0 →
    AreLengthened nodes steps limit start node old queue new waits' queue' (AreLate steps node entry) →
    AreLengthened nodes steps limit start node old queue new waits' queue' NoneLate
lengthened_all nodes steps limit start node entry old queue new waits' queue' none is = record {
  state = lengthens_all nodes steps limit start new waits' queue' node entry none is.state;
  climb = is.climb;
  below = is.below;
  shorter = is.shorter;
}

-- none of the node is done yet
pub lengthened_first : (nodes : ℕ) (steps : List ResidualArc) (limit start node : ℕ) (numbers waits queue : List ℕ) (late : ℕ → Type 0) →
    Lengthens nodes steps limit start numbers waits queue late → ClimbTo steps start numbers node →
    AreLengthened nodes steps limit start node numbers queue numbers waits queue late
lengthened_first nodes steps limit start node numbers waits queue late is climb = record {
  state = is;
  climb = climb;
  below = λ others met low. low;
  shorter = omega arith;
}
