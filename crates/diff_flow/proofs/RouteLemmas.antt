-- Amounts on their way.
use Rattle.std.proofs.Common.{◌≡◌, ℕ, ◌+◌, ◌-◌, ◌*◌, ◌<◌, ◌≤◌, ◌⊎◌, inl, inr, pos, List, length, get_or, set, refl, sym, ap, subst, ◌∙◌, arith}
use Rattle.std.specs.Prelude.{◌+ℤ◌, ◌-ℤ◌}
use Rattle.std.proofs.lemmas.Int.{ints}
use Rattle.std.proofs.lemmas.Bool.{cases_eq, cases_lt}
use Rattle.std.proofs.lemmas.List.{get_or-set_same, get_or-set_other}
use Rattle.compact_types.proofs.Laws.{sum_to-changed}
use Rattle.shape_graphs.specs.Flows.{amount_at, at_node}
use Rattle.diff_flow.specs.declared.steps.ResidualArc.{ResidualArc}
use Rattle.diff_flow.specs.declared.tree.Reached.{Reached}
use Rattle.diff_flow.specs.inner.Steps.{step_at, along_at, ArePaired}
use Rattle.diff_flow.specs.inner.Numbers.{height}
use Rattle.diff_flow.specs.inner.Search.{entry_at, step_of_entry, IsTree}
use Rattle.diff_flow.specs.inner.Routing.{net_by, IsSpread, IsSent, IsMoved}
use Rattle.diff_flow.proofs.Duality.{at_same, at_other}
use Rattle.diff_flow.proofs.FlowLemmas.{at_cases}
use Rattle.diff_flow.proofs.StepLemmas.{by_direction}

-- what a node has after a change
pub set_more : (xs : List ℕ) (i v a : ℕ) → i < length xs →
    pos (get_or (set xs i (get_or xs i 0 + a)) v 0) ≡ pos (get_or xs v 0) +ℤ at_node i v (pos a)
set_more xs i v a inside =
    elim (cases_eq v i) [
      | inl same ↦
          let here : get_or (set xs i (get_or xs i 0 + a)) i 0 ≡ get_or xs i 0 + a = get_or-set_same xs i _ 0 inside in
          let there = at_same i (pos a) in
          let is : pos (get_or (set xs i (get_or xs i 0 + a)) i 0) ≡ pos (get_or xs i 0) +ℤ at_node i i (pos a) = omega (arith, ints, here, there) in
          rw same is
      | inr apart ↦
          let here : get_or (set xs i (get_or xs i 0 + a)) v 0 ≡ get_or xs v 0 = get_or-set_other xs i v _ 0 apart in
          let there = at_other i v (pos a) (λ e. apart (sym e)) in
          omega (arith, ints, here, there)
    ]

pub set_less : (xs : List ℕ) (i v a : ℕ) → i < length xs → a ≤ get_or xs i 0 →
    pos (get_or (set xs i (get_or xs i 0 - a)) v 0) +ℤ at_node i v (pos a) ≡ pos (get_or xs v 0)
set_less xs i v a inside some =
    elim (cases_eq v i) [
      | inl same ↦
          let here : get_or (set xs i (get_or xs i 0 - a)) i 0 ≡ get_or xs i 0 - a = get_or-set_same xs i _ 0 inside in
          let there = at_same i (pos a) in
          let is : pos (get_or (set xs i (get_or xs i 0 - a)) i 0) +ℤ at_node i i (pos a) ≡ pos (get_or xs i 0) = omega (arith, ints, here, there, some) in
          rw same is
      | inr apart ↦
          let here : get_or (set xs i (get_or xs i 0 - a)) v 0 ≡ get_or xs v 0 = get_or-set_other xs i v _ 0 apart in
          let there = at_other i v (pos a) (λ e. apart (sym e)) in
          omega (arith, ints, here, there)
    ]

-- what comes in at a node where one amount is another
pub net_changed : (arcs : ℕ) (steps : List ResidualArc) (amounts amounts' : List ℕ) (i v : ℕ) → i < arcs →
    ((j : ℕ) → (j ≡ i → ⊥) → amount_at amounts' j ≡ amount_at amounts j) →
    net_by steps arcs amounts' v +ℤ (at_node (along_at steps i).to v (pos (amount_at amounts i)) -ℤ at_node (along_at steps i).from v (pos (amount_at amounts i)))
    ≡ net_by steps arcs amounts v +ℤ (at_node (along_at steps i).to v (pos (amount_at amounts' i)) -ℤ at_node (along_at steps i).from v (pos (amount_at amounts' i)))
net_changed arcs steps amounts amounts' i v inside others =
    sum_to-changed _ _ arcs i inside (λ j below apart.
    ap (λ x. at_node (along_at steps j).to v (pos x) -ℤ at_node (along_at steps j).from v (pos x)) (others j apart))

at_none : (a b : ℕ) → at_node a b (pos 0) ≡ pos 0
at_none a b = at_cases a b (λ f. f (pos 0) ≡ pos 0) refl refl

pub at_sum : (a b x y z : ℕ) → z ≡ x + y → at_node a b (pos z) ≡ at_node a b (pos x) +ℤ at_node a b (pos y)
at_sum a b x y z e = at_cases a b (λ f. f (pos z) ≡ f (pos x) +ℤ f (pos y)) (omega (arith, ints, e)) (omega (arith, ints))

-- an amount that is dropped is in excess where its arc begins, and lacking where it ends
pub kept_dropped : (nodes arcs : ℕ) (steps : List ResidualArc) (given amounts over want : List ℕ) (i from to : ℕ) →
    i < arcs → length amounts ≡ arcs → from ≡ (along_at steps i).from → to ≡ (along_at steps i).to → from < length over → to < length want →
    IsSpread nodes arcs steps given amounts over want →
    IsSpread nodes arcs steps given (set amounts i 0) (set over from (get_or over from 0 + get_or amounts i 0))
    (set want to (get_or want to 0 + get_or amounts i 0))
kept_dropped nodes arcs steps given amounts over want i from to inside all is_from is_to from_in to_in spread v v_in =
    let before = spread v v_in in
    let changed = net_changed arcs steps amounts (set amounts i 0) i v inside (λ j apart. get_or-set_other amounts i j 0 0 apart) in
    let none : get_or (set amounts i 0) i 0 ≡ 0 = get_or-set_same amounts i 0 0 (omega arith) in
    let none_to : at_node (along_at steps i).to v (pos (amount_at (set amounts i 0) i)) ≡ pos 0 =
    ap (λ x. at_node (along_at steps i).to v (pos x)) none ∙ at_none _ v in
    let none_from : at_node (along_at steps i).from v (pos (amount_at (set amounts i 0) i)) ≡ pos 0 =
    ap (λ x. at_node (along_at steps i).from v (pos x)) none ∙ at_none _ v in
    let more_over = set_more over from v (get_or amounts i 0) from_in in
    let more_want = set_more want to v (get_or amounts i 0) to_in in
    let at_from : at_node from v (pos (get_or amounts i 0)) ≡ at_node (along_at steps i).from v (pos (get_or amounts i 0)) =
    ap (λ w. at_node w v (pos (get_or amounts i 0))) is_from in
    let at_to : at_node to v (pos (get_or amounts i 0)) ≡ at_node (along_at steps i).to v (pos (get_or amounts i 0)) =
    ap (λ w. at_node w v (pos (get_or amounts i 0))) is_to in
    omega (arith, ints, before, changed, none_to, none_from, more_over, more_want, at_from, at_to)

-- an amount that is sent is less in excess where it starts, and lacks less where it arrives
pub kept_moved : (nodes arcs : ℕ) (steps : List ResidualArc) (amount start goal : ℕ) (numbers given amounts amounts' over want : List ℕ) →
    IsMoved nodes arcs steps amount start goal numbers amounts amounts' →
    start < length over → amount ≤ get_or over start 0 → goal < length want → amount ≤ get_or want goal 0 →
    IsSpread nodes arcs steps given amounts over want →
    IsSpread nodes arcs steps given amounts' (set over start (get_or over start 0 - amount)) (set want goal (get_or want goal 0 - amount))
kept_moved nodes arcs steps amount start goal numbers given amounts amounts' over want moved start_in start_some goal_in goal_some spread v v_in =
    let before = spread v v_in in
    let net = moved.net v v_in in
    let less_over = set_less over start v amount start_in start_some in
    let less_want = set_less want goal v amount goal_in goal_some in
    omega (arith, ints, before, net, less_over, less_want)

-- steps by their direction
module _ (arcs : ℕ) (steps : List ResidualArc) (paired : ArePaired arcs steps) where
  -- which step it is
  pub by_arc : (k : ℕ) → k < length steps → (i : ℕ) × (i < arcs) × ((2 * i ≡ k) ⊎ (2 * i + 1 ≡ k))
  by_arc k inside =
      by_direction (λ j. (i : ℕ) × (i < arcs) × ((2 * i ≡ j) ⊎ (2 * i + 1 ≡ j))) arcs k (omega (arith, paired.two_for_each))
      (λ i i_in. (i, i_in, inl refl)) (λ i i_in. (i, i_in, inr refl))

  pub along_number : (k : ℕ) → k < length steps → 0 < (step_at steps k).up → (i : ℕ) × (i < arcs) × (k ≡ 2 * i) × ((step_at steps k).arc ≡ i)
  along_number k inside some =
      let is = by_arc k inside in
      elim is.2 [
        | inl even ↦ (is.0, is.1, sym even, subst (λ j. (step_at steps j).arc ≡ is.0) even (paired.number is.0 is.1))
        | inr odd ↦
            let none : (step_at steps k).up ≡ 0 = subst (λ j. (step_at steps j).up ≡ 0) odd (paired.back is.0 is.1).up in
            absurd (omega (arith, none, some))
      ]

  pub against_number : (k : ℕ) → k < length steps → (step_at steps k).up ≡ 0 → (i : ℕ) × (i < arcs) × (k ≡ 2 * i + 1) × ((step_at steps k).arc ≡ i)
  against_number k inside none =
      let is = by_arc k inside in
      elim is.2 [
        | inl even ↦
            let some : 0 < (step_at steps k).up = subst (λ j. 0 < (step_at steps j).up) even (paired.up is.0 is.1) in
            absurd (omega (arith, some, none))
        | inr odd ↦ (
          is.0,
          is.1,
          sym odd,
          subst (λ j. (step_at steps j).arc ≡ is.0) odd ((paired.back is.0 is.1).arc ∙ paired.number is.0 is.1),
        )
      ]

  -- two steps over one arc in one direction are one
  pub one_along : (k l : ℕ) → k < length steps → l < length steps → 0 < (step_at steps k).up → 0 < (step_at steps l).up →
      (step_at steps k).arc ≡ (step_at steps l).arc → k ≡ l
  one_along k l k_in l_in k_up l_up same =
      let a = along_number k k_in k_up in
      let b = along_number l l_in l_up in
      omega (arith, a.2, a.3, b.2, b.3, same)

  pub one_against : (k l : ℕ) → k < length steps → l < length steps → (step_at steps k).up ≡ 0 → (step_at steps l).up ≡ 0 →
      (step_at steps k).arc ≡ (step_at steps l).arc → k ≡ l
  one_against k l k_in l_in k_up l_up same =
      let a = against_number k k_in k_up in
      let b = against_number l l_in l_up in
      omega (arith, a.2, a.3, b.2, b.3, same)

  -- what is sent over a step leaves where it begins, and comes in where it ends
  pub net_sent : (k amount v : ℕ) (amounts amounts' : List ℕ) → k < length steps → IsSent (step_at steps k) amount amounts amounts' →
      net_by steps arcs amounts' v +ℤ at_node (step_at steps k).from v (pos amount)
      ≡ net_by steps arcs amounts v +ℤ at_node (step_at steps k).to v (pos amount)
  net_sent k amount v amounts amounts' inside sent =
      elim (cases_lt 0 (step_at steps k).up) [
        | inl some ↦
            let number = along_number k inside some in
            let arc : (step_at steps k).arc ≡ number.0 = number.3 in
            let is : amount_at amounts' number.0 ≡ amount_at amounts number.0 + amount =
            subst (λ j. amount_at amounts' j ≡ amount_at amounts j + amount) arc (sent.along some) in
            let changed = net_changed arcs steps amounts amounts' number.0 v number.1 (λ j apart. sent.others j (λ e. apart (e ∙ arc))) in
            let to = at_sum (along_at steps number.0).to v (amount_at amounts number.0) amount (amount_at amounts' number.0) is in
            let from = at_sum (along_at steps number.0).from v (amount_at amounts number.0) amount (amount_at amounts' number.0) is in
            let step_from : at_node (step_at steps k).from v (pos amount) ≡ at_node (along_at steps number.0).from v (pos amount) =
            ap (λ j. at_node (step_at steps j).from v (pos amount)) number.2 in
            let step_to : at_node (step_at steps k).to v (pos amount) ≡ at_node (along_at steps number.0).to v (pos amount) =
            ap (λ j. at_node (step_at steps j).to v (pos amount)) number.2 in
            omega (arith, ints, changed, to, from, step_from, step_to)
        | inr none ↦
            let up : (step_at steps k).up ≡ 0 = omega arith in
            let number = against_number k inside up in
            let arc : (step_at steps k).arc ≡ number.0 = number.3 in
            let is : amount_at amounts' number.0 + amount ≡ amount_at amounts number.0 =
            subst (λ j. amount_at amounts' j + amount ≡ amount_at amounts j) arc (sent.against up) in
            let changed = net_changed arcs steps amounts amounts' number.0 v number.1 (λ j apart. sent.others j (λ e. apart (e ∙ arc))) in
            let to = at_sum (along_at steps number.0).to v (amount_at amounts' number.0) amount (amount_at amounts number.0) (sym is) in
            let from = at_sum (along_at steps number.0).from v (amount_at amounts' number.0) amount (amount_at amounts number.0) (sym is) in
            let back = paired.back number.0 number.1 in
            let step_from : at_node (step_at steps k).from v (pos amount) ≡ at_node (along_at steps number.0).to v (pos amount) =
            ap (λ j. at_node (step_at steps j).from v (pos amount)) number.2 ∙ ap (λ w. at_node w v (pos amount)) back.from in
            let step_to : at_node (step_at steps k).to v (pos amount) ≡ at_node (along_at steps number.0).from v (pos amount) =
            ap (λ j. at_node (step_at steps j).to v (pos amount)) number.2 ∙ ap (λ w. at_node w v (pos amount)) back.to in
            omega (arith, ints, changed, to, from, step_from, step_to)
      ]

-- The amount has come from the goal to the entry; the steps from there to the start are still to come.
pub record IsSending (nodes arcs : ℕ) (steps : List ResidualArc) (amount : ℕ) (numbers : List ℕ) (tree : List Reached) (old amounts : List ℕ)
    (at : ℕ) : Type 0 where
  pub here : at < length tree
  pub room : amount ≤ (entry_at tree at).room
  pub one_for_each : length amounts ≡ length old
  pub net : (v : ℕ) → v < nodes → net_by steps arcs amounts v +ℤ at_node (entry_at tree at).node v (pos amount)
      ≡ net_by steps arcs old v +ℤ at_node (entry_at tree (length tree - 1)).node v (pos amount)
  pub tight : (i : ℕ) → i < arcs → amount_at old i < amount_at amounts i →
      height numbers (along_at steps i).to ≡ height numbers (along_at steps i).from + (along_at steps i).up
  pub most : (i : ℕ) → i < arcs → amount_at amounts i ≤ amount_at old i + amount
  pub fresh : (j : ℕ) → 0 < j → j ≤ at → 0 < (step_of_entry steps tree j).up →
      amount_at amounts (step_of_entry steps tree j).arc ≤ amount_at old (step_of_entry steps tree j).arc
  pub full : (j : ℕ) → 0 < j → j ≤ at → (step_of_entry steps tree j).up ≡ 0 → amount ≤ (entry_at tree j).room →
      amount ≤ amount_at amounts (step_of_entry steps tree j).arc

module _ (nodes arcs : ℕ) (steps : List ResidualArc) (amount : ℕ) (numbers : List ℕ) (tree : List Reached) (places old : List ℕ)
    (paired : ArePaired arcs steps) (are : IsTree nodes steps old numbers tree places) where
  pub sending_first : amount ≤ (entry_at tree (length tree - 1)).room →
      IsSending nodes arcs steps amount numbers tree old old (length tree - 1)
  sending_first room = record {
    here = omega (arith, are.some);
    room = room;
    one_for_each = refl;
    net = λ v inside. refl;
    tight = λ i inside more. absurd (omega arith);
    most = λ i inside. omega arith;
    fresh = λ j some before along. omega arith;
    full = λ j some before against within.
        let is = (are.each j some (omega (arith, are.some))).room.here against in omega (arith, is, within);
  }

  -- an earlier entry was reached over another step
  other_step : (j at : ℕ) → j < at → at < length tree → 0 < j → (entry_at tree j).step ≡ (entry_at tree at).step → ⊥
  other_step j at less inside some same =
      let a = are.each j some (omega arith) in
      let b = are.each at (omega arith) inside in
      let node : (entry_at tree j).node ≡ (entry_at tree at).node = sym a.to ∙ ap (λ k. (step_at steps k).to) same ∙ b.to in
      let p = are.at_place j (omega arith) in
      let q = are.at_place at inside in
      let e : get_or places (entry_at tree j).node 0 ≡ get_or places (entry_at tree at).node 0 = ap (λ v. get_or places v 0) node in
      omega (arith, p, q, e, less)

  pub sending_next : (at : ℕ) (amounts amounts' : List ℕ) → 0 < at → IsSending nodes arcs steps amount numbers tree old amounts at →
      IsSent (step_of_entry steps tree at) amount amounts amounts' →
      IsSending nodes arcs steps amount numbers tree old amounts' (entry_at tree at).parent
  sending_next at amounts amounts' some sending sent = record {
    here = omega (arith, is.earlier, sending.here);
    room = omega (arith, is.room.parent, sending.room);
    one_for_each = sent.one_for_each ∙ sending.one_for_each;
    net = λ v v_in.
        let before = sending.net v v_in in
        let moved = net_sent arcs steps paired (entry_at tree at).step amount v amounts amounts' is.inside sent in
        let from : at_node (step_of_entry steps tree at).from v (pos amount) ≡ at_node (entry_at tree (entry_at tree at).parent).node v (pos amount) =
        ap (λ w. at_node w v (pos amount)) is.from in
        let to : at_node (step_of_entry steps tree at).to v (pos amount) ≡ at_node (entry_at tree at).node v (pos amount) =
        ap (λ w. at_node w v (pos amount)) is.to in
        omega (arith, ints, before, moved, from, to);
    tight = λ i i_in more.
        elim (cases_eq i (step_of_entry steps tree at).arc) [
          | inl here ↦ elim (cases_lt 0 (step_of_entry steps tree at).up) [
            | inl up ↦
                let along = along_number arcs steps paired (entry_at tree at).step is.inside up in
                let number : (entry_at tree at).step ≡ 2 * i = along.2 ∙ ap (λ j. 2 * j) (sym along.3 ∙ sym here) in
                subst (λ k. height numbers (step_at steps k).to ≡ height numbers (step_at steps k).from + (step_at steps k).up) number
                (is.passable.along up)
            | inr down ↦
                let less : amount_at amounts' i + amount ≡ amount_at amounts i = rw (← here) at (sent.against (omega arith)) in
                sending.tight i i_in (omega (arith, less, more))
          ]
          | inr apart ↦ sending.tight i i_in (omega (arith, sent.others i apart, more))
        ];
    most = λ i i_in.
        elim (cases_eq i (step_of_entry steps tree at).arc) [
          | inl here ↦ elim (cases_lt 0 (step_of_entry steps tree at).up) [
            | inl up ↦
                let grown : amount_at amounts' i ≡ amount_at amounts i + amount = rw (← here) at (sent.along up) in
                let was : amount_at amounts i ≤ amount_at old i = rw (← here) at (sending.fresh at some (omega arith) up) in
                omega (arith, grown, was)
            | inr down ↦
                let less : amount_at amounts' i + amount ≡ amount_at amounts i = rw (← here) at (sent.against (omega arith)) in
                omega (arith, less, sending.most i i_in)
          ]
          | inr apart ↦ omega (arith, sent.others i apart, sending.most i i_in)
        ];
    fresh = λ j j_some j_before j_up.
        let was = sending.fresh j j_some (omega (arith, is.earlier, j_before)) j_up in
        elim (cases_eq (step_of_entry steps tree j).arc (step_of_entry steps tree at).arc) [
          | inl here ↦ elim (cases_lt 0 (step_of_entry steps tree at).up) [
            | inl up ↦ absurd (other_step j at (omega (arith, is.earlier, j_before)) sending.here j_some
                (one_along arcs steps paired _ _ (each_in j j_some (omega (arith, is.earlier, j_before, sending.here))) is.inside j_up up here))
            | inr down ↦
                let less : amount_at amounts' (step_of_entry steps tree j).arc + amount ≡ amount_at amounts (step_of_entry steps tree j).arc =
                subst (λ i. amount_at amounts' i + amount ≡ amount_at amounts i) (sym here) (sent.against (omega arith)) in
                omega (arith, less, was)
          ]
          | inr apart ↦ omega (arith, sent.others (step_of_entry steps tree j).arc apart, was)
        ];
    full = λ j j_some j_before j_down within.
        let was = sending.full j j_some (omega (arith, is.earlier, j_before)) j_down within in
        elim (cases_eq (step_of_entry steps tree j).arc (step_of_entry steps tree at).arc) [
          | inl here ↦ elim (cases_lt 0 (step_of_entry steps tree at).up) [
            | inl up ↦
                let more : amount_at amounts' (step_of_entry steps tree j).arc ≡ amount_at amounts (step_of_entry steps tree j).arc + amount =
                subst (λ i. amount_at amounts' i ≡ amount_at amounts i + amount) (sym here) (sent.along up) in
                omega (arith, more)
            | inr down ↦ absurd (other_step j at (omega (arith, is.earlier, j_before)) sending.here j_some
                (one_against arcs steps paired _ _ (each_in j j_some (omega (arith, is.earlier, j_before, sending.here))) is.inside j_down (omega arith) here))
          ]
          | inr apart ↦ omega (arith, sent.others (step_of_entry steps tree j).arc apart, was)
        ];
  }
    where
      is : Rattle.diff_flow.specs.inner.Search.IsReached steps old numbers tree at
      is = are.each at some sending.here

      each_in : (j : ℕ) → 0 < j → j < length tree → (entry_at tree j).step < length steps
      each_in j j_some j_in = (are.each j j_some j_in).inside

  pub sending_last : (at : ℕ) (amounts : List ℕ) → at ≡ 0 → IsSending nodes arcs steps amount numbers tree old amounts at →
      IsMoved nodes arcs steps amount (entry_at tree 0).node (entry_at tree (length tree - 1)).node numbers old amounts
  sending_last at amounts none sending = record {
    one_for_each = sending.one_for_each;
    net = λ v v_in.
        let is = sending.net v v_in in
        let first : at_node (entry_at tree at).node v (pos amount) ≡ at_node (entry_at tree 0).node v (pos amount) =
        ap (λ j. at_node (entry_at tree j).node v (pos amount)) none in
        omega (arith, ints, is, first);
    tight = sending.tight;
    most = sending.most;
  }
