-- A unit of a flow on another way.
use Rattle.std.proofs.Common.{◌≡◌, ℕ, ◌+◌, ◌-◌, ◌*◌, ◌<◌, ◌≤◌, inl, inr, pos, List, length, get_or, set, replicate, sym, ap, subst, ◌∙◌, arith}
use Rattle.std.specs.Prelude.{◌+ℤ◌}
use Rattle.std.proofs.lemmas.Int.{ints}
use Rattle.std.proofs.lemmas.Bool.{cases_eq, cases_lt}
use Rattle.std.proofs.lemmas.List.{get_or-set_same, get_or-set_other, length-set, length-replicate}
use Rattle.shape_graphs.specs.Flows.{amount_at, at_node}
use Rattle.diff_flow.specs.declared.steps.ResidualArc.{ResidualArc}
use Rattle.diff_flow.specs.declared.tree.Reached.{Reached}
use Rattle.diff_flow.specs.inner.Steps.{step_at, along_at, against_at, AreStepsWithin, ArePaired, AreMet}
use Rattle.diff_flow.specs.inner.Numbers.{height, NoneMeet}
use Rattle.diff_flow.specs.inner.Search.{entry_at, IsPassable, IsTree, NoneLacks, AreFollowed}
use Rattle.diff_flow.specs.inner.Routing.{net_by, IsMoved, IsSlack, IsDetour}
use Rattle.diff_flow.proofs.Duality.{at_same, at_other}
use Rattle.diff_flow.proofs.CutLemmas.{cut_by}
use Rattle.diff_flow.proofs.RouteLemmas.{net_changed, at_sum}
use Rattle.diff_flow.proofs.RoundLemmas.{rises_along}
use Rattle.diff_flow.proofs.BestLemmas.{zero_at, met_where_just}

-- one unit at a node
pub unit_at : (n i v : ℕ) → i < n → pos (get_or (set (replicate {A = ℕ} n 0) i 1) v 0) ≡ at_node i v (pos 1)
unit_at n i v inside =
    elim (cases_eq v i) [
      | inl same ↦
          let here : get_or (set (replicate {A = ℕ} n 0) i 1) i 0 ≡ 1 =
          get_or-set_same (replicate {A = ℕ} n 0) i 1 0 (omega (arith, inside, length-replicate {A = ℕ} n 0)) in
          let there = at_same i (pos 1) in
          let is : pos (get_or (set (replicate {A = ℕ} n 0) i 1) i 0) ≡ at_node i i (pos 1) = omega (arith, ints, here, there) in
          rw same is
      | inr apart ↦
          let here : get_or (set (replicate {A = ℕ} n 0) i 1) v 0 ≡ get_or (replicate {A = ℕ} n 0) v 0 =
          get_or-set_other (replicate {A = ℕ} n 0) i v 1 0 apart in
          let there = at_other i v (pos 1) (λ e. apart (sym e)) in
          omega (arith, ints, here, there, zero_at n v)
    ]

-- some arc is slack where no numbers meet the steps
pub not_all_just : (arcs : ℕ) (steps : List ResidualArc) (amounts numbers : List ℕ) → ArePaired arcs steps →
    ((k : ℕ) → k < arcs → height numbers (along_at steps k).from + (along_at steps k).up ≤ height numbers (along_at steps k).to) →
    NoneMeet steps amounts →
    ((k : ℕ) → k < arcs → 0 < amount_at amounts k →
    height numbers (along_at steps k).to ≤ height numbers (along_at steps k).from + (along_at steps k).up) → ⊥
not_all_just arcs steps amounts numbers paired met none just =
    none (height numbers) (met_where_just arcs steps amounts numbers paired met just)

-- a unit less on an arc
pub net_unit_less : (arcs : ℕ) (steps : List ResidualArc) (amounts : List ℕ) (i v : ℕ) → i < arcs → length amounts ≡ arcs → 0 < get_or amounts i 0 →
    net_by steps arcs (set amounts i (get_or amounts i 0 - 1)) v +ℤ at_node (along_at steps i).to v (pos 1)
    ≡ net_by steps arcs amounts v +ℤ at_node (along_at steps i).from v (pos 1)
net_unit_less arcs steps amounts i v inside all some =
    let changed = net_changed arcs steps amounts (set amounts i (get_or amounts i 0 - 1)) i v inside
    (λ j apart. get_or-set_other amounts i j (get_or amounts i 0 - 1) 0 apart) in
    let now : get_or (set amounts i (get_or amounts i 0 - 1)) i 0 ≡ get_or amounts i 0 - 1 =
    get_or-set_same amounts i (get_or amounts i 0 - 1) 0 (omega arith) in
    let to = at_sum (along_at steps i).to v (amount_at (set amounts i (get_or amounts i 0 - 1)) i) 1 (amount_at amounts i) (omega (arith, now, some)) in
    let from = at_sum (along_at steps i).from v (amount_at (set amounts i (get_or amounts i 0 - 1)) i) 1 (amount_at amounts i) (omega (arith, now, some)) in
    omega (arith, ints, changed, to, from)

module _ (nodes arcs reach : ℕ) (steps : List ResidualArc) (amounts numbers : List ℕ) (i : ℕ) (within : AreStepsWithin nodes arcs reach steps)
    (paired : ArePaired arcs steps) (all : length amounts ≡ arcs) (slack : IsSlack arcs steps amounts numbers i) where
  -- the unit that was taken away can be sent another way
  pub way_open : (best : List ℕ) (tree : List Reached) (places : List ℕ) →
      ((v : ℕ) → v < nodes → net_by steps arcs best v ≡ net_by steps arcs amounts v) → AreMet steps best (height numbers) →
      IsTree nodes steps (set amounts i (get_or amounts i 0 - 1)) numbers tree places →
      (entry_at tree 0).node ≡ (along_at steps i).from →
      NoneLacks (set (replicate {A = ℕ} nodes 0) (along_at steps i).to 1) places →
      AreFollowed steps (set amounts i (get_or amounts i 0 - 1)) numbers tree places (length tree) → ⊥
  way_open best tree places net met are first lacks passed =
      cut_by nodes arcs (λ k. (along_at steps k).from) (λ k. (along_at steps k).to) ends (amount_at less) (amount_at best)
      (λ v. get_or (set (replicate {A = ℕ} nodes 0) (along_at steps i).from 1) v 0)
      (λ v. get_or (set (replicate {A = ℕ} nodes 0) (along_at steps i).to 1) v 0)
      (λ v. get_or places v 0) (along_at steps i).from balance from_in marked
      (let is = unit_at nodes (along_at steps i).from (along_at steps i).from from_in in
      let one = at_same (along_at steps i).from (pos 1) in omega (arith, ints, is, one))
      (λ v v_in some. lacks v some)
      (λ k k_in in_from out_to. elim (cases_lt 0 (amount_at best k)) [
        | inl some ↦ absurd (omega (arith, out_to, end_reached k k_in in_from some))
        | inr none ↦ omega arith
      ])
      (λ k k_in out_from in_to. elim (cases_lt 0 (amount_at less k)) [
        | inl some ↦ absurd (omega (arith, out_from, start_reached k k_in in_to some))
        | inr none ↦ omega arith
      ])
    where
      less : List ℕ
      less = set amounts i (get_or amounts i 0 - 1)

      ends : (k : ℕ) → k < arcs → ((along_at steps k).from < nodes) × ((along_at steps k).to < nodes)
      ends k k_in = let is = within (2 * k) (omega (arith, paired.two_for_each)) in (is.from, is.to)

      from_in : (along_at steps i).from < nodes
      from_in = (ends i slack.inside).0

      marked : 0 < get_or places (along_at steps i).from 0
      marked =
          let is = are.at_place 0 are.some in
          let e : get_or places (entry_at tree 0).node 0 ≡ get_or places (along_at steps i).from 0 = ap (λ v. get_or places v 0) first in
          omega (arith, is, e)

      balance : (v : ℕ) → v < nodes → net_by steps arcs (set amounts i (get_or amounts i 0 - 1)) v
          +ℤ pos (get_or (set (replicate {A = ℕ} nodes 0) (along_at steps i).to 1) v 0)
          ≡ net_by steps arcs best v +ℤ pos (get_or (set (replicate {A = ℕ} nodes 0) (along_at steps i).from 1) v 0)
      balance v v_in =
          let unit = net_unit_less arcs steps amounts i v slack.inside all slack.some in
          let to = unit_at nodes (along_at steps i).to v (ends i slack.inside).1 in
          let from = unit_at nodes (along_at steps i).from v from_in in
          let same = net v v_in in
          omega (arith, ints, unit, to, from, same)

      passed_at : (k : ℕ) → k < length steps → 0 < get_or places (step_at steps k).from 0 →
          IsPassable (set amounts i (get_or amounts i 0 - 1)) numbers (step_at steps k) → 0 < get_or places (step_at steps k).to 0
      passed_at k k_in from passable =
          let node_in = (within k k_in).from in
          let place = are.placed (step_at steps k).from node_in from in
          let low = are.within (step_at steps k).from node_in in
          passed (get_or places (step_at steps k).from 0 - 1) (omega (arith, low, from)) k k_in (omega arith) (sym place) passable

      end_reached : (k : ℕ) → k < arcs → 0 < get_or places (along_at steps k).from 0 → 0 < amount_at best k →
          0 < get_or places (along_at steps k).to 0
      end_reached k k_in from some =
          let two = paired.two_for_each in
          let up = rises_along arcs steps best (height numbers) paired met k k_in in
          let back = paired.back k k_in in
          let arc : (against_at steps k).arc ≡ k = back.arc ∙ paired.number k k_in in
          let amount : amount_at best (against_at steps k).arc ≡ amount_at best k = ap (amount_at best) arc in
          let down = met (2 * k + 1) (omega (arith, two)) (omega (arith, amount, some)) in
          let h_from : height numbers (against_at steps k).from ≡ height numbers (along_at steps k).to = ap (height numbers) back.from in
          let h_to : height numbers (against_at steps k).to ≡ height numbers (along_at steps k).from = ap (height numbers) back.to in
          let just : height numbers (along_at steps k).to ≡ height numbers (along_at steps k).from + (along_at steps k).up =
          omega (arith, up, down, h_from, h_to, back.up, back.down) in
          passed_at (2 * k) (omega (arith, two)) from (record { along = λ _. just; against = λ none. absurd (omega (arith, none, paired.up k k_in)) })

      start_reached : (k : ℕ) → k < arcs → 0 < get_or places (along_at steps k).to 0 → 0 < get_or (set amounts i (get_or amounts i 0 - 1)) k 0 →
          0 < get_or places (along_at steps k).from 0
      start_reached k k_in to some =
          let back = paired.back k k_in in
          let arc : (against_at steps k).arc ≡ k = back.arc ∙ paired.number k k_in in
          let amount : get_or (set amounts i (get_or amounts i 0 - 1)) (against_at steps k).arc 0 ≡ get_or (set amounts i (get_or amounts i 0 - 1)) k 0 =
          ap (λ j. get_or (set amounts i (get_or amounts i 0 - 1)) j 0) arc in
          let begins : get_or places (against_at steps k).from 0 ≡ get_or places (along_at steps k).to 0 = ap (λ v. get_or places v 0) back.from in
          let reached = passed_at (2 * k + 1) (omega (arith, paired.two_for_each)) (omega (arith, begins, to))
          (record { along = λ up. absurd (omega (arith, up, back.up)); against = λ _. omega (arith, amount, some) }) in
          let ends' : get_or places (against_at steps k).to 0 ≡ get_or places (along_at steps k).from 0 = ap (λ v. get_or places v 0) back.to in
          omega (arith, reached, ends')

  -- and then is
  pub detour_done : (amounts' : List ℕ) →
      IsMoved nodes arcs steps 1 (along_at steps i).from (along_at steps i).to numbers (set amounts i (get_or amounts i 0 - 1)) amounts' →
      IsDetour nodes arcs steps numbers amounts amounts' i
  detour_done amounts' moved = record {
    one_for_each = moved.one_for_each ∙ length-set amounts i (get_or amounts i 0 - 1);
    net = λ v v_in.
        let unit = net_unit_less arcs steps amounts i v slack.inside all slack.some in
        let is = moved.net v v_in in
        omega (arith, ints, unit, is);
    less = elim (cases_lt (get_or (set amounts i (get_or amounts i 0 - 1)) i 0) (amount_at amounts' i)) [
      | inl more ↦ absurd (let just = moved.tight i slack.inside more in omega (arith, just, slack.more))
      | inr most ↦ omega (arith, most, here, slack.some)
    ];
    tight = λ k k_in more. moved.tight k k_in (elim (cases_eq k i) [
      | inl same ↦ subst (λ j. amount_at amounts j < amount_at amounts' j → get_or (set amounts i (get_or amounts i 0 - 1)) j 0 < amount_at amounts' j)
          (sym same) (λ rose. omega (arith, rose, here)) more
      | inr apart ↦ omega (arith, more, get_or-set_other amounts i k (get_or amounts i 0 - 1) 0 apart)
    ]);
    most = λ k k_in. let is = moved.most k k_in in elim (cases_eq k i) [
      | inl same ↦ subst (λ j. amount_at amounts' j ≤ get_or (set amounts i (get_or amounts i 0 - 1)) j 0 + 1 → amount_at amounts' j ≤ amount_at amounts j + 1)
          (sym same) (λ low. omega (arith, low, here)) is
      | inr apart ↦ omega (arith, is, get_or-set_other amounts i k (get_or amounts i 0 - 1) 0 apart)
    ];
  }
    where
      here : get_or (set amounts i (get_or amounts i 0 - 1)) i 0 ≡ get_or amounts i 0 - 1
      here = get_or-set_same amounts i (get_or amounts i 0 - 1) 0 (omega (arith, slack.inside, all))

-- the node with the unit is the only one that lacks
pub lacking_is : (n goal w : ℕ) → 0 < get_or (set (replicate {A = ℕ} n 0) goal 1) w 0 → w ≡ goal
lacking_is n goal w some =
    elim (cases_eq w goal) [
      | inl same ↦ same
      | inr apart ↦ absurd (omega (arith, some, get_or-set_other (replicate {A = ℕ} n 0) goal w 1 0 apart, zero_at n w))
    ]

pub other_has : (n goal w : ℕ) → (w ≡ goal → ⊥) → get_or (set (replicate {A = ℕ} n 0) goal 1) w 0 ≡ 0
other_has n goal w apart = get_or-set_other (replicate {A = ℕ} n 0) goal w 1 0 apart ∙ zero_at n w

-- where an arc is slack its ends are two nodes
pub ends_apart : (arcs : ℕ) (steps : List ResidualArc) (amounts numbers : List ℕ) (i : ℕ) → IsSlack arcs steps amounts numbers i →
    (along_at steps i).from ≡ (along_at steps i).to → ⊥
ends_apart arcs steps amounts numbers i slack same =
    let e : height numbers (along_at steps i).from ≡ height numbers (along_at steps i).to = ap (height numbers) same in
    omega (arith, e, slack.more)
