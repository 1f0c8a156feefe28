-- Where branches come from: each but the first is a child of a split, and no two have the same choices.
use Rattle.std.proofs.Common.{◌≡◌, ℕ, zero, suc, ◌+◌, ◌-◌, ◌<◌, ◌≤◌, List, [], ◌∷◌, length, ℤ, Option, Some, None, MatchOption, ◌⊎◌, inl, inr, refl, ap, sym, ◌∙◌, subst, arith, length-append}
use Rattle.std.proofs.lemmas.Bool.{cases_lt}
use Rattle.std.proofs.lemmas.List.{get_or_past}
use Rattle.compact_types.specs.declared.places.Axis.{Axis}
use Rattle.compact_types.specs.declared.plan.Shape.{Shape}
use Rattle.compact_types.specs.declared.search.Choice.{Choice}
use Rattle.compact_types.specs.Bests.{Objective}
use Rattle.bars.specs.Solutions.{with_choice}
use Rattle.shape_graphs.specs.declared.graph.Cycle.{Cycle}
use Rattle.shape_graphs.specs.declared.measure.Verdict.{Verdict}
use Rattle.shape_graphs.specs.declared.measure.Verdict.TheVariants.{Cyclic, Above, Least}
use Rattle.shape_graphs.specs.Measures.{MatchVerdict}
use Rattle.board.specs.declared.entries.Entry.{Entry}
use Rattle.board.specs.declared.entries.Entry.TheVariants as entries
use Rattle.board.specs.declared.entries.Settled.{Settled}
use Rattle.board.specs.declared.entries.Settled.TheVariants as settled
use Rattle.board.specs.declared.standings.Standing.{Standing}
use Rattle.board.specs.declared.standings.Standing.TheVariants.{Waiting, Held, Done}
use Rattle.board.specs.Boards.{BoardView, board_state, verdict_of}
use Rattle.board.specs.Facts.{AreFacts, HasBranchPair, IsKeptAt, IsSettledBy}
use Rattle.board.specs.Histories.{State, opened, after, replayed, state_of, branch_count, choices_of, standing_of, standings_opened, Fits, AllFit, IsLegal, IsChildOf, IsOpenedFrom, IsOutcomeOf, IsSettled}
use Rattle.board.proofs.AfterLemmas.{claimed_count, claimed_other, held_open, open_below, settled_count, standing_other, standing_same, waiting_open}
use Rattle.board.proofs.ChainLemmas.{snoc_equal}
use Rattle.board.proofs.HistoryLaws.{after_same, first_choices, same_count}
use Rattle.board.proofs.SplitLaws.{splits_have_children}
use Rattle.board.proofs.StackLemmas.{waits_below}

-- each branch but the first is a child of another
abbrev HaveParents : State → Type 0
HaveParents state = (id : ℕ) → 0 < id → id < branch_count state → (parent : ℕ) × IsChildOf state parent id

-- a branch that was split is one of the branches
split_below : (state : State) (id first s t : ℕ) → standing_of state id ≡ Done (settled.Split first s t) → id < branch_count state
split_below state id first s t done = waits_below state.standings id (Done (settled.Split first s t)) done (λ e. cc)

-- a child stays one where its parent stands as before
child_stays : (state next : State) (parent id : ℕ) → (child : IsChildOf state parent id) → standing_of next parent ≡ standing_of state parent →
    IsChildOf next parent id
child_stays state next parent id child same =
    record { first = child.first; s = child.s; t = child.t; split = same ∙ child.split; from_first = child.from_first; to_fourth = child.to_fourth }

after_claimed : (state : State) (who j : ℕ) → Fits state (entries.Claimed who j) → HaveParents state → HaveParents (after state (entries.Claimed who j))
after_claimed state who j fits have id some below = (found.0, child_stays state (after state (entries.Claimed who j)) found.0 id found.1 same)
  where
    here : j < branch_count state
    here = open_below state j (waiting_open state j fits)

    found : (parent : ℕ) × IsChildOf state parent id
    found = have id some (let count = claimed_count state who j here in omega (arith, below, count))

    same : standing_of (after state (entries.Claimed who j)) found.0 ≡ standing_of state found.0
    same = claimed_other state who j here found.0 (λ is. (
        let done = found.1.split in
        let waits : Waiting ≡ Done (settled.Split found.1.first found.1.s found.1.t) = sym fits ∙ ap (standing_of state) (sym is) ∙ done in
        cc))

module _ (state : State) (same : length state.choices ≡ branch_count state) (who j : ℕ) where
  -- a branch that was there keeps its parent
  parent_before : (what : Settled) → Fits state (entries.Settled who j what) → HaveParents state → (id : ℕ) → 0 < id → id < branch_count state →
      (parent : ℕ) × IsChildOf (after state (entries.Settled who j what)) parent id
  parent_before what fits have id some inside = (found.0, child_stays state (after state (entries.Settled who j what)) found.0 id found.1 stands)
    where
      here : j < branch_count state
      here = open_below state j (held_open state j who fits.0)

      found : (parent : ℕ) × IsChildOf state parent id
      found = have id some inside

      stands : standing_of (after state (entries.Settled who j what)) found.0 ≡ standing_of state found.0
      stands = standing_other state same who j what here found.0 (split_below state found.0 _ _ _ found.1.split) (λ is. (
          let done = found.1.split in
          let held : Held who ≡ Done (settled.Split found.1.first found.1.s found.1.t) = sym fits.0 ∙ ap (standing_of state) (sym is) ∙ done in
          cc))

  -- and one that is opened has the settled branch as its parent
  parent_now : (what : Settled) → Fits state (entries.Settled who j what) → (id : ℕ) → branch_count state ≤ id →
      id < branch_count state + length (standings_opened what) → IsChildOf (after state (entries.Settled who j what)) j id
  parent_now (settled.Split first s t) fits id past below =
      let numbered : first ≡ branch_count state = fits.1 in
      let four : length (standings_opened (settled.Split first s t)) ≡ 4 = refl in
      record {
        first = first;
        s = s;
        t = t;
        split = standing_same state same who j (settled.Split first s t) (open_below state j (held_open state j who fits.0));
        from_first = omega (arith, numbered, past);
        to_fourth = omega (arith, numbered, below, four);
      }
  parent_now settled.Closed fits id past below = absurd (omega (arith, past, below))
  parent_now settled.Improved fits id past below = absurd (omega (arith, past, below))

  after_settled : (what : Settled) → Fits state (entries.Settled who j what) → HaveParents state → HaveParents (after state (entries.Settled who j what))
  after_settled what fits have id some below = by_order (cases_lt id (branch_count state))
    where
      by_order : (id < branch_count state) ⊎ (branch_count state ≤ id) → (parent : ℕ) × IsChildOf (after state (entries.Settled who j what)) parent id
      by_order (inl inside) = parent_before what fits have id some inside
      by_order (inr past) =
          (j, parent_now what fits id past (let count = settled_count state same who j what (open_below state j (held_open state j who fits.0)) in omega (arith, below, count)))

after_entry : (state : State) (entry : Entry) → length state.choices ≡ branch_count state → Fits state entry → HaveParents state → HaveParents (after state entry)
after_entry state (entries.Claimed who id) same fits have = after_claimed state who id fits have
after_entry state (entries.Settled who id what) same fits have = after_settled state same who id what fits have

have_parents : (state : State) (rest : List Entry) → length state.choices ≡ branch_count state → AllFit state rest → HaveParents state →
    HaveParents (replayed state rest)
have_parents state [] same fit have = have
have_parents state (entry ∷ rest) same fit have =
    have_parents (after state entry) rest (after_same state entry same) fit.1 (after_entry state entry same fit.0 have)

module _ (history : List Entry) (legal : IsLegal history) where
  abbrev state : State
  state = state_of history

  pub some_parent : HaveParents state
  some_parent = have_parents opened history refl legal (λ id some below. absurd (omega (arith, some, below)))

  -- a child has the choices of its parent and one more, and comes after it
  child_choices : (parent id : ℕ) (child : IsChildOf state parent id) →
      choices_of state id ≡ with_choice (choices_of state parent) child.s child.t (id - child.first)
  child_choices parent id child =
      let children = splits_have_children history parent child.first child.s child.t legal (split_below state parent _ _ _ child.split) child.split in
      let from = child.from_first in
      let to = child.to_fourth in
      let is : child.first + (id - child.first) ≡ id = omega (arith, from) in
      subst (λ (k : ℕ). choices_of state k ≡ with_choice (choices_of state parent) child.s child.t (id - child.first)) is
      (children.choices (id - child.first) (omega (arith, from, to)))

  child_after : (parent id : ℕ) → IsChildOf state parent id → parent < id
  child_after parent id child =
      let children = splits_have_children history parent child.first child.s child.t legal (split_below state parent _ _ _ child.split) child.split in
      let behind = children.behind in
      let from = child.from_first in
      omega (arith, behind, from)

  -- so no two branches have the same choices
  module _ (a b : ℕ) (same : choices_of state a ≡ choices_of state b) where
    one_of_children : (p q : ℕ) (first : IsChildOf state p a) (second : IsChildOf state q b) → (choices_of state p ≡ choices_of state q → p ≡ q) → a ≡ b
    one_of_children p q first second parents =
        let both = sym (child_choices p a first) ∙ same ∙ child_choices q b second in
        let ends = snoc_equal (choices_of state p) (choices_of state q) _ _ both in
        let splits : Done (settled.Split first.first first.s first.t) ≡ Done (settled.Split second.first second.s second.t) =
        sym first.split ∙ ap (standing_of state) (parents ends.0) ∙ second.split in
        let begin : first.first ≡ second.first = cc in
        let side : a - first.first ≡ b - second.first = ap (λ (c : Choice). c.side) ends.1 in
        let a_from = first.from_first in
        let b_from = second.from_first in
        omega (arith, begin, side, a_from, b_from)

  some_choice : (id : ℕ) → 0 < id → id < branch_count state → 0 < length (choices_of state id)
  some_choice id some below =
      let parent = some_parent id some below in
      let long = ap length (child_choices parent.0 id parent.1) in
      let one = length-append (choices_of state parent.0) (record { s = parent.1.s; t = parent.1.t; side = id - parent.1.first } ∷ []) in
      omega (arith, long, one)

  no_choice : (id : ℕ) → id ≤ 0 → length (choices_of state id) ≡ 0
  no_choice zero none = ap length (first_choices history)
  no_choice (suc id) none = absurd (omega (arith, none))

  module _ (a b : ℕ) (in_a : a < branch_count state) (in_b : b < branch_count state) (same : choices_of state a ≡ choices_of state b)
      (parents : (p q : ℕ) → p < a → p < branch_count state → q < branch_count state → choices_of state p ≡ choices_of state q → p ≡ q) where
    long : length (choices_of state a) ≡ length (choices_of state b)
    long = ap length same

    one_step : (0 < a) ⊎ (a ≤ 0) → (0 < b) ⊎ (b ≤ 0) → a ≡ b
    one_step (inl some_a) (inl some_b) =
        let p = some_parent a some_a in_a in
        let q = some_parent b some_b in_b in
        one_of_children a b same p.0 q.0 p.1 q.1
        (λ alike. parents p.0 q.0 (child_after p.0 a p.1) (split_below state p.0 _ _ _ p.1.split) (split_below state q.0 _ _ _ q.1.split) alike)
    one_step (inl some_a) (inr none_b) =
        let more = some_choice a some_a in_a in
        let none = no_choice b none_b in
        absurd (omega (arith, more, none, long))
    one_step (inr none_a) (inl some_b) =
        let more = some_choice b some_b in_b in
        let none = no_choice a none_a in
        absurd (omega (arith, more, none, long))
    one_step (inr none_a) (inr none_b) = omega (arith, none_a, none_b)

  one_below : (n a b : ℕ) → a < n → a < branch_count state → b < branch_count state → choices_of state a ≡ choices_of state b → a ≡ b
  one_below zero a b less in_a in_b same = absurd (omega (arith, less))
  one_below (suc n) a b less in_a in_b same =
      one_step a b in_a in_b same
      (λ p q before in_p in_q alike. one_below n p q (omega (arith, before, less)) in_p in_q alike)
      (cases_lt 0 a) (cases_lt 0 b)

  pub branches_differ : (a b : ℕ) → a < branch_count state → b < branch_count state → choices_of state a ≡ choices_of state b → a ≡ b
  branches_differ a b in_a in_b same = one_below (a + 1) a b (omega arith) in_a in_b same

  -- a branch from which another was opened was split, and the other is one of its children
  pub opened_from_split : (parent id : ℕ) → IsOpenedFrom state parent id → IsChildOf state parent id
  opened_from_split parent id from =
      subst (λ (p : ℕ). IsChildOf state p id)
      (branches_differ found.0 parent (split_below state found.0 _ _ _ found.1.split) (omega (arith, before, inside))
      (snoc_equal (choices_of state found.0) (choices_of state parent) _ _ (sym (child_choices found.0 id found.1) ∙ from.choices)).0)
      found.1
    where
      before : parent < id
      before = from.before

      inside : id < branch_count state
      inside = by_order (cases_lt id (branch_count state))
        where
          by_order : (id < branch_count state) ⊎ (branch_count state ≤ id) → id < branch_count state
          by_order (inl below) = below
          by_order (inr past) =
              let alike = same_count history in
              let none = ap length (get_or_past state.choices id [] (omega (arith, past, alike))) in
              let long = ap length from.choices in
              let one = length-append (choices_of state parent) (from.choice ∷ []) in
              absurd (omega (arith, none, long, one))

      found : (p : ℕ) × IsChildOf state p id
      found = some_parent id (omega (arith, before)) inside

-- the board keeps a least key for a branch from which another was opened
module _ {P : Type 0} (objective : Objective) (Backs : Shape → List Choice → P → Verdict P → Type 0)
    (board : BoardView P) (parent id : ℕ) (facts : AreFacts objective Backs board) (from : IsOpenedFrom (board_state board) parent id) where
  kept : IsKeptAt objective Backs board parent (standing_of (board_state board) parent)
  kept =
      facts.kept.each parent (let child = opened_from_split board.entries facts.legal parent id from in split_below (board_state board) parent _ _ _ child.split)

  pub parent_kept : (child : IsChildOf (board_state board) parent id) → IsSettledBy objective Backs board parent (settled.Split child.first child.s child.t)
  parent_kept child = subst (λ (standing : Standing). IsKeptAt objective Backs board parent standing) child.split kept

  has_least : (kept : Option (Verdict P)) → verdict_of board parent ≡ kept →
      (verdict : Verdict P) × (kept ≡ Some verdict) × MatchVerdict verdict ⊥ ⊥ (Unit {0})
  has_least kept is = by_verdict by.verdict by.kept by.splits
    where
      child : IsChildOf (board_state board) parent id
      child = opened_from_split board.entries facts.legal parent id from

      by : IsSettledBy objective Backs board parent (settled.Split child.first child.s child.t)
      by = parent_kept child

      by_verdict : (verdict : Verdict P) → verdict_of board parent ≡ Some verdict →
          HasBranchPair board.shape (choices_of (board_state board) parent) verdict child.s child.t →
          (verdict : Verdict P) × (kept ≡ Some verdict) × MatchVerdict verdict ⊥ ⊥ (Unit {0})
      by_verdict (Cyclic axis cycle) same splits = absurd splits
      by_verdict (Above bound stop proof) same splits = absurd splits
      by_verdict (Least key proof) same splits = (Least key proof, sym is ∙ same, tt)

  pub never_none : verdict_of board parent ≡ None → ⊥
  never_none is = let least = has_least None is in absurd (let e = least.1 in cc)

  pub never_cyclic : (axis : Axis) (cycle : Cycle) → verdict_of board parent ≡ Some (Cyclic axis cycle) → ⊥
  never_cyclic axis cycle is =
      let least = has_least (Some (Cyclic axis cycle)) is in
      let both : Some (Cyclic axis cycle) ≡ Some least.0 = least.1 in
      let same : least.0 ≡ Cyclic axis cycle = cc in
      subst (λ (v : Verdict P). MatchVerdict v ⊥ ⊥ (Unit {0})) same least.2

  pub never_above : (bound stop : ℤ) (proof : P) → verdict_of board parent ≡ Some (Above bound stop proof) → ⊥
  never_above bound stop proof is =
      let least = has_least (Some (Above bound stop proof)) is in
      let both : Some (Above bound stop proof) ≡ Some least.0 = least.1 in
      let same : least.0 ≡ Above bound stop proof = cc in
      subst (λ (v : Verdict P). MatchVerdict v ⊥ ⊥ (Unit {0})) same least.2

-- the numbers of the children of a split are numbers of branches
pub numbers_fit : (history : List Entry) (state : State) (id first s t most : ℕ) (found : Option Settled) → IsLegal history → state ≡ state_of history →
    MatchOption found (IsSettled state id → ⊥) (IsOutcomeOf state id) → found ≡ Some (settled.Split first s t) → branch_count state < most → first + 3 < most
numbers_fit history state id first s t most found legal is outcome split few =
    let at : IsOutcomeOf state id (settled.Split first s t) =
    subst (λ (o : Option Settled). MatchOption o (IsSettled state id → ⊥) (IsOutcomeOf state id)) split outcome in
    let done : standing_of (state_of history) id ≡ Done (settled.Split first s t) = ap (λ (x : State). standing_of x id) (sym is) ∙ at.done in
    let children = splits_have_children history id first s t legal (split_below (state_of history) id first s t done) done in
    let within = children.within in
    let same = ap branch_count is in
    omega (arith, within, same, few)
