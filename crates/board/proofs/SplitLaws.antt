-- The children of the branches that were split.
use Rattle.std.proofs.Common.{◌≡◌, ℕ, zero, suc, ◌+◌, ◌-◌, ◌<◌, ◌≤◌, List, [], ◌∷◌, length, Some, ◌⊎◌, inl, inr, refl, ap, sym, ◌∙◌, subst, arith, length-append}
use Rattle.std.specs.Prelude.{slice_index_or}
use Rattle.std.proofs.lemmas.Bool.{cases_eq, cases_lt}
use Rattle.std.proofs.lemmas.List.{get_or_push}
use Rattle.compact_types.specs.declared.plan.Shape.{Shape}
use Rattle.compact_types.specs.declared.search.Choice.{Choice}
use Rattle.compact_types.specs.Bests.{Objective}
use Rattle.bars.specs.Solutions.{IsChoice, with_choice}
use Rattle.shape_graphs.specs.declared.measure.Verdict.{Verdict}
use Rattle.board.specs.declared.entries.Entry.{Entry}
use Rattle.board.specs.declared.entries.Entry.TheVariants as entries
use Rattle.board.specs.declared.entries.Settled.{Settled}
use Rattle.board.specs.declared.entries.Settled.TheVariants as settled
use Rattle.board.specs.declared.standings.Standing.{Standing}
use Rattle.board.specs.declared.standings.Standing.TheVariants.{Waiting, Held, Done}
use Rattle.board.specs.Boards.{BoardView, board_state, verdict_of}
use Rattle.board.specs.Facts.{AreFacts, AreSound, HasBranchPair, IsKeptAt, IsSettledBy}
use Rattle.board.specs.Histories.{State, opened, after, replayed, state_of, branch_count, choices_of, standing_of, children_of, standings_opened, Fits, AllFit, IsLegal, HasChildren}
use Rattle.board.proofs.AfterLemmas.{claimed_count, claimed_other, claimed_same, choices_before, choices_behind, held_open, open_below, settled_count, standing_behind, standing_other, standing_same, waiting_open}
use Rattle.board.proofs.CoveredDrawings.{child_is}
use Rattle.board.proofs.HistoryLaws.{after_same}
use Rattle.board.proofs.KeptFacts.{opened_wait}

-- each branch that was split has its children
abbrev HaveChildren : State → Type 0
HaveChildren state =
    (id first s t : ℕ) → id < branch_count state → standing_of state id ≡ Done (settled.Split first s t) → HasChildren state id first s t

-- a claim settles no branch
after_claimed : (state : State) (who j : ℕ) → Fits state (entries.Claimed who j) → HaveChildren state → HaveChildren (after state (entries.Claimed who j))
after_claimed state who j fits have id first s t below done = by_id (cases_eq id j)
  where
    here : j < branch_count state
    here = open_below state j (waiting_open state j fits)

    count : branch_count (after state (entries.Claimed who j)) ≡ branch_count state
    count = claimed_count state who j here

    by_id : (id ≡ j) ⊎ (id ≡ j → ⊥) → HasChildren (after state (entries.Claimed who j)) id first s t
    by_id (inl is) =
        absurd (let e : Held who ≡ Done (settled.Split first s t) =
        sym (claimed_same state who j here) ∙ ap (standing_of (after state (entries.Claimed who j))) (sym is) ∙ done in cc)
    by_id (inr other) =
        let children = have id first s t (omega (arith, below, count)) (sym (claimed_other state who j here id other) ∙ done) in
        let within = children.within in
        record { behind = children.behind; within = omega (arith, within, count); choices = children.choices }

-- the branch that is split now
module _ (state : State) (same : length state.choices ≡ branch_count state) (who id first s t : ℕ) (fits : Fits state (entries.Settled who id (settled.Split first s t))) where
  abbrev split : Settled
  split = settled.Split first s t

  below_now : id < branch_count state
  below_now = open_below state id (held_open state id who fits.0)

  child_choices : (side : ℕ) → side < 4 →
      choices_of (after state (entries.Settled who id split)) (first + side) ≡ with_choice (choices_of (after state (entries.Settled who id split)) id) s t side
  child_choices side few =
      let numbered : first ≡ branch_count state = fits.1 in
      let left : (first + side) - branch_count state ≡ side = omega (arith, numbered) in
      choices_behind state same who id split below_now (first + side) (omega (arith, numbered))
      ∙ ap (λ (k : ℕ). slice_index_or (children_of (choices_of state id) s t) k []) left
      ∙ child_is (choices_of state id) s t side few
      ∙ ap (λ (l : List Choice). with_choice l s t side) (sym (choices_before state same who id split below_now id below_now))

  split_now : HasChildren (after state (entries.Settled who id split)) id first s t
  split_now =
      let numbered : first ≡ branch_count state = fits.1 in
      let count = settled_count state same who id split below_now in
      let four : length (standings_opened split) ≡ 4 = refl in
      record {
        behind = let below = below_now in omega (arith, below, numbered);
        within = omega (arith, count, four, numbered);
        choices = child_choices;
      }

module _ (state : State) (same : length state.choices ≡ branch_count state) (who j : ℕ) (what : Settled)
    (fits : Fits state (entries.Settled who j what)) (have : HaveChildren state) where
  abbrev next : State
  next = after state (entries.Settled who j what)

  here : j < branch_count state
  here = open_below state j (held_open state j who fits.0)

  count : branch_count next ≡ branch_count state + length (standings_opened what)
  count = settled_count state same who j what here

  -- a branch that was split before keeps its children
  split_before : (id first s t : ℕ) → id < branch_count state → HasChildren state id first s t → HasChildren next id first s t
  split_before id first s t inside children =
      let within = children.within in
      record {
        behind = children.behind;
        within = omega (arith, within, count);
        choices = λ side few.
            choices_before state same who j what here (first + side) (omega (arith, within, few))
            ∙ children.choices side few
            ∙ ap (λ (l : List Choice). with_choice l s t side) (sym (choices_before state same who j what here id inside));
      }

  after_settled : HaveChildren next
  after_settled id first s t below done = by_order (cases_lt id (branch_count state)) (cases_eq id j)
    where
      by_order : (id < branch_count state) ⊎ (branch_count state ≤ id) → (id ≡ j) ⊎ (id ≡ j → ⊥) → HasChildren next id first s t
      by_order (inl inside) (inl is) =
          let e : Done what ≡ Done (settled.Split first s t) = sym (standing_same state same who j what here) ∙ ap (standing_of next) (sym is) ∙ done in
          let outcome : what ≡ settled.Split first s t = cc in
          subst (λ (w : Settled). HasChildren (after state (entries.Settled who j w)) id first s t) (sym outcome)
          (subst (λ (i : ℕ). HasChildren (after state (entries.Settled who j (settled.Split first s t))) i first s t) (sym is)
          (split_now state same who j first s t (subst (λ (w : Settled). Fits state (entries.Settled who j w)) outcome fits)))
      by_order (inl inside) (inr other) =
          split_before id first s t inside (have id first s t inside (sym (standing_other state same who j what here id inside other) ∙ done))
      by_order (inr past) either =
          let waits : standing_of next id ≡ Waiting =
          standing_behind state same who j what here id past ∙ opened_wait what (id - branch_count state) (omega (arith, below, count, past)) in
          absurd (let e : Waiting ≡ Done (settled.Split first s t) = sym waits ∙ done in cc)

after_entry : (state : State) (entry : Entry) → length state.choices ≡ branch_count state → Fits state entry → HaveChildren state → HaveChildren (after state entry)
after_entry state (entries.Claimed who id) same fits have = after_claimed state who id fits have
after_entry state (entries.Settled who id what) same fits have = after_settled state same who id what fits have

have_children : (state : State) (rest : List Entry) → length state.choices ≡ branch_count state → AllFit state rest → HaveChildren state →
    HaveChildren (replayed state rest)
have_children state [] same fit have = have
have_children state (entry ∷ rest) same fit have =
    have_children (after state entry) rest (after_same state entry same) fit.1 (after_entry state entry same fit.0 have)

-- at first no branch is split
none_split : HaveChildren opened
none_split zero first s t below done = absurd (let e : Waiting ≡ Done (settled.Split first s t) = done in cc)
none_split (suc id) first s t below done = absurd (omega (arith, below))

pub splits_have_children : (history : List Entry) (id first s t : ℕ) → IsLegal history → id < branch_count (state_of history) →
    standing_of (state_of history) id ≡ Done (settled.Split first s t) → HasChildren (state_of history) id first s t
splits_have_children history id first s t legal below done = have_children opened history refl legal none_split id first s t below done

-- the last choice of a list that is sound is one of the shape
last_fits : (shape : Shape) (choices : List Choice) (s t side : ℕ) → AreSound shape (with_choice choices s t side) →
    IsChoice shape (record { s = s; t = t; side = side })
last_fits shape choices s t side sound =
    let last : Choice = record { s = s; t = t; side = side } in
    let long = length-append choices (last ∷ []) in
    subst (λ (choice : Choice). IsChoice shape choice) (get_or_push choices last (record { s = 0; t = 0; side = 0 }) (length choices) refl)
    (sound.fit.each (length choices) (omega (arith, long)))

-- a branch was split at a pair of segments
pub splits_name_a_pair : {P : Type 0} (objective : Objective) (Backs : Shape → List Choice → P → Verdict P → Type 0)
    (board : BoardView P) (id first s t : ℕ) → AreFacts objective Backs board → id < branch_count (board_state board) →
    standing_of (board_state board) id ≡ Done (settled.Split first s t) →
    (side : ℕ) → side < 4 → IsChoice board.shape (record { s = s; t = t; side = side })
splits_name_a_pair objective Backs board id first s t facts below done side few =
    let children = splits_have_children board.entries id first s t facts.legal below done in
    let within = children.within in
    last_fits board.shape (choices_of (board_state board) id) s t side
    (subst (λ (l : List Choice). AreSound board.shape l) (children.choices side few)
    (facts.choices (first + side) (omega (arith, within, few))))

-- and it is the branch pair at the places of the least key that the board keeps for it
pub splits_at_branch_pair : {P : Type 0} (objective : Objective) (Backs : Shape → List Choice → P → Verdict P → Type 0)
    (board : BoardView P) (id first s t : ℕ) (verdict : Verdict P) → AreFacts objective Backs board → id < branch_count (board_state board) →
    standing_of (board_state board) id ≡ Done (settled.Split first s t) → verdict_of board id ≡ Some verdict →
    HasBranchPair board.shape (choices_of (board_state board) id) verdict s t
splits_at_branch_pair {P = P} objective Backs board id first s t verdict facts below done is =
    let by : IsSettledBy objective Backs board id (settled.Split first s t) =
    subst (λ (standing : Standing). IsKeptAt objective Backs board id standing) done (facts.kept.each id below) in
    let both : Some by.verdict ≡ Some verdict = sym by.kept ∙ is in
    let same : by.verdict ≡ verdict = cc in
    subst (λ (v : Verdict P). HasBranchPair board.shape (choices_of (board_state board) id) v s t) same by.splits
