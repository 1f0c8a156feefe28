-- What a turn leaves: nothing is held, and less work is left.
use Rattle.std.proofs.Common.{◌≡◌, ℕ, zero, suc, ◌+◌, ◌-◌, ◌<◌, ◌≤◌, List, [], ◌∷◌, length, ◌⊎◌, inl, inr, refl, sym, ap, ◌∙◌, subst, count_by, Option, Some, None, MatchOption, arith}
use Rattle.std.specs.Prelude.{slice_index_or, slice_set}
use Rattle.std.proofs.lemmas.Bool.{cases_eq, cases_lt}
use Rattle.std.proofs.lemmas.List.{length-set, get_or_append_left, get_or-append_right, get_or_past, get_or-set_same, get_or-set_other}
use Rattle.compact_types.specs.declared.limits.TheConstants.{MOST_PAIRS}
use Rattle.compact_types.specs.declared.places.Key.{Key}
use Rattle.compact_types.specs.declared.plan.Shape.{Shape}
use Rattle.compact_types.specs.declared.search.Branch.{Branch}
use Rattle.compact_types.specs.declared.search.Choice.{Choice}
use Rattle.compact_types.specs.Bests.{Objective}
use Rattle.bars.specs.Solutions.{Fit}
use Rattle.shape_graphs.specs.declared.measure.Verdict.{Verdict}
use Rattle.board.specs.declared.entries.Entry.{Entry}
use Rattle.board.specs.declared.entries.Entry.TheVariants as entries
use Rattle.board.specs.declared.entries.Settled.{Settled}
use Rattle.board.specs.declared.entries.Settled.TheVariants as settled
use Rattle.board.specs.declared.standings.Standing.{Standing}
use Rattle.board.specs.declared.standings.Standing.TheVariants.{Waiting, Held, Done}
use Rattle.board.specs.Boards.{BoardView, board_state, opened_board, enlisted, after_claim, after_settle, IsCaller, IsLatestWaiting, NoneWaits}
use Rattle.board.specs.Facts.{AreFacts}
use Rattle.board.specs.Histories.{State, opened, after, branch_count, choices_of, standing_of, standings_opened, open_count_of, is_open, IsWaiting, IsHeldBy, Fits}
use Rattle.board.specs.Verdicts.{IsBranchPairFor, IsSoundVerdict}
use Rattle.board.specs.Works.{work_left}
use Rattle.workers.specs.inner.Turns.{IsBetweenTurns, IsAfterTurn, work_ahead}
use Rattle.board.proofs.Laws.{all_fit-append, state_with, work_stays, work_falls, few_choices_of}

-- a branch that stands otherwise than done is one of the branches
waiting_below : (state : State) (id : ℕ) → IsWaiting state id → id < branch_count state
waiting_below state id waits = by_order (cases_lt id (branch_count state))
  where
    by_order : (id < branch_count state) ⊎ (branch_count state ≤ id) → id < branch_count state
    by_order (inl below) = below
    by_order (inr past) =
        let done : standing_of state id ≡ Done settled.Closed = get_or_past state.standings id (Done settled.Closed) past in
        absurd (cc)

-- the branches that are opened are not held
opened_not_held : (what : Settled) (j holder : ℕ) → slice_index_or (standings_opened what) j (Done settled.Closed) ≡ Held holder → ⊥
opened_not_held settled.Closed zero holder is = cc
opened_not_held settled.Closed (suc j) holder is = cc
opened_not_held settled.Improved zero holder is = cc
opened_not_held settled.Improved (suc j) holder is = cc
opened_not_held (settled.Split first s t) zero holder is = cc
opened_not_held (settled.Split first s t) (suc zero) holder is = cc
opened_not_held (settled.Split first s t) (suc (suc zero)) holder is = cc
opened_not_held (settled.Split first s t) (suc (suc (suc zero))) holder is = cc
opened_not_held (settled.Split first s t) (suc (suc (suc (suc j)))) holder is = cc

-- once the claimed branch is settled nothing is held, where nothing was before
module _ (state : State) (who id : ℕ) (waits : IsWaiting state id) where
  pub held_by_claim : IsHeldBy (after state (entries.Claimed who id)) id who
  held_by_claim = get_or-set_same state.standings id (Held who) (Done settled.Closed) (waiting_below state id waits)

  module _ (what : Settled) (none : (j holder : ℕ) → IsHeldBy state j holder → ⊥) where
    abbrev done : List Standing
    done = slice_set (slice_set state.standings id (Held who)) id (Done what)

    done_length : length done ≡ length state.standings
    done_length = length-set (slice_set state.standings id (Held who)) id (Done what) ∙ length-set state.standings id (Held who)

    not_held_before : (j holder : ℕ) → j < length state.standings → slice_index_or done j (Done settled.Closed) ≡ Held holder → ⊥
    not_held_before j holder below is = by_branch (cases_eq j id)
      where
        by_branch : (j ≡ id) ⊎ (j ≡ id → ⊥) → ⊥
        by_branch (inl same) =
            let inside : j < length (slice_set state.standings id (Held who)) = omega (arith, below, length-set state.standings id (Held who)) in
            let settled : slice_index_or done j (Done settled.Closed) ≡ Done what =
            subst (λ (i : ℕ). slice_index_or (slice_set (slice_set state.standings id (Held who)) i (Done what)) j (Done settled.Closed) ≡ Done what) same
            (get_or-set_same (slice_set state.standings id (Held who)) j (Done what) (Done settled.Closed) inside) in
            cc
        by_branch (inr other) =
            let first = get_or-set_other (slice_set state.standings id (Held who)) id j (Done what) (Done settled.Closed) other in
            let second = get_or-set_other state.standings id j (Held who) (Done settled.Closed) other in
            none j holder (sym second ∙ sym first ∙ is)

    pub none_held_after : (j holder : ℕ) → IsHeldBy (after (after state (entries.Claimed who id)) (entries.Settled who id what)) j holder → ⊥
    none_held_after j holder is = by_order (cases_lt j (length state.standings))
      where
        by_order : (j < length state.standings) ⊎ (length state.standings ≤ j) → ⊥
        by_order (inl below) =
            not_held_before j holder below
            (sym (get_or_append_left done (standings_opened what) (Done settled.Closed) j (omega (arith, below, done_length))) ∙ is)
        by_order (inr past) =
            opened_not_held what (j - length state.standings) holder
            (sym (get_or-append_right done (standings_opened what) (length state.standings) j (Done settled.Closed) done_length past) ∙ is)

-- where no branch waits and none is held, none is open
none_open_of : (standings : List Standing) → ((j : ℕ) → slice_index_or standings j (Done settled.Closed) ≡ Waiting → ⊥) →
    ((j holder : ℕ) → slice_index_or standings j (Done settled.Closed) ≡ Held holder → ⊥) → count_by is_open standings ≡ 0
none_open_of [] waits held = refl
none_open_of (Waiting ∷ rest) waits held = absurd (waits 0 refl)
none_open_of (Held who ∷ rest) waits held = absurd (held 0 who refl)
none_open_of (Done what ∷ rest) waits held =
    let none = none_open_of rest (λ j. waits (suc j)) (λ j. held (suc j)) in
    omega (arith, none)

pub none_open : {P : Type 0} (shape : Shape) (who : ℕ) (board : BoardView P) → IsBetweenTurns shape who board → NoneWaits (board_state board) →
    open_count_of (board_state board) ≡ 0
none_open shape who board between none_waits = none_open_of (board_state board).standings none_waits between.none_held

-- no branch of a new board is held
opened_none_held : (j holder : ℕ) → IsHeldBy opened j holder → ⊥
opened_none_held zero holder is = cc
opened_none_held (suc j) holder is = cc

-- a new board on which the worker is enlisted stands as between two turns
pub at_first : {P : Type 0} (shape : Shape) (key : Key) (who : ℕ) (made board : BoardView P) → made ≡ opened_board shape key → board ≡ enlisted made →
    who ≡ made.given + 1 → IsBetweenTurns shape who board
at_first {P} shape key who made board is_made is number =
    let same = is ∙ ap (λ (b : BoardView P). enlisted b) is_made in
    let first : who ≡ 1 = number ∙ ap (λ (b : BoardView P). b.given + 1) is_made in
    subst (λ (b : BoardView P). IsBetweenTurns shape who b) (sym same)
    (record { shape_kept = refl; caller = record { positive = omega (arith, first); known = omega (arith, first) }; none_held = opened_none_held })

-- what is sound on a shape and choices is sound on the same shape and choices as a board has them
pub sound_on_board : {P : Type 0} (objective : Objective) (Backs : Shape → List Choice → P → Verdict P → Type 0) (board : BoardView P) (shape : Shape) → board.shape ≡ shape →
    (choices others : List Choice) → choices ≡ others → (verdict : Verdict P) →
    IsSoundVerdict objective Backs shape others verdict → IsSoundVerdict objective Backs board.shape choices verdict
sound_on_board objective Backs board shape same_shape choices others same_choices verdict sound =
    subst (λ (s : Shape). IsSoundVerdict objective Backs s choices verdict) (sym same_shape)
    (subst (λ (cs : List Choice). IsSoundVerdict objective Backs shape cs verdict) (sym same_choices) sound)

-- a proof to begin with, if there is one
pub start_from : {X : Type 0} (start : Option X) (None_ : Type 0) (Backs : X → Type 0) → MatchOption start None_ Backs → MatchOption start (Unit {0}) Backs
start_from None None_ Backs none = tt
start_from (Some proof) None_ Backs backs = backs

-- and so is the pair
pub pair_on_board : {P : Type 0} (board : BoardView P) (shape : Shape) → board.shape ≡ shape → (choices others : List Choice) → choices ≡ others →
    (verdict : Verdict P) (pair : Option (ℕ × ℕ)) → IsBranchPairFor shape others verdict pair → IsBranchPairFor board.shape choices verdict pair
pair_on_board board shape same_shape choices others same_choices verdict pair at =
    subst (λ (s : Shape). IsBranchPairFor s choices verdict pair) (sym same_shape)
    (subst (λ (cs : List Choice). IsBranchPairFor shape cs verdict pair) (sym same_choices) at)

module _ {P : Type 0} (objective : Objective) (Backs : Shape → List Choice → P → Verdict P → Type 0) (shape : Shape) (who : ℕ) (old : BoardView P) where
  -- what is known of the board on which the branch is claimed
  pub record IsClaimed (branch : Branch) (claimed : BoardView P) : Type 0 where
    pub shape_kept : claimed.shape ≡ shape
    pub caller : IsCaller claimed.given who
    pub held : IsHeldBy (board_state claimed) branch.id who
    pub choices : choices_of (board_state claimed) branch.id ≡ branch.choices.choices
    pub fit : Fit shape branch.choices.choices

  module _ (between : IsBetweenTurns shape who old) (branch : Branch) (latest : IsLatestWaiting (board_state old) branch) where
    abbrev claim : Entry
    claim = entries.Claimed who branch.id

    abbrev claimed_board : BoardView P
    claimed_board = after_claim old who branch.id

    state_claimed : board_state claimed_board ≡ after (board_state old) claim
    state_claimed = state_with old.entries claim

    still_held : IsHeldBy (board_state claimed_board) branch.id who
    still_held = subst (λ (s : State). IsHeldBy s branch.id who) (sym state_claimed) (held_by_claim (board_state old) who branch.id latest.waits)

    same_choices : choices_of (board_state claimed_board) branch.id ≡ branch.choices.choices
    same_choices = ap (λ (s : State). choices_of s branch.id) state_claimed ∙ sym latest.choices

    held_below : (state : State) → IsHeldBy state branch.id who → branch.id < branch_count state
    held_below state held = by_order (cases_lt branch.id (branch_count state))
      where
        by_order : (branch.id < branch_count state) ⊎ (branch_count state ≤ branch.id) → branch.id < branch_count state
        by_order (inl below) = below
        by_order (inr past) =
            let done : standing_of state branch.id ≡ Done settled.Closed = get_or_past state.standings branch.id (Done settled.Closed) past in
            absurd (cc)

    now_claimed : AreFacts objective Backs claimed_board → IsClaimed branch claimed_board
    now_claimed facts = record {
      shape_kept = between.shape_kept;
      caller = between.caller;
      held = still_held;
      choices = same_choices;
      fit =
          let sound = facts.choices branch.id (held_below (board_state claimed_board) still_held) in
          subst (λ (s : Shape). Fit s branch.choices.choices) between.shape_kept
          (subst (λ (cs : List Choice). Fit old.shape cs) same_choices sound.fit);
    }

    pub claimed_from : (claimed : BoardView P) → claimed ≡ claimed_board → AreFacts objective Backs claimed → IsClaimed branch claimed
    claimed_from claimed is facts =
        subst (λ (b : BoardView P). IsClaimed branch b) (sym is) (now_claimed (subst (λ (b : BoardView P). AreFacts objective Backs b) is facts))

    module _ (verdict : Verdict P) (what : Settled) where
      abbrev settle : Entry
      settle = entries.Settled who branch.id what

      abbrev settled_board : BoardView P
      settled_board = after_settle claimed_board who branch.id verdict what

      state_settled : board_state settled_board ≡ after (board_state claimed_board) settle
      state_settled = state_with claimed_board.entries settle

      state_by_both : board_state settled_board ≡ after (after (board_state old) claim) settle
      state_by_both = state_settled ∙ ap (λ (s : State). after s settle) state_claimed

      few_choices_after : AreFacts objective Backs settled_board →
          (child : ℕ) → child < branch_count (after (board_state claimed_board) settle) →
          length (choices_of (after (board_state claimed_board) settle) child) ≤ MOST_PAIRS
      few_choices_after facts =
          subst (λ (s : State). (child : ℕ) → child < branch_count s → length (choices_of s child) ≤ MOST_PAIRS) state_settled
          (λ child below. few_choices_of old.shape (choices_of (board_state settled_board) child) facts.shape (facts.choices child below))

      fits_settle : AreFacts objective Backs settled_board → Fits (board_state claimed_board) settle
      fits_settle facts = ((all_fit-append opened claimed_board.entries (settle ∷ [])).0 facts.legal).1.0

      less_work_after : AreFacts objective Backs settled_board → work_ahead (board_state settled_board) < work_ahead (board_state old)
      unfolding work_ahead
      less_work_after facts =
          let falls = work_falls MOST_PAIRS claimed_board.entries who branch.id what (fits_settle facts) (few_choices_after facts) in
          let stays = work_stays MOST_PAIRS old.entries who branch.id latest.waits in
          let first = ap (λ (s : State). work_left MOST_PAIRS s) state_claimed in
          let second = ap (λ (s : State). work_left MOST_PAIRS s) state_settled in
          omega (arith, falls, stays, first, second)

      now_settled : AreFacts objective Backs settled_board → IsAfterTurn shape who old settled_board
      now_settled facts = record {
        between = record {
          shape_kept = between.shape_kept;
          caller = between.caller;
          none_held = λ j holder held.
              none_held_after (board_state old) who branch.id latest.waits what between.none_held j holder
              (subst (λ (s : State). IsHeldBy s j holder) state_by_both held);
        };
        less_work = less_work_after facts;
      }

    pub after_turn : (claimed new : BoardView P) (verdict : Verdict P) (what : Settled) → claimed ≡ claimed_board →
        new ≡ after_settle claimed who branch.id verdict what → AreFacts objective Backs new → IsAfterTurn shape who old new
    after_turn claimed new verdict what is settled facts =
        let same : new ≡ settled_board verdict what = settled ∙ ap (λ (b : BoardView P). after_settle b who branch.id verdict what) is in
        subst (λ (b : BoardView P). IsAfterTurn shape who old b) (sym same)
        (now_settled verdict what (subst (λ (b : BoardView P). AreFacts objective Backs b) same facts))
