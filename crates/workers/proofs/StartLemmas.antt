-- What becomes of the branch that a worker begins with.
use Rattle.std.proofs.Common.{◌≡◌, ℕ, ◌<◌, List, [], ◌∷◌, ◌⊎◌, inl, inr, sym, ap, ◌∙◌, subst, arith}
use Rattle.std.specs.Prelude.{MatchOption, Option, Some, None, slice_set}
use Rattle.std.proofs.lemmas.Bool.{cases_eq}
use Rattle.std.proofs.lemmas.List.{get_or_append_left, get_or-set_other, get_or-set_same, length-append, length-set}
use Rattle.compact_types.specs.declared.search.Branch.{Branch}
use Rattle.board.specs.declared.entries.Claim.{Claim}
use Rattle.board.specs.declared.entries.Claim.TheVariants.{Yours, Taken, Stranger}
use Rattle.board.specs.declared.entries.Entry.{Entry}
use Rattle.board.specs.declared.entries.Entry.TheVariants as entries
use Rattle.board.specs.declared.entries.Settled.TheVariants.{Closed}
use Rattle.board.specs.declared.standings.Standing.TheVariants.{Done, Held, Waiting}
use Rattle.board.specs.Histories.{IsWaiting, State, after, branch_count, opened, replayed, standing_of, standings_opened, state_of}
use Rattle.board.proofs.Laws.{replayed-append, state_with}
use Rattle.ticket_board.specs.Passes.{Begins, BoardHome, HasSeenMore, PassView}
use Rattle.ticket_board.specs.Turns.{IsClaimed}
use Rattle.workers.specs.declared.hands.Hand.{Hand}
use Rattle.least_word.specs.Seats.{WordHome}
use Rattle.workers.specs.Hands.{IsHandAt, IsTakenUp}
use Rattle.workers.specs.inner.Lives.{IsGoing, IsLiving, IsOutOfMemory}
use Rattle.workers.proofs.HandLemmas.{going_further, known_later}

-- a branch that does not wait does not wait after an entry
not_waiting_after : (state : State) (entry : Entry) (id : ℕ) → id < branch_count state → (IsWaiting state id → ⊥) →
    IsWaiting (after state entry) id → ⊥
not_waiting_after state (entries.Claimed who j) id below not waits = by_id (cases_eq id j)
  where
    by_id : (id ≡ j) ⊎ (id ≡ j → ⊥) → ⊥
    by_id (inl same) =
        let held : standing_of (after state (entries.Claimed who j)) id ≡ Held who =
        subst (λ (i : ℕ). standing_of (after state (entries.Claimed who i)) id ≡ Held who) same
        (get_or-set_same state.standings id (Held who) (Done Closed) below) in
        absurd (let e : Held who ≡ Waiting = sym held ∙ waits in cc)
    by_id (inr other) = not (sym (get_or-set_other state.standings j id (Held who) (Done Closed) other) ∙ waits)
not_waiting_after state (entries.Settled who j what) id below not waits = by_id (cases_eq id j)
  where
    inside : standing_of (after state (entries.Settled who j what)) id ≡ standing_of (record { choices = state.choices; standings = slice_set state.standings j (Done what) }) id
    inside =
        let set = length-set state.standings j (Done what) in
        get_or_append_left (slice_set state.standings j (Done what)) (standings_opened what) (Done Closed) id (omega (arith, set, below))

    by_id : (id ≡ j) ⊎ (id ≡ j → ⊥) → ⊥
    by_id (inl same) =
        let done : standing_of (record { choices = state.choices; standings = slice_set state.standings j (Done what) }) id ≡ Done what =
        subst (λ (i : ℕ). standing_of (record { choices = state.choices; standings = slice_set state.standings i (Done what) }) id ≡ Done what) same
        (get_or-set_same state.standings id (Done what) (Done Closed) below) in
        absurd (let e : Done what ≡ Waiting = sym done ∙ sym inside ∙ waits in cc)
    by_id (inr other) = not (sym (get_or-set_other state.standings j id (Done what) (Done Closed) other) ∙ sym inside ∙ waits)

more_after : (state : State) (entry : Entry) (id : ℕ) → id < branch_count state → id < branch_count (after state entry)
more_after state (entries.Claimed who j) id below = let set = length-set state.standings j (Held who) in omega (arith, set, below)
more_after state (entries.Settled who j what) id below =
    let set = length-set state.standings j (Done what) in
    let all = length-append (slice_set state.standings j (Done what)) (standings_opened what) in
    omega (arith, set, all, below)

not_waiting_replayed : (state : State) (rest : List Entry) (id : ℕ) → id < branch_count state → (IsWaiting state id → ⊥) →
    IsWaiting (replayed state rest) id → ⊥
not_waiting_replayed state [] id below not = not
not_waiting_replayed state (entry ∷ rest) id below not =
    not_waiting_replayed (after state entry) rest id (more_after state entry id below) (not_waiting_after state entry id below not)

-- nor after a longer history
not_waiting_later : (front whole : List Entry) (id : ℕ) → Begins front whole → id < branch_count (state_of front) →
    (IsWaiting (state_of front) id → ⊥) → IsWaiting (state_of whole) id → ⊥
not_waiting_later front whole id later below not =
    subst (λ (state : State). IsWaiting state id → ⊥)
    (sym (ap state_of later.whole_is ∙ replayed-append opened front later.rest))
    (not_waiting_replayed (state_of front) later.rest id below not)

-- a branch that was taken up stays so
pub taken_up_later : (old mid new : PassView) (branch : Branch) → Begins old.seen mid.seen → Begins mid.seen new.seen →
    IsTakenUp old branch mid → IsTakenUp old branch new
taken_up_later old mid new branch first second taken known =
    let there = known_later old.seen mid.seen branch first known in
    not_waiting_later mid.seen new.seen branch.id second there.below (taken known)

begun_further : (old mid new : PassView) (start : Option Branch) → Begins old.seen mid.seen → Begins mid.seen new.seen →
    MatchOption start (Unit {0}) (λ branch. IsTakenUp old branch mid) → MatchOption start (Unit {0}) (λ branch. IsTakenUp old branch new)
begun_further old mid new None first second taken = tt
begun_further old mid new (Some branch) first second taken = taken_up_later old mid new branch first second taken

-- a claim takes the branch up
pub taken_up_by_claim : (old new : PassView) (branch : Branch) (claim : Claim) → IsClaimed old branch claim new → HasSeenMore old new →
    IsTakenUp old branch new
taken_up_by_claim old new branch Stranger claimed more known = absurd (claimed.0 (known_later old.seen new.seen branch more.later known))
taken_up_by_claim old new branch Taken claimed more known = claimed.1
taken_up_by_claim old new branch Yours granted more known = λ waits.
    let held : standing_of (after (state_of granted.before) (entries.Claimed new.number branch.id)) branch.id ≡ Held new.number =
    get_or-set_same (state_of granted.before).standings branch.id (Held new.number) (Done Closed) granted.known.below in
    let same : state_of new.seen ≡ after (state_of granted.before) (entries.Claimed new.number branch.id) =
    ap state_of granted.seen ∙ state_with granted.before (entries.Claimed new.number branch.id) in
    absurd (let e : Held new.number ≡ Waiting = sym held ∙ ap (λ (state : State). standing_of state branch.id) (sym same) ∙ waits in cc)

-- the life of a worker goes on
pub living_further : (old mid new : Hand) (start : Option Branch) → IsLiving old start mid → IsGoing mid new → IsLiving old start new
living_further old mid new start living going = record {
  going = going_further old mid new living.going going;
  begun = begun_further old.pass mid.pass new.pass start living.going.worked.seen going.worked.seen living.begun;
}

-- or it is stopped
pub begun_where_stopped : (old mid new : Hand) (start : Option Branch) → IsLiving old start mid → IsOutOfMemory mid new →
    MatchOption start (Unit {0}) (λ branch. IsTakenUp old.pass branch new.pass)
begun_where_stopped old mid new start living stopped =
    begun_further old.pass mid.pass new.pass start living.going.worked.seen stopped.worked.seen living.begun

-- the hand stays at its ticket board and its least word
pub still_at : (board : BoardHome) (word : WordHome) (old new : Hand) → IsHandAt board word old → IsGoing old new → IsHandAt board word new
still_at board word old new at going = record {
  pass = going.worked.same.board ∙ at.pass;
  seat = going.worked.same.word ∙ at.seat;
}
