-- What a legal history tells of each branch.
use Rattle.std.proofs.Common.{◌≡◌, ℕ, zero, suc, ◌+◌, ◌-◌, ◌<◌, ◌≤◌, List, [], ◌∷◌, ◌++◌, length, ◌⊎◌, inl, inr, subst, sym, ap, refl, ◌∙◌, arith}
use Rattle.std.specs.Prelude.{slice_index_or, slice_set, slice_get, Some, None, Contains}
use Rattle.std.proofs.lemmas.Bool.{cases_eq, cases_lt}
use Rattle.std.proofs.lemmas.List.{append-nil, append_assoc, length-append, length-set, get_or_append_left, get_or-append_right, get_or-set_same, get_or-set_other}
use Rattle.std.proofs.lemmas.Option.{slice_get_within, slice_get-get_or, get_or_from_slice_get}
use Rattle.board.specs.declared.entries.Entry.{Entry}
use Rattle.board.specs.declared.entries.Entry.TheVariants as entries
use Rattle.board.specs.declared.entries.Settled.{Settled}
use Rattle.board.specs.declared.entries.Settled.TheVariants as settled
use Rattle.board.specs.declared.standings.Standing.TheVariants.{Waiting, Held, Done}
use Rattle.board.specs.Histories.{State, opened, branch_count, standing_of, IsWaiting, IsHeldBy, open_count_of, standings_opened, Fits, after, state_of, AllFit, IsLegal}
use Rattle.board.specs.Tellings.{branch_of, IsTold}
use Rattle.board.proofs.HistoryLaws.{state_with}
use Rattle.board.proofs.OpenLaws.{open_inside, waiting_open, held_open, none_open}

-- one entry more at the end of a list
last_entry : (history : List Entry) (entry : Entry) → slice_get (history ++ entry ∷ []) (length history) ≡ Some entry
last_entry [] entry = refl
last_entry (first ∷ history) entry = last_entry history entry

entry_before : (history : List Entry) (entry : Entry) (i : ℕ) → i < length history → slice_get (history ++ entry ∷ []) i ≡ slice_get history i
entry_before [] entry i inside = absurd (omega (arith, inside))
entry_before (first ∷ history) entry zero inside = refl
entry_before (first ∷ history) entry (suc i) inside = entry_before history entry i (omega (arith, inside))

old_or_last : (history : List Entry) (entry : Entry) (i : ℕ) (found : Entry) → slice_get (history ++ entry ∷ []) i ≡ Some found →
    (slice_get history i ≡ Some found) ⊎ ((i ≡ length history) × (entry ≡ found))
old_or_last [] entry zero found is = inr (refl, (let e : Some entry ≡ Some found = is in cc))
old_or_last [] entry (suc i) found is = absurd (let e : None ≡ Some found = is in cc)
old_or_last (first ∷ history) entry zero found is = inl is
old_or_last (first ∷ history) entry (suc i) found is = by_place (old_or_last history entry i found is)
  where
    by_place : (slice_get history i ≡ Some found) ⊎ ((i ≡ length history) × (entry ≡ found)) →
        (slice_get history i ≡ Some found) ⊎ ((suc i ≡ suc (length history)) × (entry ≡ found))
    by_place (inl old) = inl old
    by_place (inr last) = inr (ap suc last.0, last.1)

still_there : (history : List Entry) (entry : Entry) (i : ℕ) (found : Entry) → slice_get history i ≡ Some found → slice_get (history ++ entry ∷ []) i ≡ Some found
still_there history entry i found is = entry_before history entry i (slice_get_within history i found is) ∙ is

-- no entry is on the branch
abbrev NoEntry : List Entry → ℕ → Type 0
NoEntry history id = (i : ℕ) (entry : Entry) → slice_get history i ≡ Some entry → branch_of entry ≡ id → ⊥

-- one entry is on the branch: the caller has claimed it
record IsClaimedOnce (history : List Entry) (id who : ℕ) : Type 0 where
  claim : ℕ
  claimed : slice_get history claim ≡ Some (entries.Claimed who id)
  no_other : (i : ℕ) (entry : Entry) → slice_get history i ≡ Some entry → branch_of entry ≡ id → i ≡ claim

-- what a history tells of a branch that stands so
data Story (history : List Entry) (state : State) (id : ℕ) : Type 0 where
  unknown : branch_count state ≤ id → NoEntry history id → Story history state id
  waiting : IsWaiting state id → NoEntry history id → Story history state id
  held : (who : ℕ) → IsHeldBy state id who → IsClaimedOnce history id who → Story history state id
  done : (what : Settled) → id < branch_count state → standing_of state id ≡ Done what → IsTold history id → Story history state id

-- an entry on another branch changes none of it
none_more : (history : List Entry) (entry : Entry) (id : ℕ) → (branch_of entry ≡ id → ⊥) → NoEntry history id → NoEntry (history ++ entry ∷ []) id
none_more history entry id other none i found is on = by_place (old_or_last history entry i found is)
  where
    by_place : (slice_get history i ≡ Some found) ⊎ ((i ≡ length history) × (entry ≡ found)) → ⊥
    by_place (inl old) = none i found old on
    by_place (inr last) = other (ap branch_of last.1 ∙ on)

claimed_more : (history : List Entry) (entry : Entry) (id who : ℕ) → (branch_of entry ≡ id → ⊥) → IsClaimedOnce history id who → IsClaimedOnce (history ++ entry ∷ []) id who
claimed_more history entry id who other once = record {
  claim = once.claim;
  claimed = still_there history entry once.claim (entries.Claimed who id) once.claimed;
  no_other = λ i found is on. by_place i found on (old_or_last history entry i found is);
}
  where
    by_place : (i : ℕ) (found : Entry) → branch_of found ≡ id → (slice_get history i ≡ Some found) ⊎ ((i ≡ length history) × (entry ≡ found)) → i ≡ once.claim
    by_place i found on (inl old) = once.no_other i found old on
    by_place i found on (inr last) = absurd (other (ap branch_of last.1 ∙ on))

told_more : (history : List Entry) (entry : Entry) (id : ℕ) → (branch_of entry ≡ id → ⊥) → IsTold history id → IsTold (history ++ entry ∷ []) id
told_more history entry id other told = record {
  who = told.who;
  what = told.what;
  claim = told.claim;
  settle = told.settle;
  in_order = told.in_order;
  claimed = still_there history entry told.claim (entries.Claimed told.who id) told.claimed;
  settled = still_there history entry told.settle (entries.Settled told.who id told.what) told.settled;
  no_other = λ i found is on. by_place i found on (old_or_last history entry i found is);
}
  where
    by_place : (i : ℕ) (found : Entry) → branch_of found ≡ id → (slice_get history i ≡ Some found) ⊎ ((i ≡ length history) × (entry ≡ found)) →
        (i ≡ told.claim) ⊎ (i ≡ told.settle)
    by_place i found on (inl old) = told.no_other i found old on
    by_place i found on (inr last) = absurd (other (ap branch_of last.1 ∙ on))

-- the entry that claims the branch, where no entry was on it
claimed_now : (history : List Entry) (id who : ℕ) → NoEntry history id → IsClaimedOnce (history ++ entries.Claimed who id ∷ []) id who
claimed_now history id who none = record {
  claim = length history;
  claimed = last_entry history (entries.Claimed who id);
  no_other = λ i found is on. by_place i found on (old_or_last history (entries.Claimed who id) i found is);
}
  where
    by_place : (i : ℕ) (found : Entry) → branch_of found ≡ id → (slice_get history i ≡ Some found) ⊎ ((i ≡ length history) × (entries.Claimed who id ≡ found)) → i ≡ length history
    by_place i found on (inl old) = absurd (none i found old on)
    by_place i found on (inr last) = last.0

-- the entry that settles the branch, where its caller had claimed it
told_now : (history : List Entry) (id who : ℕ) (what : Settled) → IsClaimedOnce history id who → IsTold (history ++ entries.Settled who id what ∷ []) id
told_now history id who what once = record {
  who = who;
  what = what;
  claim = once.claim;
  settle = length history;
  in_order = slice_get_within history once.claim (entries.Claimed who id) once.claimed;
  claimed = still_there history (entries.Settled who id what) once.claim (entries.Claimed who id) once.claimed;
  settled = last_entry history (entries.Settled who id what);
  no_other = λ i found is on. by_place i found on (old_or_last history (entries.Settled who id what) i found is);
}
  where
    by_place : (i : ℕ) (found : Entry) → branch_of found ≡ id → (slice_get history i ≡ Some found) ⊎ ((i ≡ length history) × (entries.Settled who id what ≡ found)) →
        (i ≡ once.claim) ⊎ (i ≡ length history)
    by_place i found on (inl old) = inl (once.no_other i found old on)
    by_place i found on (inr last) = inr last.0

-- a branch that is opened waits
opened_waits : (what : Settled) (k : ℕ) → k < length (standings_opened what) → slice_index_or (standings_opened what) k (Done settled.Closed) ≡ Waiting
opened_waits (settled.Split first s t) zero inside = refl
opened_waits (settled.Split first s t) (suc zero) inside = refl
opened_waits (settled.Split first s t) (suc (suc zero)) inside = refl
opened_waits (settled.Split first s t) (suc (suc (suc zero))) inside = refl
opened_waits (settled.Split first s t) (suc (suc (suc (suc k)))) inside = absurd (omega (arith, inside))
opened_waits settled.Closed k inside = absurd (omega (arith, inside))
opened_waits settled.Improved k inside = absurd (omega (arith, inside))

-- a claim
story_claimed : (history : List Entry) (state : State) (who j id : ℕ) → Fits state (entries.Claimed who j) → Story history state id →
    Story (history ++ entries.Claimed who j ∷ []) (after state (entries.Claimed who j)) id
story_claimed history state who j id fits story = by_id (cases_eq id j)
  where
    no_entry : id ≡ j → Story history state id → NoEntry history id
    no_entry same (unknown past none) = none
    no_entry same (waiting waits none) = none
    no_entry same (held by is once) = absurd (let e : Held by ≡ Waiting = sym is ∙ ap (standing_of state) same ∙ fits in cc)
    no_entry same (done what inside is told) = absurd (let e : Done what ≡ Waiting = sym is ∙ ap (standing_of state) same ∙ fits in cc)

    this_one : id ≡ j → Story (history ++ entries.Claimed who id ∷ []) (after state (entries.Claimed who id)) id
    this_one same =
        let waits : IsWaiting state id = ap (standing_of state) same ∙ fits in
        held who (get_or-set_same state.standings id (Held who) (Done settled.Closed) (open_inside state id (waiting_open state id waits)))
        (claimed_now history id who (no_entry same story))

    same_standing : (id ≡ j → ⊥) → standing_of (after state (entries.Claimed who j)) id ≡ standing_of state id
    same_standing other = get_or-set_other state.standings j id (Held who) (Done settled.Closed) other

    another : (id ≡ j → ⊥) → Story history state id → Story (history ++ entries.Claimed who j ∷ []) (after state (entries.Claimed who j)) id
    another other (unknown past none) =
        let set = length-set state.standings j (Held who) in
        unknown (omega (arith, set, past)) (none_more history (entries.Claimed who j) id (λ same. other (sym same)) none)
    another other (waiting waits none) =
        waiting (same_standing other ∙ waits) (none_more history (entries.Claimed who j) id (λ same. other (sym same)) none)
    another other (held by is once) =
        held by (same_standing other ∙ is) (claimed_more history (entries.Claimed who j) id by (λ same. other (sym same)) once)
    another other (done what inside is told) =
        let set = length-set state.standings j (Held who) in
        done what (omega (arith, set, inside)) (same_standing other ∙ is) (told_more history (entries.Claimed who j) id (λ same. other (sym same)) told)

    by_id : (id ≡ j) ⊎ (id ≡ j → ⊥) → Story (history ++ entries.Claimed who j ∷ []) (after state (entries.Claimed who j)) id
    by_id (inl same) = subst (λ (k : ℕ). Story (history ++ entries.Claimed who k ∷ []) (after state (entries.Claimed who k)) id) same (this_one same)
    by_id (inr other) = another other story

-- a settle
story_settled : (history : List Entry) (state : State) (who j : ℕ) (what : Settled) (id : ℕ) → Fits state (entries.Settled who j what) → Story history state id →
    Story (history ++ entries.Settled who j what ∷ []) (after state (entries.Settled who j what)) id
story_settled history state who j what id fits story = by_id (cases_eq id j)
  where
    once_of : id ≡ j → Story history state id → IsClaimedOnce history id who
    once_of same (unknown past none) =
        let inside = open_inside state id (held_open state id who (ap (standing_of state) same ∙ fits.0)) in absurd (omega (arith, past, inside))
    once_of same (waiting waits none) = absurd (let e : Waiting ≡ Held who = sym waits ∙ ap (standing_of state) same ∙ fits.0 in cc)
    once_of same (held by is once) =
        let e : Held by ≡ Held who = sym is ∙ ap (standing_of state) same ∙ fits.0 in
        let who_is : by ≡ who = cc in
        subst (λ (w : ℕ). IsClaimedOnce history id w) who_is once
    once_of same (done outcome inside is told) = absurd (let e : Done outcome ≡ Held who = sym is ∙ ap (standing_of state) same ∙ fits.0 in cc)

    set_length : length (slice_set state.standings j (Done what)) ≡ branch_count state
    set_length = length-set state.standings j (Done what)

    all_length : branch_count (after state (entries.Settled who j what)) ≡ length (slice_set state.standings j (Done what)) + length (standings_opened what)
    all_length = length-append (slice_set state.standings j (Done what)) (standings_opened what)

    this_one : id ≡ j → Story (history ++ entries.Settled who j what ∷ []) (after state (entries.Settled who j what)) id
    this_one same =
        let inside = open_inside state id (held_open state id who (ap (standing_of state) same ∙ fits.0)) in
        let j_inside : j < branch_count state = subst (λ (k : ℕ). k < branch_count state) same inside in
        let stands : standing_of (after state (entries.Settled who j what)) j ≡ Done what =
        get_or_append_left (slice_set state.standings j (Done what)) (standings_opened what) (Done settled.Closed) j (omega (arith, set_length, j_inside))
        ∙ get_or-set_same state.standings j (Done what) (Done settled.Closed) j_inside in
        let told : IsTold (history ++ entries.Settled who j what ∷ []) id =
        subst (λ (k : ℕ). IsTold (history ++ entries.Settled who k what ∷ []) id) same (told_now history id who what (once_of same story)) in
        done what (omega (arith, set_length, all_length, inside)) (ap (standing_of (after state (entries.Settled who j what))) same ∙ stands) told

    same_standing : (id ≡ j → ⊥) → id < branch_count state → standing_of (after state (entries.Settled who j what)) id ≡ standing_of state id
    same_standing other inside =
        get_or_append_left (slice_set state.standings j (Done what)) (standings_opened what) (Done settled.Closed) id (omega (arith, set_length, inside))
        ∙ get_or-set_other state.standings j id (Done what) (Done settled.Closed) other

    new_or_not : (id ≡ j → ⊥) → branch_count state ≤ id → NoEntry history id → (id < branch_count (after state (entries.Settled who j what))) ⊎ (branch_count (after state (entries.Settled who j what)) ≤ id) → Story (history ++ entries.Settled who j what ∷ []) (after state (entries.Settled who j what)) id
    new_or_not other past none (inl inside) =
        waiting (get_or-append_right (slice_set state.standings j (Done what)) (standings_opened what) (branch_count state) id (Done settled.Closed) set_length past
        ∙ opened_waits what (id - branch_count state) (omega (arith, set_length, all_length, inside, past)))
        (none_more history (entries.Settled who j what) id (λ same. other (sym same)) none)
    new_or_not other past none (inr still) = unknown still (none_more history (entries.Settled who j what) id (λ same. other (sym same)) none)

    another : (id ≡ j → ⊥) → Story history state id → Story (history ++ entries.Settled who j what ∷ []) (after state (entries.Settled who j what)) id
    another other (unknown past none) = new_or_not other past none (cases_lt id (branch_count (after state (entries.Settled who j what))))
    another other (waiting waits none) =
        waiting (same_standing other (open_inside state id (waiting_open state id waits)) ∙ waits)
        (none_more history (entries.Settled who j what) id (λ same. other (sym same)) none)
    another other (held by is once) =
        held by (same_standing other (open_inside state id (held_open state id by is)) ∙ is)
        (claimed_more history (entries.Settled who j what) id by (λ same. other (sym same)) once)
    another other (done outcome inside is told) =
        done outcome (omega (arith, set_length, all_length, inside)) (same_standing other inside ∙ is)
        (told_more history (entries.Settled who j what) id (λ same. other (sym same)) told)

    by_id : (id ≡ j) ⊎ (id ≡ j → ⊥) → Story (history ++ entries.Settled who j what ∷ []) (after state (entries.Settled who j what)) id
    by_id (inl same) = this_one same
    by_id (inr other) = another other story

story_with : (history : List Entry) (state : State) (entry : Entry) (id : ℕ) → Fits state entry → Story history state id → Story (history ++ entry ∷ []) (after state entry) id
story_with history state (entries.Claimed who j) id fits story = story_claimed history state who j id fits story
story_with history state (entries.Settled who j what) id fits story = story_settled history state who j what id fits story

stories : (before rest : List Entry) → AllFit (state_of before) rest → ((id : ℕ) → Story before (state_of before) id) → (id : ℕ) → Story (before ++ rest) (state_of (before ++ rest)) id
stories before [] fit told id = subst (λ (history : List Entry). Story history (state_of history) id) (sym (append-nil before)) (told id)
stories before (entry ∷ rest) fit told id =
    subst (λ (history : List Entry). Story history (state_of history) id) (append_assoc before (entry ∷ []) rest)
    (stories (before ++ entry ∷ []) rest
    (subst (λ (state : State). AllFit state rest) (sym (state_with before entry)) fit.1)
    (λ k. subst (λ (state : State). Story (before ++ entry ∷ []) state k) (sym (state_with before entry)) (story_with before (state_of before) entry k fit.0 (told k)))
    id)

first_story : (id : ℕ) → Story [] opened id
first_story zero = waiting refl (λ i entry is on. (let e : None ≡ Some entry = is in cc))
first_story (suc id) = unknown (omega arith) (λ i entry is on. (let e : None ≡ Some entry = is in cc))

story_of : (history : List Entry) → IsLegal history → (id : ℕ) → Story history (state_of history) id
story_of history legal id = stories [] history legal first_story id

pub told : (history : List Entry) (id : ℕ) → IsLegal history → open_count_of (state_of history) ≡ 0 → id < branch_count (state_of history) → IsTold history id
told history id legal none inside = by_story (story_of history legal id)
  where
    by_story : Story history (state_of history) id → IsTold history id
    by_story (unknown past no_entry) = absurd (omega (arith, past, inside))
    by_story (waiting waits no_entry) = absurd (none_open (state_of history) none id (waiting_open (state_of history) id waits))
    by_story (held who is once) = absurd (none_open (state_of history) none id (held_open (state_of history) id who is))
    by_story (done what below is tells) = tells

-- an element of a list stands at some place
place_of : (history : List Entry) (entry : Entry) → Contains history entry → (k : ℕ) × (slice_get history k ≡ Some entry)
place_of history entry has = (has.0, slice_get-get_or history has.0 entry has.1 ∙ ap Some has.2)

contains_at : (history : List Entry) (entry : Entry) (k : ℕ) → slice_get history k ≡ Some entry → Contains history entry
contains_at history entry k is = (k, slice_get_within history k entry is, get_or_from_slice_get history k entry entry is)

pub holder_holds : (history : List Entry) (who id : ℕ) → IsLegal history → Contains history (entries.Claimed who id) →
    ((what : Settled) → Contains history (entries.Settled who id what) → ⊥) → IsHeldBy (state_of history) id who
holder_holds history who id legal claims not_settled = by_story (story_of history legal id)
  where
    at : (k : ℕ) × (slice_get history k ≡ Some (entries.Claimed who id))
    at = place_of history (entries.Claimed who id) claims

    by_story : Story history (state_of history) id → IsHeldBy (state_of history) id who
    by_story (unknown past none) = absurd (none at.0 (entries.Claimed who id) at.1 refl)
    by_story (waiting waits none) = absurd (none at.0 (entries.Claimed who id) at.1 refl)
    by_story (held by is once) =
        let place = once.no_other at.0 (entries.Claimed who id) at.1 refl in
        let found : slice_get history once.claim ≡ Some (entries.Claimed who id) = ap (slice_get history) (sym place) ∙ at.1 in
        let e : Some (entries.Claimed by id) ≡ Some (entries.Claimed who id) = sym once.claimed ∙ found in
        let who_is : by ≡ who = cc in
        subst (λ (w : ℕ). IsHeldBy (state_of history) id w) who_is is
    by_story (done what below is tells) = absurd (by_place (tells.no_other at.0 (entries.Claimed who id) at.1 refl))
      where
        by_place : (at.0 ≡ tells.claim) ⊎ (at.0 ≡ tells.settle) → ⊥
        by_place (inl place) =
            let found : slice_get history tells.claim ≡ Some (entries.Claimed who id) = ap (slice_get history) (sym place) ∙ at.1 in
            let e : Some (entries.Claimed tells.who id) ≡ Some (entries.Claimed who id) = sym tells.claimed ∙ found in
            let who_is : tells.who ≡ who = cc in
            not_settled tells.what (contains_at history (entries.Settled who id tells.what) tells.settle
            (subst (λ (w : ℕ). slice_get history tells.settle ≡ Some (entries.Settled w id tells.what)) who_is tells.settled))
        by_place (inr place) =
            let found : slice_get history tells.settle ≡ Some (entries.Claimed who id) = ap (slice_get history) (sym place) ∙ at.1 in
            let e : Some (entries.Settled tells.who id tells.what) ≡ Some (entries.Claimed who id) = sym tells.settled ∙ found in
            cc

pub held_claimed : (history : List Entry) (who id : ℕ) → IsLegal history → IsHeldBy (state_of history) id who → Contains history (entries.Claimed who id)
held_claimed history who id legal holds = by_story (story_of history legal id)
  where
    by_story : Story history (state_of history) id → Contains history (entries.Claimed who id)
    by_story (unknown past none) =
        let inside = open_inside (state_of history) id (held_open (state_of history) id who holds) in absurd (omega (arith, past, inside))
    by_story (waiting waits none) = absurd (let e : Waiting ≡ Held who = sym waits ∙ holds in cc)
    by_story (held by is once) =
        let e : Held by ≡ Held who = sym is ∙ holds in
        let who_is : by ≡ who = cc in
        contains_at history (entries.Claimed who id) once.claim
        (subst (λ (w : ℕ). slice_get history once.claim ≡ Some (entries.Claimed w id)) who_is once.claimed)
    by_story (done what below is tells) = absurd (let e : Done what ≡ Held who = sym is ∙ holds in cc)

pub held_not_settled : (history : List Entry) (who id : ℕ) (what : Settled) → IsLegal history → IsHeldBy (state_of history) id who →
    Contains history (entries.Settled who id what) → ⊥
held_not_settled history who id what legal holds settles = by_story (story_of history legal id)
  where
    at : (k : ℕ) × (slice_get history k ≡ Some (entries.Settled who id what))
    at = place_of history (entries.Settled who id what) settles

    by_story : Story history (state_of history) id → ⊥
    by_story (unknown past none) = none at.0 (entries.Settled who id what) at.1 refl
    by_story (waiting waits none) = none at.0 (entries.Settled who id what) at.1 refl
    by_story (held by is once) =
        let place = once.no_other at.0 (entries.Settled who id what) at.1 refl in
        let found : slice_get history once.claim ≡ Some (entries.Settled who id what) = ap (slice_get history) (sym place) ∙ at.1 in
        let e : Some (entries.Claimed by id) ≡ Some (entries.Settled who id what) = sym once.claimed ∙ found in
        cc
    by_story (done outcome below is tells) = (let e : Done outcome ≡ Held who = sym is ∙ holds in cc)
