-- What stands after longer histories.
use Rattle.std.proofs.Common.{◌≡◌, ◌↔◌, ℕ, ◌<◌, ◌≤◌, List, [], ◌∷◌, ◌++◌, length, ◌⊎◌, inl, inr, subst, sym, ap, refl, ◌∙◌, arith}
use Rattle.std.specs.Prelude.{slice_set}
use Rattle.std.proofs.lemmas.Bool.{cases_eq}
use Rattle.std.proofs.lemmas.List.{length-append, length-set, get_or_append_left, get_or-set_other}
use Rattle.compact_types.specs.declared.search.Choice.{Choice}
use Rattle.board.specs.declared.entries.Entry.{Entry}
use Rattle.board.specs.declared.entries.Entry.TheVariants as entries
use Rattle.board.specs.declared.entries.Settled.{Settled}
use Rattle.board.specs.declared.entries.Settled.TheVariants as settled
use Rattle.board.specs.declared.standings.Standing.TheVariants.{Waiting, Held, Done}
use Rattle.board.specs.Histories.{State, opened, branch_count, choices_of, standing_of, choices_opened, standings_opened, Fits, after, replayed, state_of, AllFit, IsLegal}

-- a history with entries added is replayed in two parts
pub replayed-append : (state : State) (before rest : List Entry) → replayed state (before ++ rest) ≡ replayed (replayed state before) rest
replayed-append state [] rest = refl
replayed-append state (entry ∷ before) rest = replayed-append (after state entry) before rest

fit_front : (state : State) (before rest : List Entry) → AllFit state (before ++ rest) → AllFit state before
fit_front state [] rest fit = tt
fit_front state (entry ∷ before) rest fit = (fit.0, fit_front (after state entry) before rest fit.1)

fit_back : (state : State) (before rest : List Entry) → AllFit state (before ++ rest) → AllFit (replayed state before) rest
fit_back state [] rest fit = fit
fit_back state (entry ∷ before) rest fit = fit_back (after state entry) before rest fit.1

fit_both : (state : State) (before rest : List Entry) → AllFit state before → AllFit (replayed state before) rest → AllFit state (before ++ rest)
fit_both state [] rest front back = back
fit_both state (entry ∷ before) rest front back = (front.0, fit_both (after state entry) before rest front.1 back)

pub all_fit-append : (state : State) (before rest : List Entry) → AllFit state (before ++ rest) ↔ (AllFit state before × AllFit (replayed state before) rest)
all_fit-append state before rest =
    (λ fit. (fit_front state before rest fit, fit_back state before rest fit), λ both. fit_both state before rest both.0 both.1)

pub state_with : (history : List Entry) (entry : Entry) → state_of (history ++ entry ∷ []) ≡ after (state_of history) entry
state_with history entry = replayed-append opened history (entry ∷ [])

pub legal_with : (history : List Entry) (entry : Entry) → IsLegal history → Fits (state_of history) entry → IsLegal (history ++ entry ∷ [])
legal_with history entry legal fits = fit_both opened history (entry ∷ []) legal (fits, tt)

-- as many choices as standings are opened
opened_same : (parent : List Choice) (what : Settled) → length (choices_opened parent what) ≡ length (standings_opened what)
opened_same parent (settled.Split first s t) = refl
opened_same parent settled.Closed = refl
opened_same parent settled.Improved = refl

pub after_same : (state : State) (entry : Entry) → length state.choices ≡ branch_count state → length (after state entry).choices ≡ branch_count (after state entry)
after_same state (entries.Claimed who id) same = same ∙ sym (length-set state.standings id (Held who))
after_same state (entries.Settled who id what) same =
    let choices = length-append state.choices (choices_opened (choices_of state id) what) in
    let standings = length-append (slice_set state.standings id (Done what)) (standings_opened what) in
    let set = length-set state.standings id (Done what) in
    let opened = opened_same (choices_of state id) what in
    omega (arith, same, choices, standings, set, opened)

replayed_same : (state : State) (rest : List Entry) → length state.choices ≡ branch_count state → length (replayed state rest).choices ≡ branch_count (replayed state rest)
replayed_same state [] same = same
replayed_same state (entry ∷ rest) same = replayed_same (after state entry) rest (after_same state entry same)

pub same_count : (history : List Entry) → length (state_of history).choices ≡ branch_count (state_of history)
same_count history = replayed_same opened history refl

-- no entry takes branches away
after_more : (state : State) (entry : Entry) → branch_count state ≤ branch_count (after state entry)
after_more state (entries.Claimed who id) = let set = length-set state.standings id (Held who) in omega (arith, set)
after_more state (entries.Settled who id what) =
    let standings = length-append (slice_set state.standings id (Done what)) (standings_opened what) in
    let set = length-set state.standings id (Done what) in
    omega (arith, standings, set)

replayed_more : (state : State) (rest : List Entry) → branch_count state ≤ branch_count (replayed state rest)
replayed_more state [] = omega arith
replayed_more state (entry ∷ rest) =
    let one = after_more state entry in
    let more = replayed_more (after state entry) rest in
    omega (arith, one, more)

pub known_stays : (history rest : List Entry) → branch_count (state_of history) ≤ branch_count (state_of (history ++ rest))
known_stays history rest = subst (λ (state : State). branch_count (state_of history) ≤ branch_count state) (sym (replayed-append opened history rest)) (replayed_more (state_of history) rest)

pub some_branch : (history : List Entry) → 0 < branch_count (state_of history)
some_branch history = let more = replayed_more opened history in omega (arith, more)

-- the choices of a branch that is there stay
after_choices : (state : State) (entry : Entry) (id : ℕ) → id < length state.choices → choices_of (after state entry) id ≡ choices_of state id
after_choices state (entries.Claimed who j) id inside = refl
after_choices state (entries.Settled who j what) id inside = get_or_append_left state.choices (choices_opened (choices_of state j) what) [] id inside

after_inside : (state : State) (entry : Entry) (id : ℕ) → id < length state.choices → id < length (after state entry).choices
after_inside state (entries.Claimed who j) id inside = inside
after_inside state (entries.Settled who j what) id inside =
    let more = length-append state.choices (choices_opened (choices_of state j) what) in omega (arith, inside, more)

replayed_choices : (state : State) (rest : List Entry) (id : ℕ) → id < length state.choices → choices_of (replayed state rest) id ≡ choices_of state id
replayed_choices state [] id inside = refl
replayed_choices state (entry ∷ rest) id inside =
    replayed_choices (after state entry) rest id (after_inside state entry id inside) ∙ after_choices state entry id inside

pub choices_stay : (history rest : List Entry) (id : ℕ) → id < branch_count (state_of history) → choices_of (state_of (history ++ rest)) id ≡ choices_of (state_of history) id
choices_stay history rest id inside =
    let same = same_count history in
    ap (λ (state : State). choices_of state id) (replayed-append opened history rest)
    ∙ replayed_choices (state_of history) rest id (omega (arith, same, inside))

pub first_choices : (history : List Entry) → choices_of (state_of history) 0 ≡ []
first_choices history = replayed_choices opened history 0 (omega arith)

-- a settled branch keeps its outcome
done_stays : (state : State) (entry : Entry) (id : ℕ) (what : Settled) → Fits state entry → id < branch_count state → standing_of state id ≡ Done what →
    standing_of (after state entry) id ≡ Done what
done_stays state (entries.Claimed who j) id what fits inside done = by_id (cases_eq id j)
  where
    by_id : (id ≡ j) ⊎ (id ≡ j → ⊥) → standing_of (after state (entries.Claimed who j)) id ≡ Done what
    by_id (inl same) = absurd (let e : Done what ≡ Waiting = sym done ∙ ap (standing_of state) same ∙ fits in cc)
    by_id (inr other) = get_or-set_other state.standings j id (Held who) (Done settled.Closed) other ∙ done
done_stays state (entries.Settled who j outcome) id what fits inside done = by_id (cases_eq id j)
  where
    by_id : (id ≡ j) ⊎ (id ≡ j → ⊥) → standing_of (after state (entries.Settled who j outcome)) id ≡ Done what
    by_id (inl same) = absurd (let e : Done what ≡ Held who = sym done ∙ ap (standing_of state) same ∙ fits.0 in cc)
    by_id (inr other) =
        let set = length-set state.standings j (Done outcome) in
        get_or_append_left (slice_set state.standings j (Done outcome)) (standings_opened outcome) (Done settled.Closed) id (omega (arith, set, inside))
        ∙ get_or-set_other state.standings j id (Done outcome) (Done settled.Closed) other ∙ done

replayed_done : (state : State) (rest : List Entry) (id : ℕ) (what : Settled) → AllFit state rest → id < branch_count state → standing_of state id ≡ Done what →
    standing_of (replayed state rest) id ≡ Done what
replayed_done state [] id what fit inside done = done
replayed_done state (entry ∷ rest) id what fit inside done =
    let more = after_more state entry in
    replayed_done (after state entry) rest id what fit.1 (omega (arith, more, inside)) (done_stays state entry id what fit.0 inside done)

pub settled_stays : (history rest : List Entry) (id : ℕ) (what : Settled) → IsLegal (history ++ rest) → id < branch_count (state_of history) →
    standing_of (state_of history) id ≡ Done what → standing_of (state_of (history ++ rest)) id ≡ Done what
settled_stays history rest id what legal inside done =
    ap (λ (state : State). standing_of state id) (replayed-append opened history rest)
    ∙ replayed_done (state_of history) rest id what (fit_back opened history rest legal) inside done
