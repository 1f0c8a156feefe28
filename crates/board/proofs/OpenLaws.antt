-- How many branches are open after an entry.
use Rattle.std.proofs.Common.{◌≡◌, ℕ, ◌+◌, ◌<◌, ◌≤◌, Bool, true, false, List, [], ◌∷◌, ◌++◌, length, ◌⊎◌, inl, inr, sym, ap, refl, ◌∙◌, arith}
use Rattle.std.specs.Prelude.{slice_set, sum_by, if◌then◌else◌}
use Rattle.std.proofs.lemmas.Bool.{cases_lt}
use Rattle.std.proofs.lemmas.List.{get_or_past}
use Rattle.std.proofs.lemmas.List.Sums.{sum_by-append, sum_by-set}
use Rattle.board.specs.declared.entries.Entry.{Entry}
use Rattle.board.specs.declared.entries.Entry.TheVariants as entries
use Rattle.board.specs.declared.entries.Settled.{Settled}
use Rattle.board.specs.declared.entries.Settled.TheVariants as settled
use Rattle.board.specs.declared.standings.Standing.{Standing}
use Rattle.board.specs.declared.standings.Standing.TheVariants.{Waiting, Held, Done}
use Rattle.board.specs.Histories.{State, branch_count, standing_of, is_open, IsOpen, IsWaiting, IsHeldBy, IsSettled, open_count_of, standings_opened, Fits, after, state_of, IsLegal}
use Rattle.board.proofs.HistoryLaws.{all_fit-append}

-- what a standing counts for
abbrev pub counts : Standing → ℕ
counts standing = if (is_open standing) then 1 else 0

-- an open branch is there
pub open_inside : (state : State) (id : ℕ) → IsOpen state id → id < branch_count state
open_inside state id is = by_place (cases_lt id (branch_count state))
  where
    by_place : (id < branch_count state) ⊎ (branch_count state ≤ id) → id < branch_count state
    by_place (inl inside) = inside
    by_place (inr past) =
        absurd (let e : false ≡ true = sym (ap is_open (get_or_past state.standings id (Done settled.Closed) past)) ∙ is in cc)

pub waiting_open : (state : State) (id : ℕ) → IsWaiting state id → IsOpen state id
waiting_open state id waits = ap is_open waits

pub held_open : (state : State) (id who : ℕ) → IsHeldBy state id who → IsOpen state id
held_open state id who held = ap is_open held

pub fits_open : (state : State) (who id : ℕ) → Fits state (entries.Claimed who id) → IsOpen state id
fits_open state who id fits = waiting_open state id fits

-- one standing is replaced
count_set : (state : State) (id : ℕ) (standing : Standing) → id < branch_count state →
    sum_by counts (slice_set state.standings id standing) + counts (standing_of state id) ≡ open_count_of state + counts standing
count_set state id standing inside = sum_by-set counts state.standings id standing (Done settled.Closed) inside

pub some_open : (state : State) (id : ℕ) → IsOpen state id → 0 < open_count_of state
some_open state id is =
    let set = count_set state id (Done settled.Closed) (open_inside state id is) in
    let one : counts (standing_of state id) ≡ 1 = ap (λ (b : Bool). if b then 1 else 0) is in
    let none : counts (Done settled.Closed) ≡ 0 = refl in
    omega (arith, set, one, none)

pub none_open : (state : State) → open_count_of state ≡ 0 → (id : ℕ) → IsOpen state id → ⊥
none_open state none id is = let some = some_open state id is in omega (arith, none, some)

-- so without an open branch every branch is settled
pub all_settled : (state : State) → open_count_of state ≡ 0 → (id : ℕ) → id < branch_count state → IsSettled state id
all_settled state none id below = by_standing (standing_of state id) refl
  where
    by_standing : (standing : Standing) → standing_of state id ≡ standing → IsSettled state id
    by_standing Waiting is = absurd (none_open state none id (waiting_open state id is))
    by_standing (Held who) is = absurd (none_open state none id (held_open state id who is))
    by_standing (Done what) is = record { what = what; outcome = record { below = below; done = is } }

pub open_claimed : (state : State) (who id : ℕ) → Fits state (entries.Claimed who id) → open_count_of (after state (entries.Claimed who id)) ≡ open_count_of state
open_claimed state who id fits =
    let set = count_set state id (Held who) (open_inside state id (waiting_open state id fits)) in
    let one : counts (standing_of state id) ≡ 1 = ap counts fits in
    let held : counts (Held who) ≡ 1 = refl in
    omega (arith, set, one, held)

-- each branch that is opened waits
count_opened : (what : Settled) → sum_by counts (standings_opened what) ≡ length (standings_opened what)
count_opened (settled.Split first s t) = refl
count_opened settled.Closed = refl
count_opened settled.Improved = refl

pub open_settled : (state : State) (who id : ℕ) (what : Settled) → Fits state (entries.Settled who id what) →
    open_count_of (after state (entries.Settled who id what)) + 1 ≡ open_count_of state + length (standings_opened what)
open_settled state who id what fits =
    let set = count_set state id (Done what) (open_inside state id (held_open state id who fits.0)) in
    let one : counts (standing_of state id) ≡ 1 = ap counts fits.0 in
    let none : counts (Done what) ≡ 0 = refl in
    let more = sum_by-append counts (slice_set state.standings id (Done what)) (standings_opened what) in
    let opened = count_opened what in
    omega (arith, set, one, none, more, opened)

-- an entry that fits is on an open branch
pub entry_open : (state : State) (entry : Entry) → Fits state entry → 0 < open_count_of state
entry_open state (entries.Claimed who id) fits = some_open state id (waiting_open state id fits)
entry_open state (entries.Settled who id what) fits = some_open state id (held_open state id who fits.0)

-- where no branch is open no entry can follow
pub nothing_opens_again : (history rest : List Entry) → IsLegal (history ++ rest) → open_count_of (state_of history) ≡ 0 → rest ≡ []
nothing_opens_again history [] legal none = refl
nothing_opens_again history (entry ∷ rest) legal none =
    let fits = ((all_fit-append _ history (entry ∷ rest)).0 legal).1.0 in
    let some = entry_open (state_of history) entry fits in
    absurd (omega (arith, none, some))
