-- What stands after one more entry, branch by branch.
use Rattle.std.proofs.Common.{◌≡◌, ℕ, ◌+◌, ◌-◌, ◌<◌, ◌≤◌, IsTrue, List, [], length, slice_index_or, slice_set, ◌⊎◌, inl, inr, ap, ◌∙◌, arith, length-append}
use Rattle.std.proofs.lemmas.Bool.{cases_lt, both_ways}
use Rattle.std.proofs.lemmas.List.{length-set, get_or_append_left, get_or-append_right, get_or_past, get_or-set_same, get_or-set_other}
use Rattle.board.specs.declared.entries.Entry.TheVariants as entries
use Rattle.board.specs.declared.entries.Settled.{Settled}
use Rattle.board.specs.declared.entries.Settled.TheVariants as settled
use Rattle.board.specs.declared.standings.Standing.{Standing}
use Rattle.board.specs.declared.standings.Standing.TheVariants.{Held, Done}
use Rattle.board.specs.Histories.{State, after, branch_count, choices_of, standing_of, is_open, IsOpen, IsWaiting, IsHeldBy, choices_opened, standings_opened}

-- a settled branch is not open
pub open_not_done : (standing : Standing) (what : Settled) → standing ≡ Done what → IsTrue (is_open standing) → ⊥
open_not_done standing what done is = both_ways (is_open standing) (ap is_open done) is

-- an open branch is one of the branches
pub open_below : (state : State) (id : ℕ) → IsOpen state id → id < branch_count state
open_below state id is = by_order (cases_lt id (branch_count state))
  where
    by_order : (id < branch_count state) ⊎ (branch_count state ≤ id) → id < branch_count state
    by_order (inl below) = below
    by_order (inr past) = absurd (open_not_done (standing_of state id) settled.Closed (get_or_past state.standings id (Done settled.Closed) past) is)

pub waiting_open : (state : State) (id : ℕ) → IsWaiting state id → IsOpen state id
waiting_open state id is = ap is_open is

pub held_open : (state : State) (id who : ℕ) → IsHeldBy state id who → IsOpen state id
held_open state id who is = ap is_open is

module _ (state : State) (who id : ℕ) (below : id < branch_count state) where
  -- a claim changes the standing of its branch alone
  pub claimed_same : standing_of (after state (entries.Claimed who id)) id ≡ Held who
  claimed_same = get_or-set_same state.standings id (Held who) (Done settled.Closed) below

  pub claimed_other : (j : ℕ) → (j ≡ id → ⊥) → standing_of (after state (entries.Claimed who id)) j ≡ standing_of state j
  claimed_other j other = get_or-set_other state.standings id j (Held who) (Done settled.Closed) other

  pub claimed_count : branch_count (after state (entries.Claimed who id)) ≡ branch_count state
  claimed_count = length-set state.standings id (Held who)

module _ (state : State) (same : length state.choices ≡ branch_count state) (who id : ℕ) (what : Settled) (below : id < branch_count state) where
  -- how many branches there are after a settle
  pub settled_count : branch_count (after state (entries.Settled who id what)) ≡ branch_count state + length (standings_opened what)
  settled_count =
      let both = length-append (slice_set state.standings id (Done what)) (standings_opened what) in
      let set = length-set state.standings id (Done what) in
      omega (arith, both, set)

  -- the branches that there were keep their choices
  pub choices_before : (j : ℕ) → j < branch_count state → choices_of (after state (entries.Settled who id what)) j ≡ choices_of state j
  choices_before j inside = get_or_append_left state.choices (choices_opened (choices_of state id) what) [] j (omega (arith, inside, same))

  -- those that were opened have the choices that were opened
  pub choices_behind : (j : ℕ) → branch_count state ≤ j →
      choices_of (after state (entries.Settled who id what)) j ≡ slice_index_or (choices_opened (choices_of state id) what) (j - branch_count state) []
  choices_behind j past = get_or-append_right state.choices (choices_opened (choices_of state id) what) (branch_count state) j [] same past

  abbrev standings_set : List Standing
  standings_set = slice_set state.standings id (Done what)

  -- the settled branch is done, and the others stand as before
  pub standing_same : standing_of (after state (entries.Settled who id what)) id ≡ Done what
  standing_same =
      get_or_append_left standings_set (standings_opened what) (Done settled.Closed) id (omega (arith, below, length-set state.standings id (Done what)))
      ∙ get_or-set_same state.standings id (Done what) (Done settled.Closed) below

  pub standing_other : (j : ℕ) → j < branch_count state → (j ≡ id → ⊥) → standing_of (after state (entries.Settled who id what)) j ≡ standing_of state j
  standing_other j inside other =
      get_or_append_left standings_set (standings_opened what) (Done settled.Closed) j (omega (arith, inside, length-set state.standings id (Done what)))
      ∙ get_or-set_other state.standings id j (Done what) (Done settled.Closed) other

  -- those that were opened wait
  pub standing_behind : (j : ℕ) → branch_count state ≤ j →
      standing_of (after state (entries.Settled who id what)) j ≡ slice_index_or (standings_opened what) (j - branch_count state) (Done settled.Closed)
  standing_behind j past =
      get_or-append_right standings_set (standings_opened what) (branch_count state) j (Done settled.Closed) (length-set state.standings id (Done what)) past
