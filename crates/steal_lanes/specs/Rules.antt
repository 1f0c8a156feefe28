-- The rule of a lane.
use Rattle.std.specs.Prelude.{◌≡◌, ◌≢◌, ℕ, ◌≤◌, List, length, Some, slice_get, All, Contains, nat_lt, if◌then◌else◌}
use Rattle.compact_types.specs.declared.search.Branch.{Branch}
use Rattle.steal_lanes.specs.declared.views.Taken.{Taken}
use Rattle.steal_lanes.specs.declared.views.LaneView.{LaneView}
use Rattle.steal_lanes.specs.Histories.{History, waiting}
use Rattle.steal_lanes.specs.Views.{HasSeat, times_got, times_got_by_all}

-- the owner knows what was put
pub record KnowsPut (put : List Branch) (views : List LaneView) : Type 0 where
  pub owner : LaneView
  pub seated : HasSeat views 0 owner
  pub put_is : owner.put ≡ put

-- each branch that was got is the one that was put at its place
abbrev pub AreFrom : List Branch → List Taken → Type 0
AreFrom put got = All (λ taken. slice_get put taken.place ≡ Some taken.branch) got

-- A state that a lane may be in: what was put into it and handed out, and what its owner and all
-- passes know
pub record IsLaneState (history : History) (views : List LaneView) : Type 0 where
  -- no more branches were handed out than were put
  pub within : history.handed ≤ length history.put
  -- the owner knows what was put
  pub known : KnowsPut history.put views
  -- each place below the number handed out was got once, by one of them, and no other place was got
  pub once : (place : ℕ)
      → times_got_by_all place views ≡ (if nat_lt place history.handed then 1 else 0)
  -- with the branch that was put there
  pub whole : (seat : ℕ) (view : LaneView) → HasSeat views seat view → AreFrom history.put view.got

-- The rule, which holds between any two steps of any threads: the branches in the deque are those
-- that wait in some such state
pub record Keeps (branches : List Branch) (views : List LaneView) : Type 0 where
  pub history : History
  pub waits : waiting history ≡ branches
  pub state : IsLaneState history views

-- One of the owner and the passes got this place, once, with the branch that was put there, and no
-- other of them got it
pub record IsGotByOne (history : History) (views : List LaneView) (place : ℕ) : Type 0 where
  pub seat : ℕ
  pub view : LaneView
  pub seated : HasSeat views seat view
  pub branch : Branch
  pub put_there : slice_get history.put place ≡ Some branch
  pub got : Contains view.got (record { place = place; branch = branch })
  pub once : times_got place view ≡ 1
  pub no_other : (other : ℕ) (theirs : LaneView) → HasSeat views other theirs → other ≢ seat
      → times_got place theirs ≡ 0
