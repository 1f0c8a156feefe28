-- What a step on a lane tells the owner or the pass that made it.
use Rattle.std.specs.Prelude.{◌≡◌, ℕ, ◌<◌, List, [], Some, All, slice_set}
use Rattle.compact_types.specs.declared.search.Branch.{Branch}
use Rattle.steal_lanes.specs.declared.views.LaneView.{LaneView}
use Rattle.steal_lanes.specs.Histories.{History, next, waiting, with_handed, with_put}
use Rattle.steal_lanes.specs.Views.{HasSeat, with_branch, with_taken}
use Rattle.steal_lanes.specs.Rules.{IsLaneState}

-- The branch was put by one step of the owner, in a state of the lane in which the owner had the view
pub record IsPut (view : LaneView) (branch : Branch) (new : LaneView) : Type 0 where
  pub history : History
  pub views : List LaneView
  pub before : IsLaneState history views
  pub seated : HasSeat views 0 view
  pub put : new ≡ with_branch view branch
  pub after : IsLaneState (with_put history branch) (slice_set views 0 new)

-- The branch was handed out by one step: in a state of the lane in which this seat had the view,
-- the branch was next. The seat got its place and no other, and that place is above all places
-- that it had
pub record IsHandedOut (seat : ℕ) (view : LaneView) (branch : Branch) (new : LaneView) : Type 0 where
  pub history : History
  pub views : List LaneView
  pub before : IsLaneState history views
  pub seated : HasSeat views seat view
  pub next_is : next history ≡ Some branch
  pub got : new ≡ with_taken view history.handed branch
  pub above : All (λ taken. taken.place < history.handed) view.got
  pub after : IsLaneState (with_handed history) (slice_set views seat new)

-- there is a state of the lane in which nothing waited and this seat had the view
pub record WasEmpty (seat : ℕ) (view : LaneView) : Type 0 where
  pub history : History
  pub views : List LaneView
  pub state : IsLaneState history views
  pub seated : HasSeat views seat view
  pub empty : waiting history ≡ []
