-- What contracts see of a lane, a pass and a thief.
use Rattle.std.specs.Prelude.{ℕ}
use Rattle.std.specs.declared.alloc.Global.{Global}
use Rattle.atomic_blocks.specs.Lent.{RowsId}
use Rattle.atomic_table.specs.Seated.{TableId}
use Rattle.steal_lanes.specs.declared.views.LaneView.{LaneView}

-- which deque it is, and with it which lane. It is all that a thief shows
abbrev pub DequeId : Type 0
DequeId = RowsId × Global

-- to which lane something belongs: its deque, and the table that counts the splits of its passes
pub record LaneHome : Type 0 where
  pub deque : DequeId
  pub counts : TableId

-- a lane: which one it is, how many puts are never refused, and what its owner knows
pub record LaneState : Type 0 where
  pub home : LaneHome
  pub room : ℕ
  pub view : LaneView

-- a pass: to which lane it belongs, what it knows, how many branches it knows to have been handed
-- out, and its count of splits
pub record PassState : Type 0 where
  pub home : LaneHome
  pub view : LaneView
  pub known : ℕ
  pub splits : ℕ
