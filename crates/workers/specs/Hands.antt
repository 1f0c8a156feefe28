-- The hand of a worker, and what the life of a worker makes of it.
use Rattle.std.specs.Prelude.{◌≡◌, ◌⊎◌, ℕ, ◌+◌, true, List, [], ◌∷◌, ◌++◌, All, map}
use Rattle.compact_types.specs.declared.plan.Shape.{Shape}
use Rattle.compact_types.specs.declared.search.Branch.{Branch}
use Rattle.board.specs.declared.entries.Entry.{Entry}
use Rattle.board.specs.declared.entries.Entry.TheVariants as entries
use Rattle.board.specs.declared.entries.Settled.TheVariants.{Split, Closed, Improved}
use Rattle.board.specs.Histories.{IsKnown, IsWaiting, open_count_of, state_of}
use Rattle.least_word.specs.declared.view.View.{View}
use Rattle.least_word.specs.Seats.{WordHome}
use Rattle.steal_lanes.specs.States.{DequeId, LaneHome}
use Rattle.ticket_board.specs.Passes.{Begins, BoardHome, PassView}
use Rattle.workers.specs.declared.hands.Hand.{Hand}
use Rattle.workers.specs.declared.hands.Other.{Other}

-- the hand is that of a worker at this ticket board and this least word
pub record IsHandAt (board : BoardHome) (word : WordHome) (hand : Hand) : Type 0 where
  pub pass : hand.pass.home ≡ board
  pub seat : hand.seat.home ≡ word

-- the ticket board and the least word are for drawings of the shape
pub record AreFor (shape : Shape) (board : BoardHome) (word : WordHome) : Type 0 where
  pub board_shape : board.shape ≡ shape
  pub word_shape : word.shape ≡ shape

-- to which lane a way into another lane leads
abbrev pub lane_of : Other → DequeId × LaneHome
lane_of other = (other.thief, other.pass.home)

-- it is the same hand: its number, and to what each of its parts belongs, are as before
pub record IsSameHand (old new : Hand) : Type 0 where
  pub number : new.number ≡ old.number
  pub board : new.pass.home ≡ old.pass.home
  pub caller : new.pass.number ≡ old.pass.number
  pub word : new.seat.home ≡ old.seat.home
  pub lane : new.lane.home ≡ old.lane.home
  pub room : new.lane.room ≡ old.lane.room
  pub others : map lane_of new.others ≡ map lane_of old.others

-- the numbers of the branches that a worker puts into its lane after an entry of its own: of a
-- split the first three children, in order. It keeps the fourth.
abbrev pub put_after : Entry → List ℕ
put_after (entries.Claimed who id) = []
put_after (entries.Settled who id (Split first s t)) = first ∷ (first + 1) ∷ (first + 2) ∷ []
put_after (entries.Settled who id Closed) = []
put_after (entries.Settled who id Improved) = []

-- those of all entries of a list, in their order
abbrev pub put_after_all : List Entry → List ℕ
put_after_all [] = []
put_after_all (entry ∷ rest) = put_after entry ++ put_after_all rest

-- What a worker has done with its hand. Its pass has seen more and has gained entries; its lane has
-- gained the branches that these entries ask for, in order and each with the choices that the
-- history gives for its number, but for those of the last numbers, which are left.
pub record HasWorked (old new : Hand) (left : List ℕ) : Type 0 where
  pub same : IsSameHand old new
  pub seen : Begins old.pass.seen new.pass.seen
  pub gained : List Entry
  pub mine : new.pass.mine ≡ old.pass.mine ++ gained
  pub put : List Branch
  pub lane : new.lane.view.put ≡ old.lane.view.put ++ put
  pub in_order : map (λ branch. branch.id) put ++ left ≡ put_after_all gained
  pub known : All (IsKnown (state_of new.pass.seen)) put

-- a branch that the first pass knew does not wait any longer in what the second has seen: a caller
-- has claimed it
abbrev pub IsTakenUp : PassView → Branch → PassView → Type 0
IsTakenUp old branch new =
    IsKnown (state_of old.seen) branch → IsWaiting (state_of new.seen) branch.id → ⊥

-- the worker may end: its pass has seen a history without an open branch, or its seat has heard of a
-- halt
abbrev pub MayEnd : Hand → Type 0
MayEnd hand = (open_count_of (state_of hand.pass.seen) ≡ 0) ⊎ (hand.seat.view.heard ≡ true)

-- the seat has called no halt since, and no seat was split off from it
pub record IsQuiet (old new : View) : Type 0 where
  pub halting : new.halting ≡ old.halting
  pub splits : new.splits ≡ old.splits

-- The life of a worker: it may end and has put every branch that it had to put, and has not halted
-- the others.
pub record HasEndedWell (old new : Hand) : Type 0 where
  pub worked : HasWorked old new []
  pub quiet : IsQuiet old.seat.view new.seat.view
  pub may_end : MayEnd new

-- Memory was refused to the worker: it has called a halt, and has put a first part of the branches
-- that it had to put.
pub record HasHalted (old new : Hand) : Type 0 where
  pub left : List ℕ
  pub worked : HasWorked old new left
  pub halting : new.seat.view.halting ≡ true
  pub heard : new.seat.view.heard ≡ true
