-- What holds in the middle of a worker's life, and when several have ended.
use Rattle.std.specs.Prelude.{◌≡◌, ◌⊎◌, ℕ, true, List, [], length, All, MatchOption, Option}
use Rattle.compact_types.specs.declared.search.Branch.{Branch}
use Rattle.board.specs.Histories.{open_count_of, state_of}
use Rattle.least_word.specs.Seats.{SeatView, WordHome}
use Rattle.least_word.specs.Views.{after_halt}
use Rattle.ticket_board.specs.Passes.{Begins, BoardHome, PassView}
use Rattle.workers.specs.declared.desks.Desk.{Desk}
use Rattle.workers.specs.declared.hands.Hand.{Hand}
use Rattle.workers.specs.Hands.{HasWorked, IsHandAt, IsQuiet, IsTakenUp}

-- the worker goes on: it has put every branch that it had to put, and has called no halt
pub record IsGoing (old new : Hand) : Type 0 where
  pub worked : HasWorked old new []
  pub quiet : IsQuiet old.seat.view new.seat.view

-- the worker that was given this branch to begin with goes on: the branch, if its pass knew it, does
-- not wait any longer
pub record IsLiving (old : Hand) (start : Option Branch) (new : Hand) : Type 0 where
  pub going : IsGoing old new
  pub begun : MatchOption start (Unit {0}) (λ branch. IsTakenUp old.pass branch new.pass)

-- memory was refused to the worker before it had put every branch that it had to put
pub record IsOutOfMemory (old new : Hand) : Type 0 where
  pub left : List ℕ
  pub worked : HasWorked old new left

-- the hand after it has called a halt
abbrev pub halting : Hand → Hand
halting hand =
    record hand { seat = record hand.seat { view = after_halt hand.seat.view } }

-- the desks are those of workers at this ticket board and this least word
abbrev pub AreDesksAt : BoardHome → WordHome → List Desk → Type 0
AreDesksAt board word desks = All (λ desk. IsHandAt board word desk.hand) desks

-- there are as many desks, and each is at the same ticket board and the same least word
pub record AreSameDesks (old new : List Desk) : Type 0 where
  pub count : length new ≡ length old
  pub kept : (board : BoardHome) (word : WordHome) → AreDesksAt board word old →
      AreDesksAt board word new

-- Workers at this ticket board and this least word have ended, and what they knew has met in the
-- pass and the seat: no branch is open, or one of them has heard of a halt.
pub record HaveEnded (board : BoardHome) (word : WordHome) (pass : PassView) (seat : SeatView) :
    Type 0 where
  pub pass_at : pass.home ≡ board
  pub seat_at : seat.home ≡ word
  pub why : (open_count_of (state_of pass.seen) ≡ 0) ⊎ (seat.view.heard ≡ true)

-- what each worker at the desks knew of the history is in what this pass has seen
abbrev pub HaveAllMet : List Desk → PassView → Type 0
HaveAllMet desks pass = All (λ desk. Begins desk.hand.pass.seen pass.seen) desks
