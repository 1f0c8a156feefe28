-- What a seat has in its turn.
use Rattle.std.specs.Prelude.{◌≡◌, ◌≢◌, ◌++◌, ℕ, List, [], ◌∷◌, MatchOption, Option, Some, None}
use Rattle.compact_types.specs.declared.plan.Shape.{Shape}
use Rattle.compact_types.specs.declared.search.Branch.{Branch}
use Rattle.compact_types.specs.declared.search.Choice.{Choice}
use Rattle.shape_graphs.specs.declared.measure.Verdict.{Verdict}
use Rattle.shape_graphs.specs.Measures.{BacksBefore}
use Rattle.board.specs.declared.entries.Claim.{Claim}
use Rattle.board.specs.declared.entries.Claim.TheVariants.{Yours, Taken, Stranger}
use Rattle.board.specs.declared.entries.Entry.{Entry}
use Rattle.board.specs.Boards.{BoardView, board_state}
use Rattle.board.specs.Histories.{HasNoParent, choices_of}
use Rattle.ticket_board.specs.declared.views.Stage.TheVariants.{Serving}
use Rattle.ticket_board.specs.declared.views.CallerView.{CallerView}
use Rattle.ticket_board.specs.Passes.{entries_by}
use Rattle.ticket_board.specs.inner.Plays.{Sat}
use Rattle.ticket_board.specs.inner.Views.{with_ticket, serving}

-- the seat is in its turn, and what is in the slot is this
pub record IsServing {P : Type 0} (me : Sat P) (inside : Option (BoardView P)) : Type 0 where
  pub stage : me.0.stage ≡ Serving
  pub slot : me.1 ≡ (0, inside) ∷ []

-- the seat has drawn a ticket and taken this board out of the slot
pub record HasTakenBoard {P : Type 0} (before : CallerView) (board : BoardView P) (me : Sat P) :
    Type 0 where
  pub ticket : ℕ
  pub view : me.0 ≡ serving (with_ticket before ticket) board.entries
  pub slot : me.1 ≡ (0, None) ∷ []

-- The board is of the shape and the callers that it was of, and its history has grown by entries of
-- this caller alone.
pub record AddsOwn {P : Type 0} (number : ℕ) (before after : BoardView P) : Type 0 where
  pub shape : after.shape ≡ before.shape
  pub given : after.given ≡ before.given
  pub added : List Entry
  pub entries : after.entries ≡ before.entries ++ added
  pub no_other : (other : ℕ) → other ≢ number → entries_by other added ≡ []

-- the board may go back: it is of the same shape and callers, and to the history that the seat noted
-- no entry of another caller was added
pub record Adds {P : Type 0} (view : CallerView) (board : BoardView P) : Type 0 where
  pub shape : board.shape ≡ view.shape
  pub given : board.given ≡ view.given
  pub added : List Entry
  pub entries : board.entries ≡ view.noted ++ added
  pub no_other : (number : ℕ) → number ≢ view.number → entries_by number added ≡ []

-- the seat is in its turn, and the board that is in the slot may go back
pub record CanPassOn {P : Type 0} (me : Sat P) : Type 0 where
  pub board : BoardView P
  pub serves : IsServing me (Some board)
  pub adds : Adds me.0 board

-- the proof that comes with a claim, from a board after it
abbrev pub IsProofBefore : {P : Type 0} → (Shape → List Choice → P → Verdict P → Type 0) →
    BoardView P → Branch → Claim → Option P → Type 0
IsProofBefore Backs board branch Yours found =
    MatchOption found (HasNoParent (board_state board) branch.id)
    (λ proof. BacksBefore (Backs board.shape) (choices_of (board_state board) branch.id) proof)
IsProofBefore Backs board branch Taken found = found ≡ None
IsProofBefore Backs board branch Stranger found = found ≡ None
