-- What each step tells its caller.
use Rattle.std.specs.Prelude.{◌≡◌, ◌⊎◌, ℕ, ◌%◌, ◌^◌, [], ◌∷◌, Option, Some}
use Rattle.atomic_table.specs.Table.{Me, Step}
use Rattle.board.specs.Boards.{BoardView, IsCaller}
use Rattle.ticket_board.specs.declared.views.CallerView.{CallerView}
use Rattle.ticket_board.specs.Passes.{Begins, entries_by}
use Rattle.ticket_board.specs.inner.Views.{with_ticket, serving, after_turn}

-- a seat's view, and what it holds of the slot
abbrev pub Sat : Type 0 → Type 0
Sat P = Me (Option (BoardView P)) CallerView

abbrev pub Move : Type 0 → Type 0
Move P = Step (Option (BoardView P))

-- The board is the one that the seat serves: it has the shape and the callers that the seat knows,
-- begins with all that the seat has seen, and of its caller has the seat's own entries.
pub record IsBoardOf {P : Type 0} (view : CallerView) (board : BoardView P) : Type 0 where
  pub shape : board.shape ≡ view.shape
  pub given : board.given ≡ view.given
  pub caller : IsCaller board.given view.number
  pub later : Begins view.seen board.entries
  pub own : entries_by view.number board.entries ≡ view.mine

-- draw: the seat holds the ticket, and the word was its number modulo 2^64
pub record IsDrawn {P : Type 0} (before : Sat P) (found : ℕ) (after : Sat P) : Type 0 where
  pub ticket : ℕ
  pub me : after ≡ (with_ticket before.0 ticket, before.1)
  pub word : found ≡ ticket % 2 ^ 64

abbrev pub drew : {P : Type 0} → Move P → Sat P → ℕ → Sat P → Type 0
drew step before found after = IsDrawn before found after

-- watch, where the ticket is served: the seat takes the slot, and notes the history of its board
pub record IsServed {P : Type 0} (before after : Sat P) : Type 0 where
  pub board : BoardView P
  pub is_its : IsBoardOf before.0 board
  pub me : after ≡ (serving before.0 board.entries, (0, Some board) ∷ before.1)

abbrev pub watched : {P : Type 0} → Move P → Sat P → ℕ → Sat P → Type 0
watched step before found after =
    (found ≡ before.0.ticket % 2 ^ 64 → IsServed before after)
    × ((found ≡ before.0.ticket % 2 ^ 64 → ⊥) → after ≡ before)

-- pass on: the slot goes home with the board, the seat has seen its history, and its turn ends
abbrev pub passed_on : {P : Type 0} → Move P → Sat P → ℕ → Sat P → Type 0
passed_on {P} step before found after =
    (board : BoardView P) → before.1 ≡ (0, Some board) ∷ [] →
    after ≡ (after_turn before.0 board.entries, [])

-- a load that compares what the seat has seen with what it was told: from then on it has seen the
-- longer of the two, and both begin it
pub record IsCompared (before after : CallerView) : Type 0 where
  pub same : after ≡ record before { seen = after.seen }
  pub one : (after.seen ≡ before.seen) ⊎ (after.seen ≡ before.told)
  pub seen : Begins before.seen after.seen
  pub told : Begins before.told after.seen
  pub own : entries_by before.number before.seen ≡ before.mine →
      entries_by before.number after.seen ≡ before.mine

abbrev pub compared : {P : Type 0} → Move P → Sat P → ℕ → Sat P → Type 0
compared step before found after = IsCompared before.0 after.0 × (after.1 ≡ before.1)
