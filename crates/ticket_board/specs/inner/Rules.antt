-- The rule of the table: what holds between any two steps.
use Rattle.std.specs.Prelude.{◌≡◌, ◌⊎◌, ℕ, ◌+◌, ◌%◌, ◌^◌, ◌<◌, ◌≤◌, List, [], ◌∷◌, length, count_by, Option, Some}
use mathlib.Core.Option.{some, none}
use mathlib.Core.Option as maybe
use lib.ListN.{get_elem?}
use Rattle.atomic_table.specs.Seated.{TableId}
use Rattle.atomic_table.specs.Table.{State}
use Rattle.board.specs.declared.entries.Entry.{Entry}
use Rattle.board.specs.Boards.{BoardView, IsCaller}
use Rattle.ticket_board.specs.declared.views.Stage.{Stage}
use Rattle.ticket_board.specs.declared.views.Stage.TheVariants.{Gone, Idle, Waiting, Serving}
use Rattle.ticket_board.specs.declared.views.CallerView.{CallerView}
use Rattle.ticket_board.specs.Passes.{Begins, entries_by}
use Rattle.ticket_board.specs.inner.Views.{has_ticket, IsThere}

-- a ticket word, a serving word, and one slot
abbrev pub IsSized : TableId → Type 0
IsSized table = (table.words ≡ 2) × (table.slots ≡ 1)

-- how many seats hold a ticket
abbrev pub tickets_out : List CallerView → ℕ
tickets_out views = count_by (λ view. has_ticket view.stage) views

-- the ticket is one of those from the served one on that were drawn, and this seat alone holds it
pub record HoldsTicket (served drawn : ℕ) (holder : ℕ → ℕ) (seat ticket : ℕ) : Type 0 where
  pub from : served ≤ ticket
  pub below : ticket < drawn
  pub alone : holder ticket ≡ seat

-- the slot is out with the seat in its turn, which noted the history
pub record IsInTurn {P : Type 0} (served : ℕ) (history : List Entry)
    (homes : List (maybe.Option (Option (BoardView P)))) (view : CallerView) : Type 0 where
  pub its : view.ticket ≡ served
  pub out : homes ≡ none ∷ []
  pub noted : view.noted ≡ history

-- how the seat stands in the queue
abbrev pub IsInQueue : {P : Type 0} → ℕ → ℕ → (ℕ → ℕ) → List Entry →
    List (maybe.Option (Option (BoardView P))) → ℕ → CallerView → Stage → Type 0
IsInQueue served drawn holder history homes seat view Gone = Unit {0}
IsInQueue served drawn holder history homes seat view Idle = Unit {0}
IsInQueue served drawn holder history homes seat view Waiting =
    HoldsTicket served drawn holder seat view.ticket
IsInQueue served drawn holder history homes seat view Serving =
    HoldsTicket served drawn holder seat view.ticket × IsInTurn served history homes view

-- What is true of a seat that has a pass: its caller has the number from `first` on that is the
-- seat's own, the history begins with all that it has seen and was told, and its own entries are
-- those of its number. The first seat alone deals out, and knows how many seats there are.
pub record IsSeated {P : Type 0} (start : BoardView P) (first seats : ℕ) (history : List Entry)
    (seat : ℕ) (view : CallerView) : Type 0 where
  pub shape : view.shape ≡ start.shape
  pub given : view.given ≡ start.given
  pub number : view.number ≡ first + seat
  pub caller : IsCaller start.given view.number
  pub seen : Begins view.seen history
  pub told : Begins view.told history
  pub own : entries_by view.number history ≡ view.mine
  pub deals : 0 < view.dealt → (seat ≡ 0) × (view.dealt ≡ seats)

-- the slot is at home, with a board of this history
pub record IsAtHome {P : Type 0} (start : BoardView P) (history : List Entry)
    (homes : List (maybe.Option (Option (BoardView P)))) : Type 0 where
  pub board : BoardView P
  pub home : homes ≡ some (Some board) ∷ []
  pub entries : board.entries ≡ history
  pub shape : board.shape ≡ start.shape
  pub given : board.given ≡ start.given

-- the slot is out with this seat
pub record IsOut {P : Type 0} (homes : List (maybe.Option (Option (BoardView P))))
    (views : List CallerView) (seat : ℕ) : Type 0 where
  pub out : homes ≡ none ∷ []
  pub view : CallerView
  pub at : get_elem? views seat ≡ some view
  pub stage : view.stage ≡ Serving

-- The rule. Tickets are numbers without end, and the words are taken modulo 2^64. There are at most
-- 1,000 seats, spent ones too. The tickets that are out are as many as the numbers from the served
-- one on that were drawn, so that each of these is held once. The slot is at home, or out with the
-- seat whose ticket is served, and the history is that of its board as it was at home.
pub record KeepsTicketRule {P : Type 0} (start : BoardView P) (first : ℕ)
    (state : State (Option (BoardView P)) CallerView) : Type 0 where
  pub served : ℕ
  pub holder : ℕ → ℕ
  pub history : List Entry
  pub words : state.words
      ≡ ((served + tickets_out state.views) % 2 ^ 64) ∷ (served % 2 ^ 64) ∷ []
  pub few : length state.views ≤ 1000
  pub slot : IsAtHome start history state.homes ⊎ IsOut state.homes state.views (holder served)
  pub seated : (seat : ℕ) (view : CallerView) → get_elem? state.views seat ≡ some view →
      IsThere view.stage → IsSeated start first (length state.views) history seat view
  pub queue : (seat : ℕ) (view : CallerView) → get_elem? state.views seat ≡ some view →
      IsInQueue served (served + tickets_out state.views) holder history state.homes seat view
      view.stage
  pub unused : (number : ℕ) → first + length state.views ≤ number → entries_by number history ≡ []
