-- How the first seat deals out the others.
use Rattle.std.specs.Prelude.{◌≡◌, ℕ, ◌+◌, ◌≤◌, []}
use Rattle.board.specs.Boards.{BoardView}
use Rattle.board.specs.Histories.{IsLegal}
use Rattle.ticket_board.specs.Passes.{entries_by}
use Rattle.ticket_board.specs.inner.Plays.{Sat}
use Rattle.ticket_board.specs.inner.Views.{first_view}

-- The board has given the numbers of these callers, the last of all, and its history is a legal one
-- without an entry of theirs.
pub record IsFounded {P : Type 0} (start : BoardView P) (first callers : ℕ) : Type 0 where
  pub some : 1 ≤ callers
  pub few : callers ≤ 1000
  pub positive : 1 ≤ first
  pub given : first + callers ≡ start.given + 1
  pub legal : IsLegal start.entries
  pub none_yet : (number : ℕ) → first ≤ number → entries_by number start.entries ≡ []

-- the first seat, after that many seats were dealt out, with its own
pub record IsDealer {P : Type 0} (start : BoardView P) (first dealt : ℕ) (me : Sat P) : Type 0 where
  pub me_is : me ≡ (record (first_view start first) { dealt = dealt }, [])
