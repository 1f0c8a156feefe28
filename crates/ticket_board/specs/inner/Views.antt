-- What the rule of the table knows of a seat.
use Rattle.std.specs.Prelude.{◌≡◌, ℕ, ◌+◌, Bool, true, false, List, [], ◌∷◌, refl}
use native.Mathlib.Nat.{le_refl}
use Rattle.atomic_table.specs.Seated.{TableId}
use Rattle.compact_types.specs.declared.plan.Shape.{Shape}
use Rattle.board.specs.declared.entries.Entry.{Entry}
use Rattle.board.specs.Boards.{BoardView}
use Rattle.board.specs.Histories.{IsLegal}
use Rattle.ticket_board.specs.declared.views.Stage.{Stage}
use Rattle.ticket_board.specs.declared.views.Stage.TheVariants.{Gone, Idle, Waiting, Serving}
use Rattle.ticket_board.specs.declared.views.CallerView.{CallerView}
use Rattle.ticket_board.specs.Passes.{PassView, entries_by}

-- the caller holds a ticket
abbrev pub has_ticket : Stage → Bool
has_ticket Gone = false
has_ticket Idle = false
has_ticket Waiting = true
has_ticket Serving = true

-- the caller has a pass still
abbrev pub IsThere : Stage → Type 0
IsThere Gone = ⊥
IsThere Idle = Unit {0}
IsThere Waiting = Unit {0}
IsThere Serving = Unit {0}

-- a shape of one vertex
abbrev pub one_vertex_shape : Shape
one_vertex_shape = record {
  plan = record { vertices = 1; pieces = []; ends = λ i within. (le_refl 1, le_refl 1) };
  ways = [];
  one_for_each = refl;
}

-- a seat whose caller has no pass any more
abbrev pub nobody : CallerView
nobody = record {
  stage = Gone;
  dealt = 0;
  shape = one_vertex_shape;
  given = 0;
  number = 0;
  seen = [];
  told = [];
  mine = [];
  turns = 0;
  ticket = 0;
  noted = [];
}

-- the view of a seat
abbrev pub view_in : List CallerView → CallerView
view_in [] = nobody
view_in (view ∷ views) = view

-- the first seat, which deals the others out: the number of its caller is `first`
abbrev pub first_view : {P : Type 0} → BoardView P → ℕ → CallerView
first_view board first = record {
  stage = Idle;
  dealt = 1;
  shape = board.shape;
  given = board.given;
  number = first;
  seen = board.entries;
  told = [];
  mine = [];
  turns = 0;
  ticket = 0;
  noted = [];
}

-- the first seat after one more was dealt out
abbrev pub dealer_after : CallerView → CallerView
dealer_after view = record view { dealt = view.dealt + 1 }

-- the seat that is dealt out next
abbrev pub dealt_next : CallerView → CallerView
dealt_next view = record view {
  dealt = 0;
  number = view.number + view.dealt;
  told = [];
  mine = [];
  turns = 0;
}

-- a seat with a note of what another had seen
abbrev pub told_of : CallerView → CallerView → CallerView
told_of view other = record view { told = other.seen }

-- a seat that has drawn the ticket
abbrev pub with_ticket : CallerView → ℕ → CallerView
with_ticket view ticket = record view { stage = Waiting; ticket = ticket }

-- a seat whose ticket is served, and that noted the history of the board
abbrev pub serving : CallerView → List Entry → CallerView
serving view history = record view { stage = Serving; noted = history }

-- a seat that has ended its turn with this history
abbrev pub after_turn : CallerView → List Entry → CallerView
after_turn view history = record view {
  stage = Idle;
  seen = history;
  mine = entries_by view.number history;
  turns = view.turns + 1;
}

-- the pass of a seat
abbrev pub pass_of : TableId → CallerView → PassView
pass_of table view = record {
  home = record { table = table; shape = view.shape };
  number = view.number;
  seen = view.seen;
  mine = view.mine;
  turns = view.turns;
}

-- between two turns: the seat holds no ticket, has seen a legal history, and knows its own entries
pub record IsAtRest (view : CallerView) : Type 0 where
  pub idle : view.stage ≡ Idle
  pub legal : IsLegal view.seen
  pub own : entries_by view.number view.seen ≡ view.mine

-- the one view is that of a seat between two turns
pub record IsResting (views : List CallerView) : Type 0 where
  pub seated : views ≡ view_in views ∷ []
  pub idle : (view_in views).stage ≡ Idle

-- the one view is that of a pass with this number, between two turns
pub record IsPass (number : ℕ) (views : List CallerView) : Type 0 where
  pub seated : views ≡ view_in views ∷ []
  pub same : number ≡ (view_in views).number
  pub rests : IsAtRest (view_in views)
