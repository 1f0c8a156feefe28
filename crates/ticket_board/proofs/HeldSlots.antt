-- What a seat holds of the slot in its turn.
use Rattle.std.proofs.Common.{◌≡◌, ℕ, List, [], ◌∷◌, sym, ap, ◌∙◌, subst}
use Rattle.std.specs.Prelude.{Option, Some, None, unwrap_or}
use Rattle.board.specs.Boards.{BoardView}
use Rattle.ticket_board.specs.declared.views.CallerView.{CallerView}
use Rattle.ticket_board.specs.inner.Views.{serving}
use Rattle.ticket_board.specs.inner.Plays.{Sat, IsBoardOf, IsDrawn, IsServed}
use Rattle.ticket_board.specs.inner.Turns.{HasTakenBoard, IsServing}

module _ {P : Type 0} where
  abbrev inside_or : BoardView P → List (ℕ × Option (BoardView P)) → BoardView P
  inside_or d [] = d
  inside_or d (slot ∷ slots) = unwrap_or slot.1 d

  -- the slot that a seat holds has one board
  pub one_inside : (a b : BoardView P) → Path (List (ℕ × Option (BoardView P))) ((0, Some a) ∷ []) ((0, Some b) ∷ []) → a ≡ b
  one_inside a b same = ap (inside_or a) same

  -- a seat that was served, and moved the board out
  pub is_serving : (m0 m1 m2 : Sat P) (found : ℕ) → m0.1 ≡ [] → IsDrawn m0 found m1 → (served : IsServed m1 m2) → IsServing m2 (Some served.board)
  is_serving m0 m1 m2 found empty drawn served = record {
    stage = ap (λ (me : Sat P). me.0.stage) served.me;
    slot = ap (λ (me : Sat P). me.1) served.me ∙ ap (λ held. (0, Some served.board) ∷ held) (ap (λ (me : Sat P). me.1) drawn.me ∙ empty);
  }

  same_inside : (m0 m1 m2 : Sat P) (found : ℕ) (board : BoardView P) → m0.1 ≡ [] → IsDrawn m0 found m1 → (served : IsServed m1 m2) → IsServing m2 (Some board) → served.board ≡ board
  same_inside m0 m1 m2 found board empty drawn served out = one_inside served.board board (sym (is_serving m0 m1 m2 found empty drawn served).slot ∙ out.slot)

  pub its_board : (m0 m1 m2 : Sat P) (found : ℕ) (board : BoardView P) → m0.1 ≡ [] → IsDrawn m0 found m1 → IsServed m1 m2 → IsServing m2 (Some board) → IsBoardOf m0.0 board
  its_board m0 m1 m2 found board empty drawn served out =
      let its = subst (IsBoardOf m1.0) (same_inside m0 m1 m2 found board empty drawn served out) served.is_its in
      let at_draw = subst (λ (view : CallerView). IsBoardOf view board) (ap (λ (me : Sat P). me.0) drawn.me) its in record {
        shape = at_draw.shape;
        given = at_draw.given;
        caller = at_draw.caller;
        later = at_draw.later;
        own = at_draw.own;
      }

  pub taken : (m0 m1 m2 m3 : Sat P) (found : ℕ) (board : BoardView P) → m0.1 ≡ [] → IsDrawn m0 found m1 → IsServed m1 m2 → IsServing m2 (Some board) → m3 ≡ (m2.0, (0, None) ∷ []) → HasTakenBoard m0.0 board m3
  taken m0 m1 m2 m3 found board empty drawn served out me = record {
    ticket = drawn.ticket;
    view = ap (λ (me : Sat P). me.0) me ∙ ap (λ (me : Sat P). me.0) served.me
        ∙ (λ i. serving (drawn.me i).0 (same_inside m0 m1 m2 found board empty drawn served out i).entries);
    slot = ap (λ (me : Sat P). me.1) me;
  }
