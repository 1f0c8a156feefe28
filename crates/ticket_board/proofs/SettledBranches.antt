-- The numbers of the children of a branch that was settled just now.
use Rattle.std.proofs.Common.{◌≡◌, ℕ, ◌+◌, ◌^◌, ◌<◌, List, [], ◌∷◌, ◌++◌, length, sym, ap, ◌∙◌, subst, arith}
use Rattle.std.specs.Prelude.{Option, Some, None, MatchOption, slice_set}
use Rattle.std.proofs.lemmas.List.{get_or_append_left, get_or-set_same, length-set}
use Rattle.shape_graphs.specs.declared.measure.Verdict.{Verdict}
use Rattle.board.specs.declared.entries.Entry.{Entry}
use Rattle.board.specs.declared.entries.Entry.TheVariants as entry
use Rattle.board.specs.declared.entries.Settled.{Settled}
use Rattle.board.specs.declared.entries.Settled.TheVariants.{Split, Closed, Improved}
use Rattle.board.specs.declared.standings.Standing.{Standing}
use Rattle.board.specs.declared.standings.Standing.TheVariants.{Waiting, Held, Done}
use Rattle.board.specs.Boards.{BoardView, after_settle, board_state}
use Rattle.board.specs.Histories.{State, IsHeldBy, IsOutcomeOf, IsSettled, standings_opened, state_of}
use Rattle.board.proofs.Laws.{held_open, open_inside, state_with}
use Rattle.ticket_board.specs.Turns.{ChildrenFit}

abbrev outcome_in : Standing → Settled
outcome_in Waiting = Closed
outcome_in (Held who) = Closed
outcome_in (Done what) = what

-- a branch that was settled now has this outcome
settled_now : (history : List Entry) (who id : ℕ) (what : Settled) → IsHeldBy (state_of history) id who → IsOutcomeOf (state_of (history ++ entry.Settled who id what ∷ [])) id what
settled_now history who id what held =
    let state = state_of history in
    let inside = open_inside state id (held_open state id who held) in
    let set = length-set state.standings id (Done what) in
    let placed : id < length (slice_set state.standings id (Done what)) = omega arith in
    subst (λ state. IsOutcomeOf state id what) (sym (state_with history (entry.Settled who id what))) (record {
      below = grown (slice_set state.standings id (Done what)) (standings_opened what) placed;
      done = get_or_append_left (slice_set state.standings id (Done what)) (standings_opened what) (Done Closed) id placed ∙ get_or-set_same state.standings id (Done what) (Done Closed) inside;
    })
  where
    grown : (front added : List Standing) → id < length front → id < length (front ++ added)
    grown front added below = let long = Rattle.std.proofs.lemmas.List.length-append front added in omega arith

fits_when : (state : State) (id : ℕ) (what : Settled) (found : Option Settled) → IsOutcomeOf state id what → MatchOption found (IsSettled state id → ⊥) (IsOutcomeOf state id) →
    ((first s t : ℕ) → found ≡ Some (Split first s t) → first + 3 < 2 ^ 64) → ChildrenFit what
fits_when state id Closed found is answer fit = tt
fits_when state id Improved found is answer fit = tt
fits_when state id (Split first s t) None is answer fit = absurd (answer (record { what = Split first s t; outcome = is }))
fits_when state id (Split first s t) (Some other) is answer fit =
    fit first s t (ap (λ standing. Some (outcome_in standing)) (sym answer.done ∙ is.done))

-- the numbers of the children fit, as the board says of the branch
pub children_fit : {P : Type 0} (board after : BoardView P) (who id : ℕ) (verdict : Verdict P) (what : Settled) (found : Option Settled) → IsHeldBy (board_state board) id who → after ≡ after_settle board who id verdict what →
    MatchOption found (IsSettled (board_state after) id → ⊥) (IsOutcomeOf (board_state after) id) → ((first s t : ℕ) → found ≡ Some (Split first s t) → first + 3 < 2 ^ 64) → ChildrenFit what
children_fit board after who id verdict what found held same answer fit =
    fits_when (board_state after) id what found
    (subst (λ history. IsOutcomeOf (state_of history) id what) (sym (ap (λ (board : BoardView _). board.entries) same)) (settled_now board.entries who id what held)) answer fit
