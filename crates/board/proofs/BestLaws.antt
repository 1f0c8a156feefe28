-- Without an open branch the incumbent is the best drawing.
use Rattle.std.proofs.Common.{◌≡◌, ℕ, zero, suc, ◌<◌, ◌≤◌, ℤ, pos, negsuc, ◌<ℤ◌, ◌≤ℤ◌, Bool, true, cond, List, length, refl, ap, sym, subst, inl, arith}
use Rattle.std.proofs.lemmas.Int.{ints, clamps, by_lt_z}
use Rattle.std.proofs.lemmas.List.Sums.{get_or-le-sum_by}
use Rattle.compact_types.specs.declared.places.Key.{Key}
use Rattle.compact_types.specs.declared.places.Places.{Places}
use Rattle.compact_types.specs.declared.places.Point.{Point}
use Rattle.compact_types.specs.declared.plan.Shape.{Shape}
use Rattle.compact_types.specs.declared.search.Choice.{Choice}
use Rattle.compact_types.specs.Bests.{Objective, IsBest, worth_of, key_of}
use Rattle.compact_types.specs.Bests.Objective.{total_length}
use Rattle.compact_types.specs.Drawings.{IsDrawing, IsFromZero, begin_of, end_of}
use Rattle.compact_types.specs.Lengths.{distance, gap}
use Rattle.compact_types.specs.Moves.{moved}
use Rattle.compact_types.specs.Orders.{IsBefore}
use Rattle.compact_types.proofs.Laws.{before_trans, drawing-moved, plain_length-moved, same_key, some_from_zero, sum_to-not_greater, sum_to-nothing}
use Rattle.shape_graphs.specs.declared.measure.Verdict.{Verdict}
use Rattle.board.specs.declared.entries.Settled.TheVariants as settled
use Rattle.board.specs.declared.standings.Standing.{Standing}
use Rattle.board.specs.declared.standings.Standing.TheVariants.{Done}
use Rattle.board.specs.Boards.{BoardView, board_state}
use Rattle.board.specs.Facts.{AreFacts, IsCovered, IsNotUndercut}
use Rattle.board.specs.Histories.{State, IsOpen, is_open, open_count_of, standing_of}
use Rattle.board.proofs.AfterLemmas.{open_below}

-- what a branch counts with
abbrev open_number : Bool → ℕ
open_number is = cond is 1 0

-- an open branch is counted
pub some_open : (state : State) (id : ℕ) → IsOpen state id → 0 < open_count_of state
some_open state id is =
    let counted : open_number (is_open (standing_of state id)) ≤ open_count_of state =
    get_or-le-sum_by (λ (standing : Standing). cond (is_open standing) 1 0) state.standings id (Done settled.Closed) (open_below state id is) in
    let one : open_number (is_open (standing_of state id)) ≡ open_number true = ap open_number is in
    omega (arith, counted, one)

-- no places are worth less than nothing
gap_not_negative : (a b : ℤ) → pos 0 ≤ℤ gap a b
gap_not_negative a b = omega (arith, ints, clamps)

distance_not_negative : (p q : Point) → pos 0 ≤ℤ distance p q
distance_not_negative p q =
    let x = gap_not_negative p.x q.x in
    let y = gap_not_negative p.y q.y in
    omega (arith, ints, x, y)

pub worth_not_negative : (objective : Objective) (shape : Shape) (places : Places) → pos 0 ≤ℤ worth_of objective shape places
worth_not_negative total_length shape places =
    let least = sum_to-not_greater (λ i. pos 0) (λ i. distance (begin_of shape.plan places i) (end_of shape.plan places i)) (length shape.plan.pieces)
    (λ i below. distance_not_negative (begin_of shape.plan places i) (end_of shape.plan places i)) in
    let none = sum_to-nothing (length shape.plan.pieces) in
    omega (arith, ints, least, none)

-- a drawing that is moved is worth the same
worth-moved : (objective : Objective) (shape : Shape) (places : Places) (dx dy : ℤ) → IsDrawing shape places →
    worth_of objective shape (moved dx dy places) ≡ worth_of objective shape places
worth-moved total_length shape places dx dy drawing = plain_length-moved shape.plan places dx dy drawing.crossing_free.places_fit

module _ (objective : Objective) (shape : Shape) (state : State) (incumbent : Key)
    (some : 0 < shape.plan.vertices) (covered : IsCovered objective shape state incumbent) (none_open : (id : ℕ) → IsOpen state id → ⊥) where
  -- no drawing from zero that is worth less than n comes before the incumbent
  abbrev NoneBelow : ℕ → Type 0
  NoneBelow n =
      (places : Places) → IsDrawing shape places → IsFromZero places → IsBefore (key_of objective shape places) incumbent →
      (worth_of objective shape places) <ℤ pos n → ⊥

  -- a drawing that is worth less, moved to zero
  undercut : (n : ℕ) → NoneBelow n → (places other : Places) → IsBefore (key_of objective shape places) incumbent →
      (worth_of objective shape places) <ℤ pos (suc n) → IsDrawing shape other →
      (worth_of objective shape other) <ℤ (worth_of objective shape places) → ⊥
  undercut n none places other comes low drawing less =
      let move = some_from_zero other (let fit = drawing.crossing_free.places_fit in omega (arith, some, fit)) in
      let worth = worth-moved objective shape other move.0 move.1 drawing in
      let lesser : (worth_of objective shape (moved move.0 move.1 other)) <ℤ (worth_of objective shape places) = omega (arith, ints, worth, less) in
      none (moved move.0 move.1 other) (drawing-moved shape other move.0 move.1 drawing) move.2
      (before_trans (key_of objective shape (moved move.0 move.1 other)) (key_of objective shape places) incumbent (inl lesser) comes)
      (omega (arith, ints, lesser, low))

  none_below : (n : ℕ) → NoneBelow n
  none_below zero places drawing from_zero comes low =
      let least = worth_not_negative objective shape places in omega (arith, ints, least, low)
  none_below (suc n) places drawing from_zero comes low =
      let in_open = covered places drawing from_zero comes (not_undercut (none_below n)) in none_open in_open.id in_open.open_branch
    where
      not_undercut : NoneBelow n → IsNotUndercut objective shape (worth_of objective shape places)
      not_undercut none other drawn =
          by_lt_z (worth_of objective shape other) (worth_of objective shape places)
          (λ less. absurd (undercut n none places other comes low drawn less)) (λ not_less. not_less)

  pub none_before_incumbent : (places : Places) → IsDrawing shape places → IsFromZero places → IsBefore (key_of objective shape places) incumbent → ⊥
  none_before_incumbent places drawing from_zero comes = by_worth (worth_of objective shape places) refl
    where
      by_worth : (worth : ℤ) → worth_of objective shape places ≡ worth → ⊥
      by_worth (pos n) is = none_below (suc n) places drawing from_zero comes (omega (arith, ints, is))
      by_worth (negsuc n) is = let least = worth_not_negative objective shape places in omega (arith, ints, least, is)

pub none_open_is_best : {P : Type 0} (objective : Objective) (Backs : Shape → List Choice → P → Verdict P → Type 0) (board : BoardView P) →
    AreFacts objective Backs board → open_count_of (board_state board) ≡ 0 → IsBest objective board.shape board.incumbent.places
none_open_is_best objective Backs board facts none = record {
  drawing = facts.incumbent.drawing;
  from_zero = facts.incumbent.from_zero;
  none_before = λ other drawing from_zero comes.
      none_before_incumbent objective board.shape (board_state board) board.incumbent facts.shape.some_vertex facts.covered
      (λ id is. let counted = some_open (board_state board) id is in omega (arith, counted, none))
      other drawing from_zero
      (subst (λ (key : Key). IsBefore (key_of objective board.shape other) key)
      (same_key (key_of objective board.shape board.incumbent.places) board.incumbent (sym facts.incumbent.worth) refl) comes);
}
