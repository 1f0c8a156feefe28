-- How the search ends: no branch is open, so the incumbent is best.
use Rattle.std.proofs.Common.{◌≡◌, ℕ, List, Option, None, MatchOption, sym, subst}
use Rattle.compact_types.specs.declared.places.Key.{Key}
use Rattle.compact_types.specs.declared.plan.Shape.{Shape}
use Rattle.compact_types.specs.declared.search.Branch.{Branch}
use Rattle.compact_types.specs.declared.search.Choice.{Choice}
use Rattle.compact_types.specs.Bests.{Objective, IsBest, worth_of}
use Rattle.shape_graphs.specs.declared.measure.Verdict.{Verdict}
use Rattle.board.specs.Boards.{BoardView, board_state, IsLatestWaiting, NoneWaits}
use Rattle.board.specs.Facts.{AreFacts}
use Rattle.workers.specs.Searches.{HasEnded}
use Rattle.workers.specs.inner.Turns.{AreAllSettled, IsBetweenTurns}
use Rattle.board.proofs.Laws.{none_open_is_best, told}
use Rattle.workers.proofs.TurnLemmas.{none_open}

-- between two turns every branch is settled where none waits
pub all_settled : {P : Type 0} (shape : Shape) (who : ℕ) (board : BoardView P) (found : Option Branch) → IsBetweenTurns shape who board →
    MatchOption found (NoneWaits (board_state board)) (IsLatestWaiting (board_state board)) → found ≡ None → AreAllSettled shape board
all_settled shape who board found between latest is = record {
  shape_kept = between.shape_kept;
  none_open =
      none_open shape who board between
      (subst (λ (o : Option Branch). MatchOption o (NoneWaits (board_state board)) (IsLatestWaiting (board_state board))) is latest);
}

module _ {P : Type 0} (objective : Objective) (Backs : Shape → List Choice → P → Verdict P → Type 0) (shape : Shape) (key : Key) (board : BoardView P)
    (settled : AreAllSettled shape board) (facts : AreFacts objective Backs board) (is : key ≡ board.incumbent) where
  -- the search has ended where every branch is settled
  pub ended : HasEnded objective Backs shape key board
  ended = record {
    shape_kept = settled.shape_kept;
    none_open = settled.none_open;
    incumbent = sym is;
    facts = facts;
    told = λ id below. told board.entries id facts.legal settled.none_open below;
  }

  -- and then the incumbent is best
  pub best_at_end : IsBest objective shape key.places
  best_at_end =
      subst (λ (k : Key). IsBest objective shape k.places) (sym is)
      (subst (λ (s : Shape). IsBest objective s board.incumbent.places) settled.shape_kept (none_open_is_best objective Backs board facts settled.none_open))

  -- with its worth
  pub worth_at_end : key.worth ≡ worth_of objective shape key.places
  worth_at_end =
      subst (λ (k : Key). k.worth ≡ worth_of objective shape k.places) (sym is)
      (subst (λ (s : Shape). board.incumbent.worth ≡ worth_of objective s board.incumbent.places) settled.shape_kept facts.incumbent.worth)
