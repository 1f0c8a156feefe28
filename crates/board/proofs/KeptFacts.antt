-- The facts of a board hold at first, and are kept by every change.
use Rattle.std.proofs.Common.{◌≡◌, ℕ, zero, suc, ◌+◌, ◌<◌, ◌≤◌, List, [], ◌∷◌, ◌++◌, length, slice_index_or, None, ◌⊎◌, inl, inr, refl, ap, sym, ◌∙◌, subst, arith}
use Rattle.std.proofs.lemmas.Bool.{cases_eq}
use Rattle.std.proofs.lemmas.List.Elements.{All-append}
use Rattle.compact_types.specs.declared.places.Key.{Key}
use Rattle.compact_types.specs.declared.plan.Shape.{Shape}
use Rattle.compact_types.specs.declared.search.Choice.{Choice}
use Rattle.compact_types.specs.Bests.{Objective}
use Rattle.compact_types.specs.Orders.{IsBefore}
use Rattle.bars.specs.Solutions.{IsSound}
use Rattle.shape_graphs.specs.declared.measure.Verdict.{Verdict}
use Rattle.shape_graphs.specs.declared.measure.Verdict.TheVariants.{Cyclic, Above, Least}
use Rattle.board.specs.declared.entries.Entry.{Entry}
use Rattle.board.specs.declared.entries.Entry.TheVariants as entries
use Rattle.board.specs.declared.entries.Settled.{Settled}
use Rattle.board.specs.declared.entries.Settled.TheVariants as settled
use Rattle.board.specs.declared.standings.Standing.{Standing}
use Rattle.board.specs.declared.standings.Standing.TheVariants.{Waiting, Held, Done}
use Rattle.board.specs.Boards.{BoardView, IsCaller, after_claim, board_state, enlisted, opened_board, verdict_of, verdicts_opened}
use Rattle.board.specs.Facts.{AreByCallers, AreFacts, AreSound, IsCovered, IsDrawnKey, IsKeptAt, LeadsTo, SplitsAtBranchPair}
use Rattle.board.specs.Histories.{State, after, branch_count, caller_of, choices_of, opened, standing_of, standings_opened, IsWaiting}
use Rattle.board.specs.Verdicts.{IsSoundVerdict}
use Rattle.board.proofs.AfterLemmas.{claimed_count, claimed_other, claimed_same, open_below, waiting_open}
use Rattle.board.proofs.CoveredDrawings.{covered_claimed}
use Rattle.board.proofs.HistoryLaws.{legal_with, state_with}

-- callers stay callers when more numbers are given
pub callers_more : (given more : ℕ) (history : List Entry) → given ≤ more → AreByCallers given history → AreByCallers more history
callers_more given more history up callers k d below =
    let caller = callers k d below in
    let known = caller.known in
    record { positive = caller.positive; known = omega (arith, known, up) }

-- one more entry of a caller
pub callers_with : (given : ℕ) (history : List Entry) (entry : Entry) → AreByCallers given history → IsCaller given (caller_of entry) →
    AreByCallers given (history ++ entry ∷ [])
callers_with given history entry callers caller =
    All-append (λ (e : Entry). IsCaller given (caller_of e)) history (entry ∷ []) callers (λ k d below. one k d below)
  where
    one : (k : ℕ) (d : Entry) → k < 1 → IsCaller given (caller_of (slice_index_or (entry ∷ []) k d))
    one zero d below = caller
    one (suc k) d below = absurd (omega (arith, below))

-- no choices are sound
none_sound : (shape : Shape) → AreSound shape []
none_sound shape = record {
  fit = record { few = omega arith; each = λ i below. absurd (omega (arith, below)) };
  different = λ i j below. absurd (omega (arith, below));
}

-- branch 0 of a new board, and what is none of its branches, has no choices
first_choices : (id : ℕ) → choices_of opened id ≡ []
first_choices zero = refl
first_choices (suc id) = refl

-- the branches that were opened have no verdict
pub none_opened : {P : Type 0} (what : Settled) (k : ℕ) → slice_index_or (verdicts_opened {P = P} what) k None ≡ None
none_opened (settled.Split first s t) zero = refl
none_opened (settled.Split first s t) (suc zero) = refl
none_opened (settled.Split first s t) (suc (suc zero)) = refl
none_opened (settled.Split first s t) (suc (suc (suc zero))) = refl
none_opened (settled.Split first s t) (suc (suc (suc (suc k)))) = refl
none_opened settled.Closed k = refl
none_opened settled.Improved k = refl

-- and as many places for verdicts were opened as standings
pub places_alike : (P : Type 0) (what : Settled) → length (verdicts_opened {P = P} what) ≡ length (standings_opened what)
places_alike P (settled.Split first s t) = refl
places_alike P settled.Closed = refl
places_alike P settled.Improved = refl

-- each branch that was opened waits
pub opened_wait : (what : Settled) (k : ℕ) → k < length (standings_opened what) → slice_index_or (standings_opened what) k (Done settled.Closed) ≡ Waiting
opened_wait (settled.Split first s t) zero below = refl
opened_wait (settled.Split first s t) (suc zero) below = refl
opened_wait (settled.Split first s t) (suc (suc zero)) below = refl
opened_wait (settled.Split first s t) (suc (suc (suc zero))) below = refl
opened_wait (settled.Split first s t) (suc (suc (suc (suc k)))) below = absurd (omega (arith, below))
opened_wait settled.Closed k below = absurd (omega (arith, below))
opened_wait settled.Improved k below = absurd (omega (arith, below))

module _ {P : Type 0} (objective : Objective) (Backs : Shape → List Choice → P → Verdict P → Type 0) where
  -- what a verdict leads to, where the incumbent comes no later than before
  leads_still : (before now : Key) → ((key : Key) → IsBefore key now → IsBefore key before) →
      (verdict : Verdict P) (what : Settled) → LeadsTo before verdict what → LeadsTo now verdict what
  leads_still before now fewer (Cyclic axis cycle) what leads = leads
  leads_still before now fewer (Above bound stop proof) what leads = leads
  leads_still before now fewer (Least key proof) what (inl split) = inl split
  leads_still before now fewer (Least key proof) what (inr not_before) = inr (λ comes. not_before (fewer key comes))

  -- a branch of which neither the choices nor the verdict nor the standing change keeps its verdict
  pub kept_still : (old new : BoardView P) (j : ℕ) → old.shape ≡ new.shape → ((key : Key) → IsBefore key new.incumbent → IsBefore key old.incumbent) →
      choices_of (board_state new) j ≡ choices_of (board_state old) j → verdict_of new j ≡ verdict_of old j →
      (standing : Standing) → IsKeptAt objective Backs old j standing → IsKeptAt objective Backs new j standing
  kept_still old new j shape fewer choices verdict Waiting kept = verdict ∙ kept
  kept_still old new j shape fewer choices verdict (Held who) kept = verdict ∙ kept
  kept_still old new j shape fewer choices verdict (Done what) kept = record {
    verdict = kept.verdict;
    kept = verdict ∙ kept.kept;
    sound = subst (λ (s : Shape). IsSoundVerdict objective Backs s (choices_of (board_state new) j) kept.verdict) shape
        (subst (λ (l : List Choice). IsSoundVerdict objective Backs old.shape l kept.verdict) (sym choices) kept.sound);
    leads = leads_still old.incumbent new.incumbent fewer kept.verdict what kept.leads;
    splits = subst (λ (s : Shape). SplitsAtBranchPair s (choices_of (board_state new) j) kept.verdict what) shape
        (subst (λ (l : List Choice). SplitsAtBranchPair old.shape l kept.verdict what) (sym choices) kept.splits);
  }

  pub facts_opened : (shape : Shape) (key : Key) → IsSound shape → IsDrawnKey objective shape key →
      AreFacts objective Backs (opened_board shape key)
  facts_opened shape key sound drawn = record {
    shape = sound;
    legal = tt;
    callers = λ k d below. absurd (omega (arith, below));
    choices = λ id below. subst (λ (l : List Choice). AreSound shape l) (sym (first_choices id)) (none_sound shape);
    incumbent = drawn;
    covered = λ places drawing from_zero comes least. record {
      id = 0;
      open_branch = refl;
      solves = record {
        places_fit = drawing.crossing_free.places_fit;
        ways = drawing.crossing_free.ways;
        sides = λ i below. absurd (omega (arith, below));
      };
    };
    kept = record { places = refl; each = λ id below. first id below };
  }
    where
      first : (id : ℕ) → id < 1 → IsKeptAt objective Backs (opened_board shape key) id (standing_of opened id)
      first zero below = refl
      first (suc id) below = absurd (omega (arith, below))

  pub facts_enlisted : (board : BoardView P) → AreFacts objective Backs board → AreFacts objective Backs (enlisted board)
  facts_enlisted board facts = record {
    shape = facts.shape;
    legal = facts.legal;
    callers = callers_more board.given (board.given + 1) board.entries (omega arith) facts.callers;
    choices = facts.choices;
    incumbent = facts.incumbent;
    covered = facts.covered;
    kept = record {
      places = facts.kept.places;
      each = λ id below. kept_still board (enlisted board) id refl (λ key comes. comes) refl refl _ (facts.kept.each id below);
    };
  }

  module _ (board : BoardView P) (who id : ℕ) (facts : AreFacts objective Backs board) (caller : IsCaller board.given who) where
    module _ (waits : IsWaiting (board_state board) id) where
      abbrev claim_step : board_state (after_claim board who id) ≡ after (board_state board) (entries.Claimed who id)
      claim_step = state_with board.entries (entries.Claimed who id)

      abbrev claim_below : id < branch_count (board_state board)
      claim_below = open_below (board_state board) id (waiting_open (board_state board) id waits)

      -- the claimed branch had no verdict and gets none, and the others keep theirs
      claim_kept : (j : ℕ) → j < branch_count (board_state board) →
          IsKeptAt objective Backs (after_claim board who id) j (standing_of (after (board_state board) (entries.Claimed who id)) j)
      claim_kept j below = by_case (cases_eq j id)
        where
          choices : choices_of (board_state (after_claim board who id)) j ≡ choices_of (board_state board) j
          choices = ap (λ (state : State). choices_of state j) claim_step

          by_case : (j ≡ id) ⊎ (j ≡ id → ⊥) →
              IsKeptAt objective Backs (after_claim board who id) j (standing_of (after (board_state board) (entries.Claimed who id)) j)
          by_case (inl is) =
              let at : standing_of (after (board_state board) (entries.Claimed who id)) j ≡ Held who =
              ap (standing_of (after (board_state board) (entries.Claimed who id))) is ∙ claimed_same (board_state board) who id claim_below in
              let before : standing_of (board_state board) j ≡ Waiting = ap (standing_of (board_state board)) is ∙ waits in
              subst (λ (standing : Standing). IsKeptAt objective Backs (after_claim board who id) j standing) (sym at)
              (subst (λ (standing : Standing). IsKeptAt objective Backs board j standing) before (facts.kept.each j below))
          by_case (inr other) =
              subst (λ (standing : Standing). IsKeptAt objective Backs (after_claim board who id) j standing)
              (sym (claimed_other (board_state board) who id claim_below j other))
              (kept_still board (after_claim board who id) j refl (λ key comes. comes) choices refl _ (facts.kept.each j below))

      facts_claimed_at : AreFacts objective Backs (after_claim board who id)
      facts_claimed_at = record {
        shape = facts.shape;
        legal = legal_with board.entries (entries.Claimed who id) facts.legal waits;
        callers = callers_with board.given board.entries (entries.Claimed who id) facts.callers caller;
        choices = subst (λ (state : State). (j : ℕ) → j < branch_count state → AreSound board.shape (choices_of state j)) (sym claim_step)
            (λ j below. facts.choices j (let count = claimed_count (board_state board) who id claim_below in omega (arith, below, count)));
        incumbent = facts.incumbent;
        covered = subst (λ (state : State). IsCovered objective board.shape state board.incumbent) (sym claim_step)
            (covered_claimed objective board.shape (board_state board) who id claim_below board.incumbent facts.covered);
        kept = record {
          places = facts.kept.places ∙ sym (ap branch_count claim_step ∙ claimed_count (board_state board) who id claim_below);
          each = subst (λ (state : State). (j : ℕ) → j < branch_count state → IsKeptAt objective Backs (after_claim board who id) j (standing_of state j)) (sym claim_step)
              (λ j below. claim_kept j (let count = claimed_count (board_state board) who id claim_below in omega (arith, below, count)));
        };
      }

  pub facts_claimed : (board : BoardView P) (who id : ℕ) → AreFacts objective Backs board → IsCaller board.given who →
      IsWaiting (board_state board) id → AreFacts objective Backs (after_claim board who id)
  facts_claimed board who id facts caller waits = facts_claimed_at board who id facts caller waits
