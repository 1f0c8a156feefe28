-- The proof from which a claimed branch may be solved.
use Rattle.std.proofs.Common.{◌≡◌, inl, inr, ℕ, ◌≤◌, List, [], ◌∷◌, ◌++◌, ap, ◌∙◌, subst, arith}
use Rattle.std.specs.Prelude.{IfOk, Option, Some, None, Result, Ok, Err}
use Rattle.compact_types.specs.declared.plan.Shape.{Shape}
use Rattle.compact_types.specs.declared.search.Branch.{Branch}
use Rattle.compact_types.specs.declared.search.Choice.{Choice}
use Rattle.shape_graphs.specs.declared.measure.Verdict.{Verdict}
use Rattle.shape_graphs.specs.Measures.{BacksBefore}
use Rattle.board.specs.declared.entries.Claim.{Claim}
use Rattle.board.specs.declared.entries.Claim.TheVariants.{Yours, Taken, Stranger}
use Rattle.board.specs.declared.entries.Entry.TheVariants as entry
use Rattle.board.specs.Boards.{BoardView, IsClaimAnswer, after_claim, board_state}
use Rattle.board.specs.Histories.{HasNoParent, IsKnown, branch_count, choices_of, state_of}
use Rattle.board.proofs.Laws.{choices_stay, known_stays}
use Rattle.ticket_board.specs.Turns.{IsStartOf}
use Rattle.ticket_board.specs.inner.Turns.{IsProofBefore}

module _ {P : Type 0} (Backs : Shape → List Choice → P → Verdict P → Type 0) where
  -- a branch that is known has no parent only if it is branch 0
  only_first : (board after : BoardView P) (who : ℕ) (branch : Branch) → IsKnown (board_state board) branch → after ≡ after_claim board who branch.id → HasNoParent (board_state after) branch.id → branch.id ≡ 0
  only_first board after who branch known same (inl first) = first
  only_first board after who branch known same (inr past) =
      let below = known.below in
      let claimed = entry.Claimed who branch.id ∷ [] in
      let stays = known_stays board.entries claimed in
      let gone : branch_count (state_of (board.entries ++ claimed)) ≤ branch.id = subst (λ (board : BoardView P). branch_count (board_state board) ≤ branch.id) same past in
      absurd (omega (arith, below, stays, gone))

  same_branch : (board after : BoardView P) (who : ℕ) (branch : Branch) → IsKnown (board_state board) branch → after ≡ after_claim board who branch.id → choices_of (board_state after) branch.id ≡ branch.choices.choices
  same_branch board after who branch known same =
      ap (λ (board : BoardView P). choices_of (board_state board) branch.id) same ∙ choices_stay board.entries (entry.Claimed who branch.id ∷ []) branch.id known.below ∙ known.choices

  starts_yours : (shape : Shape) (board after : BoardView P) (who : ℕ) (branch : Branch) (found : Option P) → board.shape ≡ shape → IsKnown (board_state board) branch → after ≡ after_claim board who branch.id →
      IsProofBefore Backs after branch Yours found → IsStartOf (Backs shape) branch Yours found
  starts_yours shape board after who branch None here known same none = only_first board after who branch known same none
  starts_yours shape board after who branch (Some proof) here known same before =
      subst (λ (x : Shape × List Choice). BacksBefore (Backs x.0) x.1 proof)
      (λ i. ((ap (λ (board : BoardView P). board.shape) same ∙ here) i, same_branch board after who branch known same i)) before

  pub starts : {E : Type 0} (shape : Shape) (board after : BoardView P) (who : ℕ) (branch : Branch) (claim : Claim) (found : Result (Option P) E) → board.shape ≡ shape → IsClaimAnswer board who branch claim after →
      IfOk found (IsProofBefore Backs after branch claim) → IfOk found (IsStartOf (Backs shape) branch claim)
  starts shape board after who branch claim (Err refused) here answer before = tt
  starts shape board after who branch Yours (Ok found) here answer before = starts_yours shape board after who branch found here answer.0 answer.2 before
  starts shape board after who branch Taken (Ok found) here answer before = before
  starts shape board after who branch Stranger (Ok found) here answer before = before
