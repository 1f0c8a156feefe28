-- What a call adds to the board in its turn.
use Rattle.std.proofs.Common.{◌≡◌, ◌≢◌, ℕ, List, [], ◌∷◌, ◌++◌, sym, ap, refl, ◌∙◌, subst, ne_eqb}
use Rattle.std.specs.Prelude.{cond}
use Rattle.std.proofs.lemmas.List.{append-nil}
use Rattle.compact_types.specs.declared.search.Branch.{Branch}
use Rattle.shape_graphs.specs.declared.measure.Verdict.{Verdict}
use Rattle.board.specs.declared.entries.Claim.{Claim}
use Rattle.board.specs.declared.entries.Claim.TheVariants.{Yours, Taken, Stranger}
use Rattle.board.specs.declared.entries.Entry.{Entry}
use Rattle.board.specs.declared.entries.Entry.TheVariants as entry
use Rattle.board.specs.declared.entries.Settled.{Settled}
use Rattle.board.specs.Boards.{BoardView, IsClaimAnswer, after_settle}
use Rattle.board.specs.Histories.{caller_of}
use Rattle.ticket_board.specs.declared.views.CallerView.{CallerView}
use Rattle.ticket_board.specs.Passes.{entries_by}
use Rattle.ticket_board.specs.inner.Plays.{Sat, IsBoardOf}
use Rattle.ticket_board.specs.inner.Turns.{Adds, AddsOwn, HasTakenBoard}

-- one entry is no other caller's
one_entry : (number : ℕ) (entry : Entry) → caller_of entry ≡ number → (other : ℕ) → other ≢ number → entries_by other (entry ∷ []) ≡ []
one_entry number entry is other apart =
    ap (λ test. cond test (entry ∷ []) []) (ne_eqb (caller_of entry) other (λ same. apart (sym same ∙ is)))

module _ {P : Type 0} where
  adds_these : (number : ℕ) (board after : BoardView P) → after.shape ≡ board.shape → after.given ≡ board.given → (added : List Entry) → after.entries ≡ board.entries ++ added →
      ((other : ℕ) → other ≢ number → entries_by other added ≡ []) → AddsOwn number board after
  adds_these number board after shape given added entries none_other = record { shape = shape; given = given; added = added; entries = entries; no_other = none_other }

  pub adds_nothing : (number : ℕ) (board after : BoardView P) → after ≡ board → AddsOwn number board after
  adds_nothing number board after same =
      adds_these number board after (ap (λ (board : BoardView P). board.shape) same) (ap (λ (board : BoardView P). board.given) same) []
      (ap (λ (board : BoardView P). board.entries) same ∙ sym (append-nil board.entries)) (λ other apart. refl)

  pub adds_claim : (number : ℕ) (board after : BoardView P) (branch : Branch) (claim : Claim) → IsClaimAnswer board number branch claim after → AddsOwn number board after
  adds_claim number board after branch Stranger answer = adds_nothing number board after answer.1
  adds_claim number board after branch Taken answer = adds_nothing number board after answer.2
  adds_claim number board after branch Yours answer =
      let same = answer.2 in
      let claimed = entry.Claimed number branch.id in
      adds_these number board after (ap (λ (board : BoardView P). board.shape) same) (ap (λ (board : BoardView P). board.given) same) (claimed ∷ [])
      (ap (λ (board : BoardView P). board.entries) same) (one_entry number claimed refl)

  pub adds_settle : (number : ℕ) (board after : BoardView P) (id : ℕ) (verdict : Verdict P) (what : Settled) → after ≡ after_settle board number id verdict what → AddsOwn number board after
  adds_settle number board after id verdict what same =
      let settled = entry.Settled number id what in
      adds_these number board after (ap (λ (board : BoardView P). board.shape) same) (ap (λ (board : BoardView P). board.given) same) (settled ∷ [])
      (ap (λ (board : BoardView P). board.entries) same) (one_entry number settled refl)

  -- what the seat's caller added to the board that it took out may go back
  pub goes_back : (view : CallerView) (number : ℕ) (board after : BoardView P) (me : Sat P) → HasTakenBoard view board me → IsBoardOf view board → number ≡ view.number → AddsOwn number board after → Adds me.0 after
  goes_back view number board after me taken its same own =
      subst (λ view. Adds view after) (sym taken.view) (record {
        shape = own.shape ∙ its.shape;
        given = own.given ∙ its.given;
        added = own.added;
        entries = own.entries;
        no_other = λ other apart. own.no_other other (λ equal. apart (equal ∙ same));
      })
