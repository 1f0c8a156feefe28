-- What a pass knows after a turn.
use Rattle.std.proofs.Common.{◌≡◌, ℕ, zero, suc, ◌<◌, eqb, Bool, true, false, List, [], ◌∷◌, ◌++◌, length, sym, ap, refl, ◌∙◌, subst, arith, eq-eqb}
use Rattle.std.specs.Prelude.{Contains, cond, slice_index_or, IfOk, MatchResult, Option, Result, Ok, Err}
use Rattle.std.proofs.lemmas.List.{get_or-set_same}
use Rattle.std.proofs.lemmas.List.Elements.{Contains-push}
use Rattle.atomic_table.specs.Seated.{TableId}
use Rattle.compact_types.specs.declared.plan.Shape.{Shape}
use Rattle.compact_types.specs.declared.search.Branch.{Branch}
use Rattle.compact_types.specs.declared.search.Choice.{Choice}
use Rattle.compact_types.specs.Bests.{Objective}
use Rattle.shape_graphs.specs.declared.measure.Verdict.{Verdict}
use Rattle.board.specs.declared.entries.Claim.{Claim}
use Rattle.board.specs.declared.entries.Claim.TheVariants.{Yours, Taken, Stranger}
use Rattle.board.specs.declared.entries.Entry.{Entry}
use Rattle.board.specs.declared.entries.Entry.TheVariants as entry
use Rattle.board.specs.declared.entries.Settled.{Settled}
use Rattle.board.specs.declared.entries.Settled.TheVariants as settled
use Rattle.board.specs.declared.standings.Standing.TheVariants.{Held, Done}
use Rattle.board.specs.Boards.{BoardView, IsClaimAnswer, IsOutcome, after_claim, after_settle, board_state}
use Rattle.board.specs.Facts.{AreFacts, AreSound}
use Rattle.board.specs.Histories.{State, IsHeldBy, IsKnown, IsLegal, IsWaiting, caller_of, choices_of, state_of}
use Rattle.board.specs.Verdicts.{IsBranchPairFor, IsSoundVerdict}
use Rattle.board.proofs.Laws.{choices_stay, held_not_settled, holder_holds, held_open, open_inside, state_with, waiting_open}
use Rattle.ticket_board.specs.declared.views.CallerView.{CallerView}
use Rattle.ticket_board.specs.Passes.{PassView, Begins, HasSeenMore, IsHolding, entries_by, turned}
use Rattle.ticket_board.specs.Turns.{ChildrenFit, IsClaimed, IsGranted, IsSettledOn}
use Rattle.ticket_board.specs.inner.Views.{after_turn, pass_of, view_in}
use Rattle.ticket_board.specs.inner.Plays.{Sat, IsBoardOf}
use Rattle.ticket_board.specs.inner.Turns.{AddsOwn, HasTakenBoard}
use Rattle.ticket_board.proofs.Histories.{begins_longer, begins_with, by-append}

-- a list that goes on contains what the rest does
later : (entry : Entry) (rest : List Entry) (found : Entry) → Contains rest found → Contains (entry ∷ rest) found
later entry rest found there = let below : there.0 < length rest = there.1 in (suc there.0, omega arith, there.2)

-- the entries of one caller are entries of the history
from_own : (number : ℕ) (history : List Entry) (found : Entry) → Contains (entries_by number history) found → Contains history found
from_own number [] found inside = inside
from_own number (entry ∷ history) found inside = by_test (λ there. later entry history found (from_own number history found there)) (eqb (caller_of entry) number) inside
  where
    by_place : (Contains (entries_by number history) found → Contains (entry ∷ history) found) →
        (k : ℕ) → k < length (entry ∷ entries_by number history) → slice_index_or (entry ∷ entries_by number history) k found ≡ found → Contains (entry ∷ history) found
    by_place rest zero below is = (zero, omega arith, is)
    by_place rest (suc k) below is = rest (k, omega arith, is)

    by_test : (Contains (entries_by number history) found → Contains (entry ∷ history) found) →
        (test : Bool) → Contains (cond test (entry ∷ entries_by number history) (entries_by number history)) found → Contains (entry ∷ history) found
    by_test rest true there = by_place rest there.0 there.1 there.2
    by_test rest false there = rest there

-- and of the history it has all of its own
into_own : (number : ℕ) (history : List Entry) (found : Entry) → caller_of found ≡ number → Contains history found → Contains (entries_by number history) found
into_own number [] found own inside = inside
into_own number (entry ∷ history) found own inside = by_place (λ there. into_own number history found own there) inside.0 inside.1 inside.2
  where
    by_test : (test : Bool) → Contains (entries_by number history) found → Contains (cond test (entry ∷ entries_by number history) (entries_by number history)) found
    by_test true there = later entry (entries_by number history) found there
    by_test false there = there

    by_place : (Contains history found → Contains (entries_by number history) found) →
        (k : ℕ) → k < length (entry ∷ history) → slice_index_or (entry ∷ history) k found ≡ found → Contains (entries_by number (entry ∷ history)) found
    by_place rest zero below is =
        let passes : eqb (caller_of entry) number ≡ true = eq-eqb (caller_of entry) number (ap caller_of is ∙ own) in
        subst (λ test. Contains (cond test (entry ∷ entries_by number history) (entries_by number history)) found) (sym passes) (zero, omega arith, is)
    by_place rest (suc k) below is = by_test (eqb (caller_of entry) number) (rest (k, omega arith, is))

-- one entry of the caller more
own_more : (number : ℕ) (front whole mine : List Entry) (last : Entry) → caller_of last ≡ number → whole ≡ front ++ last ∷ [] → entries_by number front ≡ mine → entries_by number whole ≡ mine ++ last ∷ []
own_more number front whole mine last own is before =
    ap (entries_by number) is ∙ by-append number front (last ∷ [])
    ∙ (λ i. before i ++ cond (eq-eqb (caller_of last) number own i) (last ∷ []) [])

-- a branch that waited is held after the claim
holds_claimed : (history : List Entry) (who id : ℕ) → IsWaiting (state_of history) id → IsHeldBy (state_of (history ++ entry.Claimed who id ∷ [])) id who
holds_claimed history who id waits =
    ap (λ (state : State). Rattle.board.specs.Histories.standing_of state id) (state_with history (entry.Claimed who id))
    ∙ get_or-set_same (state_of history).standings id (Held who) (Done settled.Closed) (open_inside (state_of history) id (waiting_open (state_of history) id waits))

-- the pass after a turn
pub ends : {P : Type 0} (table table' : TableId) (view : CallerView) (views : List CallerView) (board : BoardView P) (me : Sat P) (history : List Entry) (old : PassView) →
    pass_of table view ≡ old → HasTakenBoard view board me → table' ≡ table → views ≡ after_turn me.0 history ∷ [] → pass_of table' (view_in views) ≡ turned old history
ends table table' view views board me history old seen taken same after =
    (λ i. pass_of (same i) (view_in (after i))) ∙ (λ i. pass_of table (after_turn (taken.view i) history)) ∙ ap (λ pass. turned pass history) seen

pub sees_more : (old new : PassView) (history : List Entry) → new ≡ turned old history → Begins old.seen history → IsLegal history → HasSeenMore old new
sees_more old new history now later legal = subst (HasSeenMore old) (sym now) (record { home = refl; number = refl; later = later; legal = legal; own = refl })

module _ {P : Type 0} (objective : Objective) (Backs : Shape → List Choice → P → Verdict P → Type 0) where
  -- what is known of the board before a call: it is the pass's, and its facts hold
  pub record IsKnownBoard (old : PassView) (board : BoardView P) : Type 0 where
    pub shape : board.shape ≡ old.home.shape
    pub later : Begins old.seen board.entries
    pub own : entries_by old.number board.entries ≡ old.mine
    pub facts : AreFacts objective Backs board

  pub knows : (table : TableId) (view : CallerView) (board : BoardView P) (old : PassView) → pass_of table view ≡ old → IsBoardOf view board → AreFacts objective Backs board → IsKnownBoard old board
  knows table view board old seen its facts = subst (λ pass. IsKnownBoard pass board) seen (record { shape = its.shape; later = its.later; own = its.own; facts = facts })

  pub grants : (old : PassView) (board after : BoardView P) (branch : Branch) → IsKnownBoard old board → IsKnown (board_state board) branch → IsWaiting (board_state board) branch.id →
      after ≡ after_claim board old.number branch.id → IsLegal after.entries → IsGranted old branch (turned old after.entries)
  grants old board after branch known is_known waits same legal =
      let claimed = entry.Claimed old.number branch.id in
      let seen : after.entries ≡ board.entries ++ claimed ∷ [] = ap (λ (board : BoardView P). board.entries) same in
      let mine = own_more old.number board.entries after.entries old.mine claimed refl seen known.own in
      let held : IsHeldBy (state_of after.entries) branch.id old.number =
      subst (λ history. IsHeldBy (state_of history) branch.id old.number) (sym seen) (holds_claimed board.entries old.number branch.id waits) in record {
        before = board.entries;
        later = known.later;
        known = is_known;
        waits = waits;
        seen = seen;
        mine = mine;
        choices = ap (λ history. choices_of (state_of history) branch.id) seen ∙ choices_stay board.entries (claimed ∷ []) branch.id is_known.below ∙ is_known.choices;
        sound = subst (λ (x : Shape × List Choice). AreSound x.0 x.1) (λ i. (known.shape i, is_known.choices i)) (known.facts.choices branch.id is_known.below);
        holding = record {
          claimed = subst (λ list. Contains list claimed) (sym mine) (Contains-push old.mine claimed);
          not_settled = λ what inside. held_not_settled after.entries old.number branch.id what legal held (from_own old.number after.entries (entry.Settled old.number branch.id what) inside);
        };
      }

  answers_claim : (old : PassView) (board after : BoardView P) (branch : Branch) (claim : Claim) → IsKnownBoard old board → IsClaimAnswer board old.number branch claim after → IsLegal after.entries →
      IsClaimed old branch claim (turned old after.entries)
  answers_claim old board after branch Stranger known answer legal =
      let same : after.entries ≡ board.entries = ap (λ (board : BoardView P). board.entries) answer.1 in
      (λ is_known. answer.0 (subst (λ history. IsKnown (state_of history) branch) same is_known), ap (entries_by old.number) same ∙ known.own)
  answers_claim old board after branch Taken known answer legal =
      let same : after.entries ≡ board.entries = ap (λ (board : BoardView P). board.entries) answer.2 in (
        subst (λ history. IsKnown (state_of history) branch) (sym same) answer.0,
        λ waits. answer.1 (subst (λ history. IsWaiting (state_of history) branch.id) same waits),
        ap (entries_by old.number) same ∙ known.own,
      )
  answers_claim old board after branch Yours known answer legal = grants old board after branch known answer.0 answer.1 answer.2 legal

  pub claims : (old new : PassView) (board after : BoardView P) (branch : Branch) (claim : Claim) → new ≡ turned old after.entries → IsKnownBoard old board → IsClaimAnswer board old.number branch claim after → IsLegal after.entries →
      IsClaimed old branch claim new
  claims old new board after branch claim now known answer legal = subst (IsClaimed old branch claim) (sym now) (answers_claim old board after branch claim known answer legal)

  -- what the pass has seen after its turn begins with what it had seen
  pub more : (number : ℕ) (old new : PassView) (board after : BoardView P) → new ≡ turned old after.entries → IsKnownBoard old board → AddsOwn number board after → IsLegal after.entries → HasSeenMore old new
  more number old new board after now known own legal =
      sees_more old new after.entries now (begins_longer old.seen board.entries after.entries known.later (begins_with board.entries own.added after.entries own.entries)) legal

  -- a branch that the pass holds is held on the board, with the choices that the pass knows
  held_in : (history : List Entry) (number id : ℕ) (mine : List Entry) → IsLegal history → entries_by number history ≡ mine → Contains mine (entry.Claimed number id) →
      ((what : Settled) → Contains mine (entry.Settled number id what) → ⊥) → IsHeldBy (state_of history) id number
  held_in history number id mine legal own claimed not_settled =
      holder_holds history number id legal (from_own number history (entry.Claimed number id) (subst (λ list. Contains list (entry.Claimed number id)) (sym own) claimed))
      (λ what inside. not_settled what (subst (λ list. Contains list (entry.Settled number id what)) own (into_own number history (entry.Settled number id what) refl inside)))

  pub held_there : (old : PassView) (board : BoardView P) (id : ℕ) → IsKnownBoard old board → IsHolding old id → IsHeldBy (board_state board) id old.number
  held_there old board id known holds = held_in board.entries old.number id old.mine known.facts.legal known.own holds.claimed holds.not_settled

  pub same_choices : (old : PassView) (board : BoardView P) (id : ℕ) → IsKnownBoard old board → IsLegal old.seen → entries_by old.number old.seen ≡ old.mine → IsHolding old id →
      choices_of (state_of old.seen) id ≡ choices_of (board_state board) id
  same_choices old board id known legal own holds =
      let held = held_in old.seen old.number id old.mine legal own holds.claimed holds.not_settled in
      let inside = open_inside (state_of old.seen) id (held_open (state_of old.seen) id old.number held) in
      sym (ap (λ history. choices_of (state_of history) id) known.later.whole_is ∙ choices_stay old.seen known.later.rest id inside)

  pub settles : (old new : PassView) (board after : BoardView P) (id : ℕ) (verdict : Verdict P) (pair : Option (ℕ × ℕ)) (what : Settled) → new ≡ turned old after.entries → IsKnownBoard old board → IsHolding old id →
      IsOutcome board verdict pair what → ChildrenFit what → after ≡ after_settle board old.number id verdict what → IsSettledOn objective Backs old id verdict pair what new
  settles old new board after id verdict pair what now known holds outcome fit same =
      let settled = entry.Settled old.number id what in
      let seen : after.entries ≡ board.entries ++ settled ∷ [] = ap (λ (board : BoardView P). board.entries) same in
      subst (IsSettledOn objective Backs old id verdict pair what) (sym now) (record {
        board = board;
        facts = known.facts;
        shape = known.shape;
        later = known.later;
        held = held_there old board id known holds;
        outcome = outcome;
        children_fit = fit;
        seen = seen;
        mine = own_more old.number board.entries after.entries old.mine settled refl seen known.own;
      })

  pub mine_as_before : (old new : PassView) (board after : BoardView P) → new ≡ turned old after.entries → IsKnownBoard old board → after ≡ board → new.mine ≡ old.mine
  mine_as_before old new board after now known same = ap (λ (pass : PassView). pass.mine) now ∙ ap (λ (board : BoardView P). entries_by old.number board.entries) same ∙ known.own

  pub answers_settle : {E : Type 0} (old new : PassView) (board after : BoardView P) (id : ℕ) (verdict : Verdict P) (pair : Option (ℕ × ℕ)) (result : Result Settled E) → new ≡ turned old after.entries → IsKnownBoard old board → IsHolding old id →
      IfOk result (IsOutcome board verdict pair) → IfOk result ChildrenFit → MatchResult result (λ what. after ≡ after_settle board old.number id verdict what) (λ refused. after ≡ board) →
      MatchResult result (λ what. IsSettledOn objective Backs old id verdict pair what new) (λ refused. new.mine ≡ old.mine)
  answers_settle old new board after id verdict pair (Ok what) now known holds outcome fit same = settles old new board after id verdict pair what now known holds outcome fit same
  answers_settle old new board after id verdict pair (Err refused) now known holds outcome fit same = mine_as_before old new board after now known same

  pub verdict_there : (old : PassView) (board : BoardView P) (id : ℕ) (verdict : Verdict P) → IsKnownBoard old board → choices_of (state_of old.seen) id ≡ choices_of (board_state board) id →
      IsSoundVerdict objective Backs old.home.shape (choices_of (state_of old.seen) id) verdict → IsSoundVerdict objective Backs board.shape (choices_of (board_state board) id) verdict
  verdict_there old board id verdict known same sound = subst (λ (x : Shape × List Choice). IsSoundVerdict objective Backs x.0 x.1 verdict) (λ i. (sym known.shape i, same i)) sound

  pub pair_there : (old : PassView) (board : BoardView P) (id : ℕ) (verdict : Verdict P) (pair : Option (ℕ × ℕ)) → IsKnownBoard old board → choices_of (state_of old.seen) id ≡ choices_of (board_state board) id →
      IsBranchPairFor old.home.shape (choices_of (state_of old.seen) id) verdict pair → IsBranchPairFor board.shape (choices_of (board_state board) id) verdict pair
  pair_there old board id verdict pair known same is = subst (λ (x : Shape × List Choice). IsBranchPairFor x.0 x.1 verdict pair) (λ i. (sym known.shape i, same i)) is
