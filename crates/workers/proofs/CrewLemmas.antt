-- Workers that work side by side, and the end of their search.
use Rattle.std.proofs.Common.{◌≡◌, ℕ, ◌+◌, ◌⊎◌, inl, inr, List, [], ◌∷◌, ◌++◌, length, Bool, true, false, sym, ap, ◌∙◌, subst, arith}
use Rattle.std.specs.Prelude.{All, ◌||◌, IfOk, OnErr, OnOk, IfSome, MatchOption, Option, None, Result, Ok, Err, Some, slice_get, slice_set}
use Rattle.std.proofs.lemmas.List.{append-nil, length-append, length-set}
use Rattle.std.proofs.lemmas.List.Elements.{All-append, All-cons, All-get_or, All-head, All-nil, All-set, All-tail, All-weaker}
use Rattle.std.proofs.lemmas.Option.{get_or_from_slice_get, slice_get_within}
use Rattle.compact_types.specs.declared.plan.Shape.{Shape}
use Rattle.board.specs.declared.entries.Entry.{Entry}
use Rattle.board.specs.Boards.{BoardView}
use Rattle.board.specs.Histories.{IsLegal, open_count_of, state_of}
use Rattle.board.proofs.Laws.{nothing_opens_again}
use Rattle.least_word.specs.declared.view.View.{View}
use Rattle.least_word.specs.Views.{after_halt_load}
use Rattle.least_word.specs.Seats.{WordHome}
use Rattle.ticket_board.specs.Passes.{AreNewcomers, Begins, BoardHome, PassView}
use Rattle.workers.specs.declared.desks.Desk.{Desk}
use Rattle.workers.specs.declared.hands.Hand.{Hand}
use Rattle.workers.specs.Hands.{HasEndedWell, HasHalted, IsHandAt}
use Rattle.workers.specs.inner.Lives.{AreDesksAt, AreSameDesks, HaveAllMet}
use Rattle.workers.proofs.HandLemmas.{begins_further}
use Rattle.workers.specs.inner.Turns.{AreAllSettled}

-- all of a list is all of its front, and its last
all_in_front : {X : Type 0} (P : X → Type 0) (xs ys : List X) → All P (xs ++ ys) → All P xs
all_in_front P [] ys all = All-nil P
all_in_front P (x ∷ xs) ys all = All-cons P x xs (All-head P x (xs ++ ys) all) (all_in_front P xs ys (All-tail P x (xs ++ ys) all))

all_in_rest : {X : Type 0} (P : X → Type 0) (xs ys : List X) → All P (xs ++ ys) → All P ys
all_in_rest P [] ys all = all
all_in_rest P (x ∷ xs) ys all = all_in_rest P xs ys (All-tail P x (xs ++ ys) all)

-- what holds of all before the last is taken off holds of it, and of those that are left
module _ {X : Type 0} (P : X → Type 0) (all front : List X) (last : X) (is : all ≡ front ++ last ∷ []) (hold : All P all) where
  pub taken_front : All P front
  taken_front = all_in_front P front (last ∷ []) (subst (λ (l : List X). All P l) is hold)

  pub taken_last : P last
  taken_last = All-head P last [] (all_in_rest P front (last ∷ []) (subst (λ (l : List X). All P l) is hold))

  pub taken_fewer : length front + 1 ≡ length all
  taken_fewer = let more = ap length is ∙ length-append front (last ∷ []) in omega (arith, more)

-- the desks stay those of one table when one of them is replaced by one of the same worker
pub same_by_set : (desks : List Desk) (place : ℕ) (old new : Desk) → slice_get desks place ≡ Some old →
    new.hand.pass.home ≡ old.hand.pass.home → new.hand.seat.home ≡ old.hand.seat.home → AreSameDesks desks (slice_set desks place new)
same_by_set desks place old new was pass seat = record {
  count = length-set desks place new;
  kept = λ board word all.
      let at : IsHandAt board word old.hand =
      subst (λ (desk : Desk). IsHandAt board word desk.hand) (get_or_from_slice_get desks place old old was)
      (All-get_or (λ (desk : Desk). IsHandAt board word desk.hand) desks place old (slice_get_within desks place old was) all) in
      All-set (λ (desk : Desk). IsHandAt board word desk.hand) desks place new (record { pass = pass ∙ at.pass; seat = seat ∙ at.seat }) all;
}

pub same_desks_further : (a b c : List Desk) → AreSameDesks a b → AreSameDesks b c → AreSameDesks a c
same_desks_further a b c first second = record {
  count = second.count ∙ first.count;
  kept = λ board word all. second.kept board word (first.kept board word all);
}

-- a desk more
desks_with : (board : BoardHome) (word : WordHome) (desks : List Desk) (last : Desk) → AreDesksAt board word desks →
    last.hand.pass.home ≡ board → last.hand.seat.home ≡ word → AreDesksAt board word (desks ++ last ∷ [])
desks_with board word desks last all pass seat =
    let P = λ (desk : Desk). IsHandAt board word desk.hand in
    All-append P desks (last ∷ []) all (All-cons P last [] (record { pass = pass; seat = seat }) (All-nil P))

pub desks_with_of : (board : BoardHome) (word : WordHome) (desks : List Desk) (last : Desk) (whole : List Desk) → whole ≡ desks ++ last ∷ [] →
    AreDesksAt board word desks → last.hand.pass.home ≡ board → last.hand.seat.home ≡ word → AreDesksAt board word whole
desks_with_of board word desks last whole is all pass seat =
    subst (λ (l : List Desk). AreDesksAt board word l) (sym is) (desks_with board word desks last all pass seat)

-- each of the new passes is one to their ticket board
newcomers_at : (home : BoardHome) (first callers : ℕ) (seen : List Entry) (passes : List PassView) → AreNewcomers home first callers seen passes →
    All (λ pass. pass.home ≡ home) passes
newcomers_at home first callers seen passes are k d below =
    let count = are.count in
    ap (λ (pass : PassView). pass.home) (get_or_from_slice_get passes k _ d (are.each k (omega arith)))

pub newcomers_made : {E : Type 0} (first callers : ℕ) (seen : List Entry) (result : Result (BoardHome × List PassView) E) →
    IfOk result (λ made. AreNewcomers made.0 first callers seen made.1) →
    IfOk result (λ made. All (λ (pass : PassView). pass.home ≡ made.0) made.1)
newcomers_made first callers seen (Ok made) are = newcomers_at made.0 first callers seen made.1 are
newcomers_made first callers seen (Err refused) are = tt

-- what a worker knew at first it knows at its end
pub seen_to_end : {T E : Type 0} (result : Result T E) (old new : Hand) → OnOk result (HasEndedWell old new) → OnErr result (HasHalted old new) →
    Begins old.pass.seen new.pass.seen
seen_to_end (Ok value) old new ended halted = ended.worked.seen
seen_to_end (Err error) old new ended halted = halted.worked.seen

-- it stays in what has met
pub all_met_further : (desks : List Desk) (mid new : PassView) → Begins mid.seen new.seen → HaveAllMet desks mid → HaveAllMet desks new
all_met_further desks mid new later met =
    All-weaker (λ (desk : Desk). Begins desk.hand.pass.seen mid.seen) (λ (desk : Desk). Begins desk.hand.pass.seen new.seen)
    (λ desk first. begins_further desk.hand.pass.seen mid.seen new.seen first later) desks met

pub all_met_with : (front : List Desk) (last : Desk) (whole : List Desk) (new : PassView) → whole ≡ front ++ last ∷ [] → HaveAllMet front new →
    Begins last.hand.pass.seen new.seen → HaveAllMet whole new
all_met_with front last whole new is met seen =
    let P = λ (desk : Desk). Begins desk.hand.pass.seen new.seen in
    subst (λ (l : List Desk). All P l) (sym is) (All-append P front (last ∷ []) met (All-cons P last [] seen (All-nil P)))

pub none_to_meet : (whole : List Desk) (new : PassView) → whole ≡ [] → HaveAllMet whole new
none_to_meet whole new is =
    let P = λ (desk : Desk). Begins desk.hand.pass.seen new.seen in
    subst (λ (l : List Desk). All P l) (sym is) (All-nil P)

-- what is taken off a list, and what is left of it
pub popped_last : {X : Type 0} (P : X → Type 0) (old new : List X) (taken : Option X) →
    MatchOption taken ((old ≡ []) × (new ≡ [])) (λ last. old ≡ new ++ last ∷ []) → All P old → IfSome taken P
popped_last P old new None is all = tt
popped_last P old new (Some last) is all = taken_last P old new last is all

pub popped_front : {X : Type 0} (P : X → Type 0) (old new : List X) (taken : Option X) →
    MatchOption taken ((old ≡ []) × (new ≡ [])) (λ last. old ≡ new ++ last ∷ []) → All P old → All P new
popped_front P old new None is all = subst (λ (l : List _). All P l) (sym is.1) (All-nil P)
popped_front P old new (Some last) is all = taken_front P old new last is all

-- without an open branch none opens later
pub none_open_later : (front whole : List Entry) → Begins front whole → IsLegal whole → open_count_of (state_of front) ≡ 0 →
    open_count_of (state_of whole) ≡ 0
none_open_later front whole later legal none =
    let nothing : later.rest ≡ [] = nothing_opens_again front later.rest (subst (λ (h : List Entry). IsLegal h) later.whole_is legal) none in
    let same : whole ≡ front = later.whole_is ∙ ap (λ (rest : List Entry). front ++ rest) nothing ∙ append-nil front in
    ap (λ (h : List Entry). open_count_of (state_of h)) same ∙ none

-- a seat that finds no halt had heard of none
heard_none : (old : Bool) → old ≡ true → (old || false) ≡ true
heard_none true is = is
heard_none false is = is

-- the search is over where no halt was heard of
pub all_settled_where_quiet : {P : Type 0} (shape : Shape) (board : BoardView P) (front : List Entry) (old : View) (found : Bool) →
    board.shape ≡ shape → Begins front board.entries → IsLegal board.entries → found ≡ false → found ≡ (after_halt_load old found).heard →
    (open_count_of (state_of front) ≡ 0) ⊎ (old.heard ≡ true) → AreAllSettled shape board
all_settled_where_quiet shape board front old found same later legal unset heard (inl none) = record {
  shape_kept = same;
  none_open = none_open_later front board.entries later legal none;
}
all_settled_where_quiet shape board front old found same later legal unset heard (inr was) =
    let is : (old.heard || found) ≡ true = subst (λ (b : Bool). (old.heard || b) ≡ true) (sym unset) (heard_none old.heard was) in
    absurd (let e : true ≡ false = sym is ∙ sym heard ∙ unset in cc)
