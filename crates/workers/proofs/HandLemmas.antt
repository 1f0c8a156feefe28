-- What a worker has done, step by step.
use Rattle.std.proofs.Common.{◌≡◌, ◌⊎◌, inl, inr, ℕ, zero, suc, ◌+◌, ◌<◌, List, [], ◌∷◌, ◌++◌, refl, sym, ap, ◌∙◌, subst, append_assoc, Option, Some, Result, Ok, Err, arith}
use Rattle.std.specs.Prelude.{All, OnErr, map, slice_get, slice_set, length}
use Rattle.std.proofs.lemmas.List.{append-nil, map-append, length-set, get_or_append_left, get_or-set_same}
use Rattle.std.proofs.lemmas.List.Elements.{All-append, All-cons, All-head, All-nil, All-tail, All-weaker}
use Rattle.compact_types.specs.declared.plan.Shape.{Shape}
use Rattle.compact_types.specs.declared.search.Branch.{Branch}
use Rattle.compact_types.specs.declared.search.Choice.{Choice}
use Rattle.compact_types.specs.Bests.{Objective}
use Rattle.bars.specs.Solutions.{with_choice}
use Rattle.shape_graphs.specs.declared.measure.Verdict.{Verdict}
use Rattle.board.specs.declared.entries.Claim.{Claim}
use Rattle.board.specs.declared.entries.Claim.TheVariants.{Taken, Stranger}
use Rattle.board.specs.declared.entries.Entry.{Entry}
use Rattle.board.specs.declared.entries.Entry.TheVariants as entries
use Rattle.board.specs.declared.entries.Settled.{Settled}
use Rattle.board.specs.declared.entries.Settled.TheVariants.{Split, Closed, Improved}
use Rattle.board.specs.declared.standings.Standing.TheVariants.{Done}
use Rattle.board.specs.Histories.{HasChildren, IsKnown, IsLegal, State, after, branch_count, standing_of, standings_opened, state_of}
use Rattle.board.proofs.Laws.{choices_stay, known_stays, splits_have_children, state_with}
use Rattle.least_word.specs.declared.view.View.{View}
use Rattle.least_word.specs.Seats.{SeatView}
use Rattle.least_word.specs.Views.{after_load}
use Rattle.steal_lanes.specs.States.{DequeId, LaneHome, LaneState}
use Rattle.ticket_board.specs.Passes.{Begins, HasSeenMore, PassView}
use Rattle.ticket_board.specs.Turns.{IsClaimed, IsGranted, IsSettledOn}
use Rattle.workers.specs.declared.hands.Hand.{Hand}
use Rattle.workers.specs.declared.hands.Other.{Other}
use Rattle.workers.specs.Hands.{HasEndedWell, HasHalted, HasWorked, MayEnd, IsQuiet, IsSameHand, lane_of, put_after, put_after_all}
use Rattle.workers.specs.inner.Lives.{IsGoing, IsOutOfMemory, halting}
use Rattle.workers.specs.inner.Sharing.{HasPut, child_of, children_to_put}

-- histories that grow
begins_itself : (history : List Entry) → Begins history history
begins_itself history = record { rest = []; whole_is = sym (append-nil history) }

pub begins_further : (a b c : List Entry) → Begins a b → Begins b c → Begins a c
begins_further a b c first second = record {
  rest = first.rest ++ second.rest;
  whole_is =
      second.whole_is ∙ ap (λ (l : List Entry). l ++ second.rest) first.whole_is ∙ append_assoc a first.rest second.rest;
}

-- a branch that is known stays known
pub known_later : (front whole : List Entry) (branch : Branch) → Begins front whole → IsKnown (state_of front) branch → IsKnown (state_of whole) branch
known_later front whole branch later known =
    subst (λ (h : List Entry). IsKnown (state_of h) branch) (sym later.whole_is)
    (record {
      below = let more = known_stays front later.rest in let here = known.below in omega (arith, more, here);
      choices = choices_stay front later.rest branch.id known.below ∙ known.choices;
    })

-- one piece of work after another
same_further : (a b c : Hand) → IsSameHand a b → IsSameHand b c → IsSameHand a c
same_further a b c first second = record {
  number = second.number ∙ first.number;
  board = second.board ∙ first.board;
  caller = second.caller ∙ first.caller;
  word = second.word ∙ first.word;
  lane = second.lane ∙ first.lane;
  room = second.room ∙ first.room;
  others = second.others ∙ first.others;
}

put_after_all-append : (a b : List Entry) → put_after_all (a ++ b) ≡ put_after_all a ++ put_after_all b
put_after_all-append [] b = refl
put_after_all-append (entry ∷ rest) b =
    ap (λ (l : List ℕ). put_after entry ++ l) (put_after_all-append rest b) ∙ sym (append_assoc (put_after entry) (put_after_all rest) (put_after_all b))

quiet_further : (a b c : View) → IsQuiet a b → IsQuiet b c → IsQuiet a c
quiet_further a b c first second = record { halting = second.halting ∙ first.halting; splits = second.splits ∙ first.splits }

worked_further : (a b c : Hand) (left : List ℕ) → HasWorked a b [] → HasWorked b c left → HasWorked a c left
worked_further a b c left first second = record {
  same = same_further a b c first.same second.same;
  seen = begins_further a.pass.seen b.pass.seen c.pass.seen first.seen second.seen;
  gained = first.gained ++ second.gained;
  mine =
      second.mine ∙ ap (λ (l : List Entry). l ++ second.gained) first.mine ∙ append_assoc a.pass.mine first.gained second.gained;
  put = first.put ++ second.put;
  lane =
      second.lane ∙ ap (λ (l : List Branch). l ++ second.put) first.lane ∙ append_assoc a.lane.view.put first.put second.put;
  in_order =
      let ids : map (λ (branch : Branch). branch.id) (first.put ++ second.put)
      ≡ map (λ (branch : Branch). branch.id) first.put ++ map (λ (branch : Branch). branch.id) second.put =
      map-append (λ (branch : Branch). branch.id) first.put second.put in
      let front : map (λ (branch : Branch). branch.id) first.put ≡ put_after_all first.gained = sym (append-nil (map (λ (branch : Branch). branch.id) first.put)) ∙ first.in_order in
      ap (λ (l : List ℕ). l ++ left) ids ∙ append_assoc (map (λ (branch : Branch). branch.id) first.put) (map (λ (branch : Branch). branch.id) second.put) left
      ∙ ap (λ (l : List ℕ). l ++ (map (λ (branch : Branch). branch.id) second.put ++ left)) front
      ∙ ap (λ (l : List ℕ). put_after_all first.gained ++ l) second.in_order
      ∙ sym (put_after_all-append first.gained second.gained);
  known =
      All-append (λ (branch : Branch). IsKnown (state_of c.pass.seen) branch) first.put second.put
      (All-weaker (λ (branch : Branch). IsKnown (state_of b.pass.seen) branch) (λ (branch : Branch). IsKnown (state_of c.pass.seen) branch)
      (λ branch known. known_later b.pass.seen c.pass.seen branch second.seen known) first.put first.known)
      second.known;
}

pub going_further : (a b c : Hand) → IsGoing a b → IsGoing b c → IsGoing a c
going_further a b c first second = record {
  worked = worked_further a b c [] first.worked second.worked;
  quiet = quiet_further a.seat.view b.seat.view c.seat.view first.quiet second.quiet;
}

pub stopped_further : (a b c : Hand) → IsGoing a b → IsOutOfMemory b c → IsOutOfMemory a c
stopped_further a b c first second = record { left = second.left; worked = worked_further a b c second.left first.worked second.worked }

-- a step that asks for no put and makes none
moved_on : (old new : Hand) (gained : List Entry) → IsSameHand old new → Begins old.pass.seen new.pass.seen → new.pass.mine ≡ old.pass.mine ++ gained →
    [] ≡ put_after_all gained → new.lane.view.put ≡ old.lane.view.put → HasWorked old new []
moved_on old new gained same seen mine none lane = record {
  same = same;
  seen = seen;
  gained = gained;
  mine = mine;
  put = [];
  lane = lane ∙ sym (append-nil old.lane.view.put);
  in_order = none;
  known = All-nil (λ (branch : Branch). IsKnown (state_of new.pass.seen) branch);
}

pub going_itself : (hand : Hand) → IsGoing hand hand
going_itself hand = record {
  worked = moved_on hand hand []
      (record { number = refl; board = refl; caller = refl; word = refl; lane = refl; room = refl; others = refl })
      (begins_itself hand.pass.seen) (sym (append-nil hand.pass.mine)) refl refl;
  quiet = record { halting = refl; splits = refl };
}

-- the seat alone has changed
pub going_by_seat : (hand : Hand) (seat : SeatView) → seat.home ≡ hand.seat.home → IsQuiet hand.seat.view seat.view → IsGoing hand (record hand { seat = seat })
going_by_seat hand seat home quiet = record {
  worked = moved_on hand (record hand { seat = seat }) []
      (record { number = refl; board = refl; caller = refl; word = home; lane = refl; room = refl; others = refl })
      (begins_itself hand.pass.seen) (sym (append-nil hand.pass.mine)) refl refl;
  quiet = quiet;
}

-- the lane has handed out
pub going_by_take : (hand : Hand) (lane : LaneState) → lane.home ≡ hand.lane.home → lane.room ≡ hand.lane.room →
    lane.view.put ≡ hand.lane.view.put → IsGoing hand (record hand { lane = lane })
going_by_take hand lane home room put = record {
  worked = moved_on hand (record hand { lane = lane }) []
      (record { number = refl; board = refl; caller = refl; word = refl; lane = home; room = room; others = refl })
      (begins_itself hand.pass.seen) (sym (append-nil hand.pass.mine)) refl put;
  quiet = record { halting = refl; splits = refl };
}

-- the ways into other lanes lead to the same lanes
pub going_by_others : (hand : Hand) (others : List Other) → map lane_of others ≡ map lane_of hand.others → IsGoing hand (record hand { others = others })
going_by_others hand others same = record {
  worked = moved_on hand (record hand { others = others }) []
      (record { number = refl; board = refl; caller = refl; word = refl; lane = refl; room = refl; others = same })
      (begins_itself hand.pass.seen) (sym (append-nil hand.pass.mine)) refl refl;
  quiet = record { halting = refl; splits = refl };
}

-- the pass alone has changed, and has gained entries that ask for no put
going_by_pass : (hand : Hand) (pass : PassView) (gained : List Entry) → HasSeenMore hand.pass pass → pass.mine ≡ hand.pass.mine ++ gained →
    [] ≡ put_after_all gained → IsGoing hand (record hand { pass = pass })
going_by_pass hand pass gained more mine none = record {
  worked = moved_on hand (record hand { pass = pass }) gained
      (record { number = refl; board = more.home; caller = more.number; word = refl; lane = refl; room = refl; others = refl })
      more.later mine none refl;
  quiet = record { halting = refl; splits = refl };
}

pub going_by_look : (hand : Hand) (pass : PassView) → HasSeenMore hand.pass pass → pass.mine ≡ hand.pass.mine → IsGoing hand (record hand { pass = pass })
going_by_look hand pass more mine = going_by_pass hand pass [] more (mine ∙ sym (append-nil hand.pass.mine)) refl

pub going_by_claim : (hand : Hand) (branch : Branch) (pass : PassView) → HasSeenMore hand.pass pass → IsGranted hand.pass branch pass →
    IsGoing hand (record hand { pass = pass })
going_by_claim hand branch pass more granted = going_by_pass hand pass (entries.Claimed pass.number branch.id ∷ []) more granted.mine refl

-- a branch that is another's adds no entry
pub not_granted : (old new : PassView) (branch : Branch) (claim : Claim) → IsClaimed old branch claim new → (claim ≡ Taken) ⊎ (claim ≡ Stranger) →
    new.mine ≡ old.mine
not_granted old new branch claim answer (inl is) = let taken : IsClaimed old branch Taken new = subst (λ (c : Claim). IsClaimed old branch c new) is answer in taken.2
not_granted old new branch claim answer (inr is) =
    let stranger : IsClaimed old branch Stranger new = subst (λ (c : Claim). IsClaimed old branch c new) is answer in stranger.1

-- the branch is claimed, and the least worth is read and then lowered
module _ (hand : Hand) (branch : Branch) (pass : PassView) (more : HasSeenMore hand.pass pass) (granted : IsGranted hand.pass branch pass)
    (read : SeatView) (stop : ℕ) (load : read ≡ record hand.seat { view = after_load hand.seat.view stop }) where
  quiet_load : IsQuiet hand.seat.view read.view
  quiet_load = record { halting = ap (λ (s : SeatView). s.view.halting) load; splits = ap (λ (s : SeatView). s.view.splits) load }

  pub going_by_read : IsGoing hand (record hand { pass = pass; seat = read })
  going_by_read =
      going_further hand (record hand { pass = pass }) (record hand { pass = pass; seat = read })
      (going_by_claim hand branch pass more granted)
      (going_by_seat (record hand { pass = pass }) read (ap (λ (s : SeatView). s.home) load) quiet_load)

  pub going_by_offer : (seat : SeatView) → seat.home ≡ read.home → IsQuiet read.view seat.view → IsGoing hand (record hand { pass = pass; seat = seat })
  going_by_offer seat home quiet =
      going_further hand (record hand { pass = pass; seat = read }) (record hand { pass = pass; seat = seat })
      going_by_read (going_by_seat (record hand { pass = pass; seat = read }) seat home quiet)

-- memory was refused before anything had to be put
pub stopped_where_going : (old new : Hand) → IsGoing old new → IsOutOfMemory old new
stopped_where_going old new going = record { left = []; worked = going.worked }

-- what a steal leaves of the ways into other lanes
pub same_lanes : (others : List Other) (place : ℕ) (old new : Other) → slice_get others place ≡ Some old → lane_of new ≡ lane_of old →
    map lane_of (slice_set others place new) ≡ map lane_of others
same_lanes [] place old new is same = refl
same_lanes (other ∷ rest) zero old new is same =
    let here : lane_of new ≡ lane_of other = cc in
    ap (λ (lane : DequeId × LaneHome). lane ∷ map lane_of rest) here
same_lanes (other ∷ rest) (suc place) old new is same =
    ap (λ (lanes : List (DequeId × LaneHome)). lane_of other ∷ lanes) (same_lanes rest place old new is same)

-- a branch that was granted is known
pub granted_known : (old new : PassView) (branch : Branch) → IsGranted old branch new → IsKnown (state_of new.seen) branch
granted_known old new branch granted = record {
  below =
      let here = granted.known.below in
      let stays = known_stays granted.before (entries.Claimed new.number branch.id ∷ []) in
      let same : branch_count (state_of new.seen) ≡ branch_count (state_of (granted.before ++ entries.Claimed new.number branch.id ∷ [])) =
      ap (λ (h : List Entry). branch_count (state_of h)) granted.seen in
      omega (arith, here, stays, same);
  choices = granted.choices;
}

-- the branch stands settled after the settle
settled_after : (state : State) (who id : ℕ) (what : Settled) → id < branch_count state →
    standing_of (after state (entries.Settled who id what)) id ≡ Done what
settled_after state who id what below =
    let inside : id < length (slice_set state.standings id (Done what)) = omega (arith, below, length-set state.standings id (Done what)) in
    get_or_append_left (slice_set state.standings id (Done what)) (standings_opened what) (Done Closed) id inside
    ∙ get_or-set_same state.standings id (Done what) (Done Closed) below

-- the children of the branch, where it was split at the end of a history
module _ (before : List Entry) (who : ℕ) (branch : Branch) (first s t : ℕ) (known : IsKnown (state_of before) branch)
    (legal : IsLegal (before ++ entries.Settled who branch.id (Split first s t) ∷ [])) where
  abbrev whole : List Entry
  whole = before ++ entries.Settled who branch.id (Split first s t) ∷ []

  here : branch.id < branch_count (state_of whole)
  here = let below = known.below in let stays = known_stays before (entries.Settled who branch.id (Split first s t) ∷ []) in omega (arith, below, stays)

  are_children : HasChildren (state_of whole) branch.id first s t
  are_children =
      splits_have_children whole branch.id first s t legal here
      (ap (λ (state : State). standing_of state branch.id) (state_with before (entries.Settled who branch.id (Split first s t)))
      ∙ settled_after (state_of before) who branch.id (Split first s t) known.below)

  child_known : (side : ℕ) → side < 4 → IsKnown (state_of whole) (child_of branch first s t side)
  child_known side below = record {
    below = let within = are_children.within in omega (arith, within, below);
    choices =
        are_children.choices side below
        ∙ ap (λ (choices : List Choice). with_choice choices s t side)
        (choices_stay before (entries.Settled who branch.id (Split first s t) ∷ []) branch.id known.below ∙ known.choices);
  }

children_known : (before : List Entry) (who : ℕ) (branch : Branch) (what : Settled) → IsKnown (state_of before) branch →
    IsLegal (before ++ entries.Settled who branch.id what ∷ []) →
    All (IsKnown (state_of (before ++ entries.Settled who branch.id what ∷ []))) (children_to_put branch what)
children_known before who branch (Split first s t) known legal =
    let P = λ (child : Branch). IsKnown (state_of (before ++ entries.Settled who branch.id (Split first s t) ∷ [])) child in
    All-cons P (child_of branch first s t 0) (child_of branch first s t 1 ∷ child_of branch first s t 2 ∷ [])
    (child_known before who branch first s t known legal 0 (omega arith))
    (All-cons P (child_of branch first s t 1) (child_of branch first s t 2 ∷ [])
    (child_known before who branch first s t known legal 1 (omega arith))
    (All-cons P (child_of branch first s t 2) [] (child_known before who branch first s t known legal 2 (omega arith)) (All-nil P)))
children_known before who branch Closed known legal = All-nil (IsKnown (state_of (before ++ entries.Settled who branch.id Closed ∷ [])))
children_known before who branch Improved known legal = All-nil (IsKnown (state_of (before ++ entries.Settled who branch.id Improved ∷ [])))

-- their numbers are those that the entry asks for
children_numbers : (who : ℕ) (branch : Branch) (what : Settled) →
    map (λ (child : Branch). child.id) (children_to_put branch what) ≡ put_after_all (entries.Settled who branch.id what ∷ [])
children_numbers who branch (Split first s t) =
    let none : first + 0 ≡ first = omega arith in
    ap (λ (n : ℕ). n ∷ (first + 1) ∷ (first + 2) ∷ []) none
children_numbers who branch Closed = refl
children_numbers who branch Improved = refl

all_in_front : {X : Type 0} (P : X → Type 0) (xs ys : List X) → All P (xs ++ ys) → All P xs
all_in_front P [] ys all = All-nil P
all_in_front P (x ∷ xs) ys all = All-cons P x xs (All-head P x (xs ++ ys) all) (all_in_front P xs ys (All-tail P x (xs ++ ys) all))

-- a branch that the worker holds was settled, and a first part of its children was put
module _ {P : Type 0} (objective : Objective) (Backs : Shape → List Choice → P → Verdict P → Type 0) (hand : Hand) (branch : Branch)
    (verdict : Verdict P) (pair : Option (ℕ × ℕ)) (what : Settled) (pass : PassView) (lane : LaneState) (left : List Branch)
    (known : IsKnown (state_of hand.pass.seen) branch) (more : HasSeenMore hand.pass pass)
    (settled : IsSettledOn objective Backs hand.pass branch.id verdict pair what pass) (put : HasPut branch what left hand.lane lane) where
  known_on_board : IsKnown (state_of settled.board.entries) branch
  known_on_board = known_later hand.pass.seen settled.board.entries branch settled.later known

  all_known : All (IsKnown (state_of pass.seen)) (children_to_put branch what)
  all_known =
      subst (λ (h : List Entry). All (IsKnown (state_of h)) (children_to_put branch what)) (sym settled.seen)
      (children_known settled.board.entries hand.pass.number branch what known_on_board (subst (λ (h : List Entry). IsLegal h) settled.seen more.legal))

  pub worked_by_settle : HasWorked hand (record hand { pass = pass; lane = lane }) (map (λ (child : Branch). child.id) left)
  worked_by_settle = record {
    same = record { number = refl; board = more.home; caller = more.number; word = refl; lane = put.home; room = put.room; others = refl };
    seen = more.later;
    gained = entries.Settled hand.pass.number branch.id what ∷ [];
    mine = settled.mine;
    put = put.put;
    lane = put.lane;
    in_order =
        sym (map-append (λ (child : Branch). child.id) put.put left)
        ∙ ap (λ (l : List Branch). map (λ (child : Branch). child.id) l) put.in_order
        ∙ children_numbers hand.pass.number branch what;
    known =
        all_in_front (IsKnown (state_of pass.seen)) put.put left
        (subst (λ (l : List Branch). All (IsKnown (state_of pass.seen)) l) (sym put.in_order) all_known);
  }

  pub stopped_by_settle : IsOutOfMemory hand (record hand { pass = pass; lane = lane })
  stopped_by_settle = record { left = map (λ (child : Branch). child.id) left; worked = worked_by_settle }

  pub going_by_settle : left ≡ [] → IsGoing hand (record hand { pass = pass; lane = lane })
  going_by_settle none = record {
    worked =
        subst (λ (l : List Branch). HasWorked hand (record hand { pass = pass; lane = lane }) (map (λ (child : Branch). child.id) l)) none worked_by_settle;
    quiet = record { halting = refl; splits = refl };
  }

-- how the life of a worker ends
pub ended_well : (old new : Hand) → IsGoing old new → MayEnd new → HasEndedWell old new
ended_well old new going end = record { worked = going.worked; quiet = going.quiet; may_end = end }

has_halted : (old stopped new : Hand) → IsOutOfMemory old stopped → new ≡ halting stopped → HasHalted old new
has_halted old stopped new is same = subst (λ (hand : Hand). HasHalted old hand) (sym same) here
  where
    here : HasHalted old (halting stopped)
    here = record {
      left = is.left;
      worked = record {
        same = record {
          number = is.worked.same.number;
          board = is.worked.same.board;
          caller = is.worked.same.caller;
          word = is.worked.same.word;
          lane = is.worked.same.lane;
          room = is.worked.same.room;
          others = is.worked.same.others;
        };
        seen = is.worked.seen;
        gained = is.worked.gained;
        mine = is.worked.mine;
        put = is.worked.put;
        lane = is.worked.lane;
        in_order = is.worked.in_order;
        known = is.worked.known;
      };
      halting = refl;
      heard = refl;
    }

pub halted_on_err : {T E : Type 0} (result : Result T E) (old stopped new : Hand) → OnErr result (IsOutOfMemory old stopped) →
    OnErr result (new ≡ halting stopped) → OnErr result (HasHalted old new)
halted_on_err (Ok value) old stopped new is same = tt
halted_on_err (Err error) old stopped new is same = has_halted old stopped new is same
