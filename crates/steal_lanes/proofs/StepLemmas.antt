-- Each step on a lane keeps its rule.
use Rattle.std.proofs.Common.{◌≡◌, ◌≢◌, ℕ, zero, suc, ◌+◌, ◌≤◌, ◌⊎◌, inl, inr, List, [], ◌∷◌, ◌++◌, Some, length, set, drop, refl, sym, ap, ◌∙◌, subst, arith, length-append}
use Rattle.std.specs.Prelude.{slice_get}
use mathlib.Core.Option.{some-injective, some-ne-none}
use Rattle.std.proofs.lemmas.Bool.{le-ltb}
use Rattle.std.proofs.lemmas.Option.{slice_get_within}
use Rattle.std.proofs.lemmas.List.{drop-append-le}
use Rattle.std.proofs.lemmas.List.Elements.{All-nil, All-push, All-weaker}
use Rattle.std.proofs.lemmas.List.Sums.{sum_by_push}
use Rattle.crossbeam_deque.specs.Tasks.{Pushes, Takes, Finds, FindsFew, Admits}
use Rattle.crossbeam_deque.proofs.Lists.{at_set, at_snoc, at_longer, set_here, set_else}
use Rattle.compact_types.specs.declared.search.Branch.{Branch}
use Rattle.steal_lanes.specs.declared.views.Taken.{Taken}
use Rattle.steal_lanes.specs.declared.views.LaneView.{LaneView}
use Rattle.steal_lanes.specs.Histories.{History, new_history, with_put, with_handed}
use Rattle.steal_lanes.specs.Views.{fresh_view, with_branch, with_taken, times_got, times_got_by_all, HasSeat}
use Rattle.steal_lanes.specs.Rules.{KnowsPut, AreFrom, IsLaneState, Keeps}
use Rattle.steal_lanes.specs.Steps.{IsHandedOut, IsPut, WasEmpty}
use Rattle.steal_lanes.specs.inner.Batches.{IsOne}
use Rattle.steal_lanes.proofs.ViewLemmas.{seat_within, slice_get_longer, first_left, below_more, times_with, times_set, places_below}

-- the owner still knows what was put, where one view keeps what it knows of that
owner_stays : (put : List Branch) (views : List LaneView) (seat : ℕ) (old new : LaneView) → HasSeat views seat old → new.put ≡ old.put → KnowsPut put views → KnowsPut put (set views seat new)
owner_stays put views zero old new seated same knows =
    let is : knows.owner ≡ old = some-injective knows.owner old (sym knows.seated ∙ seated) in
    record {
      owner = new;
      seated = set_here views 0 new (seat_within views 0 old seated).0;
      put_is = same ∙ (ap (λ (v : LaneView). v.put) (sym is) ∙ knows.put_is);
    }
owner_stays put views (suc seat) old new seated same knows = record {
  owner = knows.owner;
  seated = set_else views (suc seat) 0 new (λ e. omega arith) ∙ knows.seated;
  put_is = knows.put_is;
}

-- what was got still is what was put, where more was put
from_more : (put more : List Branch) (got : List Taken) → AreFrom put got → AreFrom (put ++ more) got
from_more put more got from = All-weaker (λ (t : Taken). slice_get put t.place ≡ Some t.branch) (λ (t : Taken). slice_get (put ++ more) t.place ≡ Some t.branch)
    (λ t at. slice_get_longer put more t.place t.branch at) got from

-- each view got what was put, where one changes
whole_with : (put : List Branch) (views : List LaneView) (seat : ℕ) (new : LaneView) → AreFrom put new.got
    → ((j : ℕ) (view : LaneView) → HasSeat views j view → AreFrom put view.got)
    → (j : ℕ) (view : LaneView) → HasSeat (set views seat new) j view → AreFrom put view.got
whole_with put views seat new from whole j view at = by_seat (at_set views seat j new view at)
  where
    by_seat : ((j ≡ seat) × (new ≡ view)) ⊎ ((j ≢ seat) × HasSeat views j view) → AreFrom put view.got
    by_seat (inl here) = subst (λ (v : LaneView). AreFrom put v.got) here.1 from
    by_seat (inr there) = whole j view there.1

-- who is new got nothing that is not whole
newcomer_whole : (put : List Branch) (view : LaneView) → fresh_view ≡ view → AreFrom put view.got
newcomer_whole put view is = subst (λ (v : LaneView). AreFrom put v.got) is (All-nil (λ (t : Taken). slice_get put t.place ≡ Some t.branch))

-- a new lane keeps the rule
pub begins : Keeps [] (fresh_view ∷ [])
begins = record {
  history = new_history;
  waits = refl;
  state = record {
    within = omega arith;
    known = record { owner = fresh_view; seated = refl; put_is = refl };
    once = λ place. rw (le-ltb place 0 (omega arith)) refl;
    whole = λ seat view at. by_seat seat view (at_snoc [] fresh_view view seat at);
  };
}
  where
    by_seat : (seat : ℕ) (view : LaneView) → HasSeat [] seat view ⊎ (fresh_view ≡ view) → AreFrom [] view.got
    by_seat seat view (inl none) = absurd (some-ne-none view (sym none))
    by_seat seat view (inr is) = newcomer_whole [] view is

-- a new pass may come
pub comes : Admits Keeps fresh_view
comes items views keeps = record {
  history = keeps.history;
  waits = keeps.waits;
  state = record {
    within = keeps.state.within;
    known = record {
      owner = keeps.state.known.owner;
      seated = at_longer views (fresh_view ∷ []) 0 keeps.state.known.owner keeps.state.known.seated;
      put_is = keeps.state.known.put_is;
    };
    once = λ place. let all : times_got_by_all place (views ++ fresh_view ∷ []) ≡ times_got_by_all place views + 0 = sum_by_push (times_got place) views fresh_view in
        omega (arith, keeps.state.once place);
    whole = λ seat view at. by_seat seat view (at_snoc views fresh_view view seat at);
  };
}
  where
    by_seat : (seat : ℕ) (view : LaneView) → HasSeat views seat view ⊎ (fresh_view ≡ view) → AreFrom keeps.history.put view.got
    by_seat seat view (inl there) = keeps.state.whole seat view there
    by_seat seat view (inr is) = newcomer_whole keeps.history.put view is

-- the first seat may put a branch
puts_first : (view : LaneView) (branch : Branch) → Pushes Keeps 0 view (branch ∷ []) (λ new. IsPut view branch new)
puts_first view branch items views keeps seated = (
  new,
  record {
    history = with_put history branch;
    waits = drop-append-le history.handed history.put (branch ∷ []) keeps.state.within ∙ ap (λ l. l ++ branch ∷ []) keeps.waits;
    state = after;
  },
  record {
    history = history;
    views = views;
    before = keeps.state;
    seated = seated;
    put = refl;
    after = after;
  },
)
  where
    history : History
    history = keeps.history

    new : LaneView
    new = with_branch view branch

    same : keeps.state.known.owner ≡ view
    same = some-injective keeps.state.known.owner view (sym keeps.state.known.seated ∙ seated)

    more : (seat : ℕ) (v : LaneView) → HasSeat views seat v → AreFrom (history.put ++ branch ∷ []) v.got
    more seat v at = from_more history.put (branch ∷ []) v.got (keeps.state.whole seat v at)

    after : IsLaneState (with_put history branch) (set views 0 new)
    after = record {
      within = omega (arith, keeps.state.within, length-append history.put (branch ∷ []));
      known = record {
        owner = new;
        seated = set_here views 0 new (seat_within views 0 view seated).0;
        put_is = ap (λ l. l ++ branch ∷ []) (ap (λ (v : LaneView). v.put) (sym same) ∙ keeps.state.known.put_is);
      };
      once = λ place. omega (arith, times_set place views 0 view new seated, keeps.state.once place);
      whole = whole_with (history.put ++ branch ∷ []) views 0 new (more 0 view seated) more;
    }

-- the owner, whose seat is the first, may put a branch
pub puts : (seat : ℕ) (view : LaneView) (branch : Branch) → seat ≡ 0 → Pushes Keeps seat view (branch ∷ []) (λ new. IsPut view branch new)
puts seat view branch first = rw first (puts_first view branch)

-- the next branch is handed out
hands : (seat : ℕ) (view : LaneView) (branch : Branch) (items : List Branch) (views : List LaneView) → Keeps (branch ∷ items) views → HasSeat views seat view
    → (new : LaneView) × Keeps items (set views seat new) × IsHandedOut seat view branch new
hands seat view branch items views keeps seated = (
  new,
  record { history = with_handed history; waits = rw (next_number history.handed) first.1; state = after },
  record {
    history = history;
    views = views;
    before = keeps.state;
    seated = seated;
    next_is = first.0;
    got = refl;
    above = places_below history views seat view keeps.state seated;
    after = after;
  },
)
  where
    history : History
    history = keeps.history

    new : LaneView
    new = with_taken view history.handed branch

    first : (slice_get history.put history.handed ≡ Some branch) × (drop (suc history.handed) history.put ≡ items)
    first = first_left history.handed history.put branch items keeps.waits

    next_number : (n : ℕ) → n + 1 ≡ suc n
    next_number n = omega arith

    after : IsLaneState (with_handed history) (set views seat new)
    after = record {
      within = omega (arith, slice_get_within history.put history.handed branch first.0);
      known = owner_stays history.put views seat view new seated refl keeps.state.known;
      once = λ place. omega (arith, times_set place views seat view new seated, times_with place history.handed view branch, keeps.state.once place, below_more place history.handed);
      whole = whole_with history.put views seat new
          (All-push (λ (t : Taken). slice_get history.put t.place ≡ Some t.branch) view.got (record { place = history.handed; branch = branch }) (keeps.state.whole seat view seated) first.0)
          keeps.state.whole;
    }

-- the first seat may take a branch
takes_first : (view : LaneView) → Takes Keeps 0 view 1 (λ branches new. IsOne (λ branch. IsHandedOut 0 view branch new) branches)
takes_first view [] items views some_left one keeps seated = absurd (omega arith)
takes_first view (branch ∷ []) items views some_left one keeps seated = hands 0 view branch items views keeps seated
takes_first view (branch ∷ next ∷ rest) items views some_left one keeps seated = absurd (omega arith)

-- the owner, whose seat is the first, may take a branch
pub takes : (seat : ℕ) (view : LaneView) → seat ≡ 0 → Takes Keeps seat view 1 (λ branches new. IsOne (λ branch. IsHandedOut 0 view branch new) branches)
takes seat view first = rw first (takes_first view)

-- a pass, whose seat has some number, may take a branch
pub steals : (seat : ℕ) (view : LaneView) → Takes Keeps seat view 1 (λ branches new. IsOne (λ branch. (number : ℕ) × IsHandedOut number view branch new) branches)
steals seat view [] items views some_left one keeps seated = absurd (omega arith)
steals seat view (branch ∷ []) items views some_left one keeps seated =
    let step = hands seat view branch items views keeps seated in
    (step.0, step.1, (seat, step.2))
steals seat view (branch ∷ next ∷ rest) items views some_left one keeps seated = absurd (omega arith)

-- nothing waits in an empty deque
pub finds : (seat : ℕ) (view : LaneView) → Finds Keeps seat view (WasEmpty seat view)
finds seat view views keeps seated = record {
  history = keeps.history;
  views = views;
  state = keeps.state;
  seated = seated;
  empty = keeps.waits;
}

pub finds_nothing : (seat : ℕ) (view : LaneView) → FindsFew Keeps 0 seat view ((number : ℕ) × WasEmpty number view)
finds_nothing seat view items views few keeps seated = (seat, finds seat view views (subst (λ l. Keeps l views) (nothing items few) keeps) seated)
  where
    nothing : (l : List Branch) → length l ≤ 0 → l ≡ []
    nothing [] few = refl
    nothing (x ∷ xs) few = absurd (omega arith)

-- what the calls of an owner rest on
pub ruleset owner_steps = (begins, comes, puts, takes)

-- what a try to steal rests on
pub ruleset thief_steps = (steals, finds_nothing)
