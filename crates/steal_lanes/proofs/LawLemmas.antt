-- What follows from the rule of a lane.
use Rattle.std.proofs.Common.{◌≡◌, ◌≢◌, ℕ, zero, suc, ◌+◌, ◌<◌, ◌≤◌, ◌⊎◌, inl, inr, true, false, cond, eqb, List, [], ◌∷◌, ◌++◌, Some, drop, take, refl, sym, ap, ◌∙◌, subst, arith, Contains}
use Rattle.std.specs.Prelude.{slice_get}
use Rattle.std.specs.List.{sum_by}
use mathlib.Core.Option.{some, some-injective, some-ne-none}
use lib.ListN.{get_elem?}
use Rattle.std.proofs.lemmas.Bool.{cases_Bool, cases_lt, eqb-true, lt-ltb}
use Rattle.std.proofs.lemmas.List.{take_more, drop_more}
use Rattle.std.proofs.lemmas.List.Elements.{All-contains, Contains-get_or}
use Rattle.std.proofs.lemmas.List.Sums.{sum_by-cons}
use Rattle.std.proofs.lemmas.Option.{slice_get_within, get_or_from_slice_get}
use Rattle.compact_types.specs.declared.search.Branch.{Branch}
use Rattle.steal_lanes.specs.declared.views.Taken.{Taken}
use Rattle.steal_lanes.specs.declared.views.LaneView.{LaneView}
use Rattle.steal_lanes.specs.Histories.{History, next, with_handed, waiting, handed_out}
use Rattle.steal_lanes.specs.Views.{times_got, times_got_by_all, HasSeat}
use Rattle.steal_lanes.specs.Rules.{IsLaneState, IsGotByOne}
use Rattle.steal_lanes.proofs.ViewLemmas.{seat_within, places_below}

-- what is handed out is the first that waits, and joins what was handed out
pub handed_in_order : (history : History) (branch : Branch) → next history ≡ Some branch
    → (waiting history ≡ branch ∷ waiting (with_handed history)) × (handed_out (with_handed history) ≡ handed_out history ++ branch ∷ [])
handed_in_order history branch is =
    let put = history.put in
    let inside = slice_get_within put history.handed branch is in
    let first = get_or_from_slice_get put history.handed branch branch is in (
      drop_more put history.handed branch inside ∙ ap (λ b. b ∷ drop (history.handed + 1) put) first,
      take_more put history.handed branch inside ∙ ap (λ b. take history.handed put ++ b ∷ []) first,
    )

module _ {X : Type 0} (f : X → ℕ) where
  -- nothing adds up to 0 but zeros
  none_of : (xs : List X) → sum_by f xs ≡ 0 → (i : ℕ) (x : X) → get_elem? xs i ≡ some x → f x ≡ 0
  none_of [] total i x at = absurd (some-ne-none x (sym at))
  none_of (y ∷ ys) total zero x at = let same = ap f (some-injective y x at) in omega (arith, sum_by-cons f y ys)
  none_of (y ∷ ys) total (suc i) x at = none_of ys (omega (arith, sum_by-cons f y ys)) i x at

  -- one of the list is a 1, and all others are zeros
  abbrev OneOf : List X → Type 0
  OneOf xs = (i : ℕ) × (x : X) × (get_elem? xs i ≡ some x) × (f x ≡ 1) × ((j : ℕ) (y : X) → get_elem? xs j ≡ some y → j ≢ i → f y ≡ 0)

  one_later : (x : X) (xs : List X) → f x ≡ 0 → OneOf xs → OneOf (x ∷ xs)
  one_later x xs none one = (suc one.0, one.1, one.2, one.3, others)
    where
      others : (j : ℕ) (y : X) → get_elem? (x ∷ xs) j ≡ some y → j ≢ suc one.0 → f y ≡ 0
      others zero y at apart = ap f (sym (some-injective x y at)) ∙ none
      others (suc j) y at apart = one.4 j y at (λ e. apart (ap suc e))

  one_here : (x : X) (xs : List X) → f x ≡ 1 → sum_by f xs ≡ 0 → OneOf (x ∷ xs)
  one_here x xs one rest = (zero, x, refl, one, others)
    where
      others : (j : ℕ) (y : X) → get_elem? (x ∷ xs) j ≡ some y → j ≢ zero → f y ≡ 0
      others zero y at apart = absurd (apart refl)
      others (suc j) y at apart = none_of xs rest j y at

  one_of : (xs : List X) → sum_by f xs ≡ 1 → OneOf xs
  one_of [] total = absurd (omega arith)
  one_of (x ∷ xs) total = by_first (cases_lt (f x) 1) (one_of xs)
    where
      by_first : (f x < 1) ⊎ (1 ≤ f x) → (sum_by f xs ≡ 1 → OneOf xs) → OneOf (x ∷ xs)
      by_first (inl none) rest = one_later x xs (omega arith) (rest (omega (arith, sum_by-cons f x xs)))
      by_first (inr more) rest = one_here x xs (omega (arith, sum_by-cons f x xs)) (omega (arith, sum_by-cons f x xs))

-- no seat got a place from the number handed out on
pub no_other_place : (history : History) (views : List LaneView) (seat : ℕ) (view : LaneView) → IsLaneState history views → HasSeat views seat view
    → (taken : Taken) → Contains view.got taken → taken.place < history.handed
no_other_place history views seat view state seated taken got =
    All-contains (λ (t : Taken). t.place < history.handed) view.got taken (places_below history views seat view state seated) got

-- who got a place once has it with some branch
got_with : (place : ℕ) (view : LaneView) → times_got place view ≡ 1 → (branch : Branch) × Contains view.got (record { place = place; branch = branch })
got_with place view once =
    let one = one_of (λ (t : Taken). cond (eqb t.place place) 1 0) view.got once in
    let inside = seat_within view.got one.0 one.1 one.2 in
    let has : Contains view.got one.1 = subst (Contains view.got) inside.1 (Contains-get_or view.got one.0 one.1 inside.0) in
    (one.1.branch, subst (λ (t : Taken). Contains view.got t) (named one.1 (passes one.1 (cases_Bool (eqb one.1.place place)) one.3)) has)
  where
    counts_one : Taken → ℕ
    counts_one t = cond (eqb t.place place) 1 0

    passes : (t : Taken) → (eqb t.place place ≡ true) ⊎ (eqb t.place place ≡ false) → counts_one t ≡ 1 → t.place ≡ place
    passes t (inl equal) is = eqb-true t.place place equal
    passes t (inr other) is = let none : counts_one t ≡ 0 = rw other refl in absurd (omega (arith, none, is))

    named : (t : Taken) → t.place ≡ place → t ≡ record { place = place; branch = t.branch }
    named t e = ap (λ n. record { place = n; branch = t.branch }) e

-- each place below the number handed out was got by one seat
pub got_by_one : (history : History) (views : List LaneView) (place : ℕ) → IsLaneState history views → place < history.handed → IsGotByOne history views place
got_by_one history views place state below =
    let all : times_got_by_all place views ≡ 1 = rw (lt-ltb place history.handed below) at (state.once place) in
    let one = one_of (times_got place) views all in
    let got = got_with place one.1 one.3 in record {
      seat = one.0;
      view = one.1;
      seated = one.2;
      branch = got.0;
      put_there = All-contains (λ (t : Taken). slice_get history.put t.place ≡ Some t.branch) one.1.got (record { place = place; branch = got.0 }) (state.whole one.0 one.1 one.2) got.1;
      got = got.1;
      once = one.3;
      no_other = one.4;
    }
