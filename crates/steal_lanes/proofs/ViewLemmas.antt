-- Lists, sums over views, and what was got.
use Rattle.std.proofs.Common.{◌≡◌, ℕ, zero, suc, ◌+◌, ◌<◌, ◌≤◌, ◌⊎◌, inl, inr, cond, eqb, ltb, List, [], ◌∷◌, ◌++◌, Some, length, get_or, set, drop, refl, sym, ap, ◌∙◌, arith, All}
use Rattle.std.specs.Prelude.{slice_get}
use mathlib.Core.Option.{some, some-injective, some-ne-none}
use Rattle.std.proofs.lemmas.Option.{none-some}
use lib.ListN.{get_elem?}
use Rattle.std.proofs.lemmas.Bool.{cases_lt, cases_order, eq-eqb, ne_eqb, le-ltb, lt-ltb}
use Rattle.std.proofs.lemmas.List.{drop_all}
use Rattle.std.proofs.lemmas.List.Sums.{sum_by-set, sum_by_push, get_or-le-sum_by}
use Rattle.compact_types.specs.declared.search.Branch.{Branch}
use Rattle.steal_lanes.specs.declared.views.Taken.{Taken}
use Rattle.steal_lanes.specs.declared.views.LaneView.{LaneView}
use Rattle.steal_lanes.specs.Histories.{History}
use Rattle.steal_lanes.specs.Rules.{IsLaneState}
use Rattle.steal_lanes.specs.Views.{HasSeat, times_got, times_got_by_all, with_taken}

module _ {X : Type 0} where
  -- who has a seat is one of the list
  pub seat_within : (xs : List X) (i : ℕ) (x : X) → get_elem? xs i ≡ some x → (i < length xs) × (get_or xs i x ≡ x)
  seat_within [] i x at = absurd (some-ne-none x (sym at))
  seat_within (y ∷ ys) zero x at = (omega arith, some-injective y x at)
  seat_within (y ∷ ys) (suc i) x at = let rest = seat_within ys i x at in (omega (arith, rest.0), rest.1)

  -- what stands at a place stays there when the list grows
  pub slice_get_longer : (xs ys : List X) (k : ℕ) (x : X) → slice_get xs k ≡ Some x → slice_get (xs ++ ys) k ≡ Some x
  slice_get_longer [] ys k x at = absurd (none-some x at)
  slice_get_longer (y ∷ xs) ys zero x at = at
  slice_get_longer (y ∷ xs) ys (suc k) x at = slice_get_longer xs ys k x at

  -- the first of what is left, and what is left after it
  pub first_left : (n : ℕ) (xs : List X) (x : X) (ys : List X) → drop n xs ≡ x ∷ ys → (slice_get xs n ≡ Some x) × (drop (suc n) xs ≡ ys)
  first_left n [] x ys is = absurd (none-some x (ap (λ l. slice_get l 0) (sym (drop_all n [] (omega arith)) ∙ is)))
  first_left zero (z ∷ zs) x ys is = (ap (λ l. slice_get l 0) is, ap (drop 1) is)
  first_left (suc n) (z ∷ zs) x ys is = first_left n zs x ys is

-- a place below one number more is below the number or is it
pub below_more : (place n : ℕ) → cond (ltb place n) 1 0 + cond (eqb n place) 1 0 ≡ cond (ltb place (n + 1)) 1 0
below_more place n = by_order (cases_order place n)
  where
    by_order : (place ≡ n) ⊎ ((place < n) ⊎ (n < place)) → cond (ltb place n) 1 0 + cond (eqb n place) 1 0 ≡ cond (ltb place (n + 1)) 1 0
    by_order (inl same) = rw (le-ltb place n (omega arith), eq-eqb n place (sym same), lt-ltb place (n + 1) (omega arith)) refl
    by_order (inr (inl less)) = rw (lt-ltb place n less, ne_eqb n place (λ e. omega arith), lt-ltb place (n + 1) (omega arith)) refl
    by_order (inr (inr more)) = rw (le-ltb place n (omega arith), ne_eqb n place (λ e. omega arith), le-ltb place (n + 1) (omega arith)) refl

-- one more place was got
pub times_with : (place at : ℕ) (view : LaneView) (branch : Branch) → times_got place (with_taken view at branch) ≡ times_got place view + cond (eqb at place) 1 0
times_with place at view branch = sum_by_push (λ (t : Taken). cond (eqb t.place place) 1 0) view.got (record { place = at; branch = branch })

-- the times of all after a change of one view
pub times_set : (place : ℕ) (views : List LaneView) (seat : ℕ) (old new : LaneView) → HasSeat views seat old →
    times_got_by_all place (set views seat new) + times_got place old ≡ times_got_by_all place views + times_got place new
times_set place views seat old new seated =
    let inside = seat_within views seat old seated in
    let sums = sum_by-set (times_got place) views seat new old inside.0 in
    rw inside.1 at sums

-- one got a place no more often than all
pub times_one : (place : ℕ) (views : List LaneView) (seat : ℕ) (view : LaneView) → HasSeat views seat view → times_got place view ≤ times_got_by_all place views
times_one place views seat view seated =
    let inside = seat_within views seat view seated in
    let part = get_or-le-sum_by (times_got place) views seat view inside.0 in
    rw inside.1 at part

-- who got no place from n on has places below n
pub got_below : (n : ℕ) (view : LaneView) → ((place : ℕ) → n ≤ place → times_got place view ≡ 0) → All (λ taken. taken.place < n) view.got
got_below n view none k d inside = below (cases_lt taken.place n)
  where
    taken : Taken
    taken = get_or view.got k d

    below : (taken.place < n) ⊎ (n ≤ taken.place) → taken.place < n
    below (inl less) = less
    below (inr past) =
        let part = get_or-le-sum_by (λ (t : Taken). cond (eqb t.place taken.place) 1 0) view.got k d inside in
        let same = eq-eqb taken.place taken.place refl in
        absurd (omega (arith, rw same at part, none taken.place past))

-- in a state of the lane the places that one got are below the number handed out
pub places_below : (history : History) (views : List LaneView) (seat : ℕ) (view : LaneView) → IsLaneState history views → HasSeat views seat view → All (λ taken. taken.place < history.handed) view.got
places_below history views seat view state seated = got_below history.handed view (λ place past.
    let none : times_got_by_all place views ≡ 0 = rw (le-ltb place history.handed past) at (state.once place) in
    omega (arith, none, times_one place views seat view seated))
