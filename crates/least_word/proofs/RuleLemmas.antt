-- What keeps the rule: a change of the words and of one seat, and a seat more.
use Rattle.std.proofs.Common.{◌≡◌, ◌≢◌, ◌⊎◌, ⊎_elim, ℕ, zero, suc, ◌≤◌, ◌<◌, true, List, [], ◌∷◌, ◌++◌, length, set, pos, sym, ap, ◌∙◌, subst, le_trans, arith}
use mathlib.Core.Option.{some, some-injective, some-ne-none}
use mathlib.Core.Logic.{dite}
use native.Mathlib.Decide.{ℕ_discrete}
use lib.ListN.{get_elem?}
use Rattle.atomic_table.proofs.Lists.{at_set, at_longer, at_snoc, set_else, set_here}
use Rattle.compact_types.specs.declared.plan.Shape.{Shape}
use Rattle.compact_types.specs.Bests.{Objective, IsAttained}
use Rattle.least_word.specs.declared.view.Member.{Member}
use Rattle.least_word.specs.declared.view.View.{View}
use Rattle.least_word.specs.Words.{IsHalted, IsSeat, KeepsWordRule, SomeHalts, Words}

-- a seat's number is below the number of seats
pub seat_below : (seats : List Member) (number : ℕ) (seat : Member) → IsSeat seats number seat → number < length seats
seat_below [] number seat at = absurd (some-ne-none seat (sym at))
seat_below (x ∷ xs) zero seat at = omega arith
seat_below (x ∷ xs) (suc number) seat at = let below = seat_below xs number seat at in omega arith

-- a view that may stand beside the words
pub record IsRight (words : Words) (view : View) : Type 0 where
  pub floor : words.worth ≤ view.floor
  pub heard : view.heard ≡ true → IsHalted words
  pub halting : view.halting ≡ true → IsHalted words

-- the view of a seat that is there is right
pub seat_is_right : (objective : Objective) (shape : Shape) (words : Words) (seats : List Member) (number : ℕ) (seat : Member)
    → KeepsWordRule objective shape words seats → IsSeat seats number seat → IsRight words seat.view
seat_is_right objective shape words seats number seat kept at = record {
  floor = kept.floors number seat at;
  heard = kept.heard number seat at;
  halting = λ halts. kept.halting.1 (record { number = number; seat = seat; is_seat = at; halting = halts });
}

-- what a change of the words and of one seat has to meet
pub record IsFit (objective : Objective) (shape : Shape) (before after : Words) (seats : List Member) (number : ℕ) (old new : Member) : Type 0 where
  pub attained : IsAttained objective shape (pos after.worth)
  pub lower : after.worth ≤ before.worth
  pub bit : after.halt ≤ 1
  pub stays : IsHalted before → IsHalted after
  pub right : IsRight after new.view
  pub mark_stays : old.view.halting ≡ true → SomeHalts (set seats number new)
  pub cause : IsHalted after → IsHalted before ⊎ (new.view.halting ≡ true)

module _ (objective : Objective) (shape : Shape) (before after : Words) (seats : List Member) (number : ℕ) (old new : Member)
    (kept : KeepsWordRule objective shape before seats) (at : IsSeat seats number old) (fit : IsFit objective shape before after seats number old new) where
  -- a seat that has the mark, after the change
  still_halts : SomeHalts seats → SomeHalts (set seats number new)
  still_halts it = dite (ℕ_discrete it.number number)
      (λ same. fit.mark_stays (ap (λ (p : Member). p.view.halting) (some-injective old it.seat (sym at ∙ ap (get_elem? seats) (sym same) ∙ it.is_seat)) ∙ it.halting))
      (λ other. record { number = it.number; seat = it.seat; is_seat = set_else seats number it.number new other ∙ it.is_seat; halting = it.halting })

  has_halted : IsHalted after → SomeHalts (set seats number new)
  has_halted set_ = ⊎_elim (λ (was : IsHalted before). still_halts (kept.halting.0 was))
      (λ (mine : new.view.halting ≡ true). record { number = number; seat = new; is_seat = set_here seats number new (seat_below seats number old at); halting = mine })
      (fit.cause set_)

  -- every seat after the change is right
  all_right : (n : ℕ) (seat : Member) → IsSeat (set seats number new) n seat → IsRight after seat.view
  all_right n seat is = ⊎_elim
      (λ (t : (n ≡ number) × (new ≡ seat)). subst (λ (p : Member). IsRight after p.view) t.1 fit.right)
      (λ (t : (n ≢ number) × (get_elem? seats n ≡ some seat)). let was = seat_is_right objective shape before seats n seat kept t.1 in record {
        floor = le_trans fit.lower was.floor;
        heard = λ heard. fit.stays (was.heard heard);
        halting = λ halting. fit.stays (was.halting halting);
      })
      (at_set seats number n new seat is)

  pub kept_by_change : KeepsWordRule objective shape after (set seats number new)
  kept_by_change = record {
    attained = fit.attained;
    small = le_trans fit.lower kept.small;
    floors = λ n seat is. (all_right n seat is).floor;
    bit = fit.bit;
    halting = (has_halted, λ it. (all_right it.number it.seat it.is_seat).halting it.halting);
    heard = λ n seat is. (all_right n seat is).heard;
  }

-- a seat more, whose view is right
pub kept_by_one_more : (objective : Objective) (shape : Shape) (words : Words) (seats : List Member) (seat : Member)
    → KeepsWordRule objective shape words seats → IsRight words seat.view → KeepsWordRule objective shape words (seats ++ seat ∷ [])
kept_by_one_more objective shape words seats seat kept right = record {
  attained = kept.attained;
  small = kept.small;
  floors = λ n it is. (all n it is).floor;
  bit = kept.bit;
  halting = (
    (λ set_. let it = kept.halting.0 set_ in record { number = it.number; seat = it.seat; is_seat = at_longer seats (seat ∷ []) it.number it.seat it.is_seat; halting = it.halting }),
    (λ it. (all it.number it.seat it.is_seat).halting it.halting),
  );
  heard = λ n it is. (all n it is).heard;
}
  where
    all : (n : ℕ) (it : Member) → IsSeat (seats ++ seat ∷ []) n it → IsRight words it.view
    all n it is = ⊎_elim (λ (was : get_elem? seats n ≡ some it). seat_is_right objective shape words seats n it kept was)
        (λ (same : seat ≡ it). subst (λ (p : Member). IsRight words p.view) same right)
        (at_snoc seats seat it n is)
