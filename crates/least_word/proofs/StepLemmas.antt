-- Each step of a seat keeps the rule.
use Rattle.std.proofs.Common.{◌≡◌, ◌==◌, ◌||◌, ⊎_elim, ℕ, zero, suc, ◌≤◌, min, Bool, true, false, List, [], ◌∷◌, set, slice_set, slice_index, bit_or, pos, inl, inr, sym, refl, ap, ◌∙◌, subst, le_refl, arith, Some}
use Rattle.std.proofs.lemmas.Bool.{eq-eqb, eqb-true, false≢true, or_cases, or_left, or_right}
use mathlib.Core.Option.{none, some, some-ne-none}
use native.Mathlib.Decide.{dec_le}
use lib.ListN.{get_elem?}
use Rattle.atomic_table.specs.Table.{Act, Allows, Joins, Splits, State, Valid, carried_after, homes_after, keeps, opening, step}
use Rattle.atomic_table.proofs.Lists.{at_snoc, set_else, set_here}
use Rattle.compact_types.specs.declared.plan.Shape.{Shape}
use Rattle.compact_types.specs.Bests.{Objective, IsAttained}
use Rattle.least_word.specs.declared.view.Member.{Member}
use Rattle.least_word.specs.declared.view.View.{View}
use Rattle.least_word.specs.declared.words.TheConstants.{GREATEST_WORTH}
use Rattle.least_word.specs.Views.{after_halt, after_halt_load, after_join, after_load, after_offer, after_split, split_off}
use Rattle.least_word.specs.Words.{IsSeat, IsStep, KeepsWordRule, SomeHalts, Words, halted_word, lowered}
use Rattle.least_word.specs.inner.Plays.{FindsHalt, Changes, Halts, Holds, TableSeat, Loads, Offers, first_member, joined, with_view}
use Rattle.least_word.proofs.RuleLemmas.{IsFit, IsRight, kept_by_change, kept_by_one_more, seat_below, seat_is_right}

-- the lesser of two attained worths is attained
min_attained : (objective : Objective) (shape : Shape) (a b : ℕ) → IsAttained objective shape (pos a) → IsAttained objective shape (pos b) → IsAttained objective shape (pos (min a b))
min_attained objective shape a b of_a of_b = elim (dec_le a b) [
  | yes le ↦ let is : a ≡ min a b = omega arith in subst (λ (n : ℕ). IsAttained objective shape (pos n)) is of_a
  | no gt ↦ let is : b ≡ min a b = omega arith in subst (λ (n : ℕ). IsAttained objective shape (pos n)) is of_b
]

-- a seat that has heard of a halt finds the word set
heard_or_found : (heard : Bool) (n : ℕ) → (heard ≡ true → n ≡ 1) → (n == 1) ≡ (heard || (n == 1))
heard_or_found true n right = eq-eqb n 1 (right refl)
heard_or_found false n right = refl

-- a halt word of 0 or 1 becomes 1
set_bit : (halt : ℕ) → halt ≤ 1 → bit_or halt 1 ≡ 1
set_bit zero bit = refl
set_bit (suc zero) bit = refl
set_bit (suc (suc n)) bit = absurd (omega arith)

module _ (objective : Objective) (shape : Shape) where
  -- the seat has the mark after the change
  mark_here : (seats : List Member) (number : ℕ) (seat : Member) (view : View) → IsSeat seats number seat → view.halting ≡ true → SomeHalts (set seats number (with_view seat view))
  mark_here seats number seat view at halting = record {
    number = number;
    seat = with_view seat view;
    is_seat = set_here seats number (with_view seat view) (seat_below seats number seat at);
    halting = halting;
  }

  -- a change of the view alone, under words that stay
  stays_fit : (words : Words) (seats : List Member) (number : ℕ) (seat : Member) (view : View) → KeepsWordRule objective shape words seats → IsSeat seats number seat
      → IsRight words view → (seat.view.halting ≡ true → view.halting ≡ true) → IsFit objective shape words words seats number seat (with_view seat view)
  stays_fit words seats number seat view kept at right mark = record {
    attained = kept.attained;
    lower = le_refl words.worth;
    bit = kept.bit;
    stays = λ was. was;
    right = right;
    mark_stays = λ was. mark_here seats number seat view at (mark was);
    cause = λ was. inl was;
  }

  module _ (slots id : ℕ) (me : TableSeat) (of_shape : me.0.shape ≡ Some shape) where
    -- what a step asks at a table with these words
    abbrev Next : State (Unit {0}) Member → ℕ → (ℕ → ℕ) → (ℕ → TableSeat → Type 0) → List ℕ → Type 0
    Next s i f then ws = (w : Member) × (a : Act (Unit {0})) × Valid s.homes me.1 a
        × Holds objective shape (record { words = slice_set ws i (f (slice_index ws i)); homes = homes_after s.homes me.1 a; views = slice_set s.views id w })
        × then (slice_index ws i) (w, carried_after me.1 a)

    -- what a step tells
    goes : (change : Words → Words) (known : View → View) (words : Words) (seats : List Member) → KeepsWordRule objective shape words seats → IsSeat seats id me.0
        → IsFit objective shape words (change words) seats id me.0 (with_view me.0 (known me.0.view)) → Changes objective change known me (with_view me.0 (known me.0.view), me.1) words
    goes change known words seats kept at fit = record {
      view = refl;
      step = λ other is.
          let same : shape ≡ other = cc in
          subst (λ (sh : Shape). IsStep objective sh words (change words) me.0.view (known me.0.view)) same (record {
            seats = seats;
            number = id;
            seat = me.0;
            is_seat = at;
            view_is = refl;
            kept_before = kept;
            kept_after = kept_by_change objective shape words (change words) seats id me.0 (with_view me.0 (known me.0.view)) kept at fit;
          });
    }

    pub loads : Allows (Holds objective shape) slots id me 0 (λ n. n) (Loads objective (step slots 0 0 0 none) me)
    loads s holds _ at _ =
        let words = holds.words in
        let was = seat_is_right objective shape words s.views id me.0 holds.kept at in
        let known = λ (view : View). after_load view words.worth in
        let fit = stays_fit words s.views id me.0 (known me.0.view) holds.kept at (record { floor = le_refl words.worth; heard = was.heard; halting = was.halting }) (λ m. m) in
        subst (Next s 0 (λ n. n) (Loads objective (step slots 0 0 0 none) me)) (sym holds.are_words) (
          with_view me.0 (known me.0.view),
          keeps,
          tt,
          record { words = words; are_words = refl; kept = kept_by_change objective shape words words s.views id me.0 (with_view me.0 (known me.0.view)) holds.kept at fit },
          record {
            on = refl;
            words = words;
            found_is = refl;
            changes = goes (λ w. w) known words s.views holds.kept at fit;
            attained = λ other is. let same : shape ≡ other = cc in subst (λ (sh : Shape). IsAttained objective sh (pos words.worth)) same holds.kept.attained;
            small = holds.kept.small;
            below = was.floor;
          },
        )

    pub offers : (worth : ℕ) → IsAttained objective shape (pos worth) → Allows (Holds objective shape) slots id me 0 (λ n. min n worth) (Offers objective (step slots 0 worth 0 none) me)
    offers worth of_worth s holds _ at _ =
        let words = holds.words in
        let next = lowered words worth in
        let known = λ (view : View). after_offer view worth in
        let was = seat_is_right objective shape words s.views id me.0 holds.kept at in
        let low : words.worth ≤ me.0.view.floor = was.floor in
        let fit : IsFit objective shape words next s.views id me.0 (with_view me.0 (known me.0.view)) = record {
          attained = min_attained objective shape words.worth worth holds.kept.attained of_worth;
          lower = omega arith;
          bit = holds.kept.bit;
          stays = λ h. h;
          right = record { floor = omega arith; heard = was.heard; halting = was.halting };
          mark_stays = λ mark. mark_here s.views id me.0 (known me.0.view) at mark;
          cause = λ h. inl h;
        } in
        subst (Next s 0 (λ n. min n worth) (Offers objective (step slots 0 worth 0 none) me)) (sym holds.are_words) (
          with_view me.0 (known me.0.view),
          keeps,
          tt,
          record { words = next; are_words = refl; kept = kept_by_change objective shape words next s.views id me.0 (with_view me.0 (known me.0.view)) holds.kept at fit },
          record { on = refl; words = words; found_is = refl; changes = goes (λ w. lowered w worth) known words s.views holds.kept at fit },
        )

    pub halts : Allows (Holds objective shape) slots id me 1 (λ n. bit_or n 1) (Halts objective (step slots 1 1 0 none) me)
    halts s holds _ at _ =
        let words = holds.words in
        let next = halted_word words in
        let was = seat_is_right objective shape words s.views id me.0 holds.kept at in
        let fit : IsFit objective shape words next s.views id me.0 (with_view me.0 (after_halt me.0.view)) = record {
          attained = holds.kept.attained;
          lower = le_refl words.worth;
          bit = le_refl 1;
          stays = λ _. refl;
          right = record { floor = was.floor; heard = λ _. refl; halting = λ _. refl };
          mark_stays = λ _. mark_here s.views id me.0 (after_halt me.0.view) at refl;
          cause = λ _. inr refl;
        } in
        subst (Next s 1 (λ n. bit_or n 1) (Halts objective (step slots 1 1 0 none) me)) (sym holds.are_words) (
          with_view me.0 (after_halt me.0.view),
          keeps,
          tt,
          record {
            words = next;
            are_words = ap (λ (n : ℕ). words.worth ∷ n ∷ []) (set_bit words.halt holds.kept.bit);
            kept = kept_by_change objective shape words next s.views id me.0 (with_view me.0 (after_halt me.0.view)) holds.kept at fit;
          },
          record { on = refl; words = words; found_is = refl; changes = goes halted_word after_halt words s.views holds.kept at fit },
        )

    pub finds_halt : Allows (Holds objective shape) slots id me 1 (λ n. n) (FindsHalt objective (step slots 1 0 0 none) me)
    finds_halt s holds _ at _ =
        let words = holds.words in
        let known = λ (view : View). after_halt_load view (words.halt == 1) in
        let was = seat_is_right objective shape words s.views id me.0 holds.kept at in
        let right : IsRight words (known me.0.view) = record {
          floor = was.floor;
          heard = λ heard. ⊎_elim was.heard (eqb-true words.halt 1) (or_cases me.0.view.heard (words.halt == 1) heard);
          halting = was.halting;
        } in
        let fit = stays_fit words s.views id me.0 (known me.0.view) holds.kept at right (λ m. m) in
        subst (Next s 1 (λ n. n) (FindsHalt objective (step slots 1 0 0 none) me)) (sym holds.are_words) (
          with_view me.0 (known me.0.view),
          keeps,
          tt,
          record { words = words; are_words = refl; kept = kept_by_change objective shape words words s.views id me.0 (with_view me.0 (known me.0.view)) holds.kept at fit },
          record {
            on = refl;
            words = words;
            found_is = refl;
            changes = goes (λ w. w) known words s.views holds.kept at fit;
            heard = heard_or_found me.0.view.heard words.halt was.heard;
          },
        )

  pub splits : (id : ℕ) (me : Member) → Splits (Holds objective shape) id me (with_view me (after_split me.view)) (with_view me (split_off me.view))
  splits id me s holds at =
      let words = holds.words in
      let was = seat_is_right objective shape words s.views id me holds.kept at in
      let fit = stays_fit words s.views id me (after_split me.view) holds.kept at (record { floor = was.floor; heard = was.heard; halting = was.halting }) (λ m. m) in
      record {
        words = words;
        are_words = holds.are_words;
        kept = kept_by_one_more objective shape words (set s.views id (with_view me (after_split me.view))) (with_view me (split_off me.view))
            (kept_by_change objective shape words words s.views id me (with_view me (after_split me.view)) holds.kept at fit)
            (record { floor = was.floor; heard = was.heard; halting = was.halting });
      }

  -- the seat that takes over another, and what is left of that one
  pub joins : (id : ℕ) (me : Member) (other : ℕ) (it : Member) → Joins (Holds objective shape) id me other it (with_view me (after_join me.view it.view)) joined
  joins id me other it s holds at apart there =
      let words = holds.words in
      let both = with_view me (after_join me.view it.view) in
      let seats = set s.views id both in
      let mine = seat_is_right objective shape words s.views id me holds.kept at in
      let there_before : IsSeat s.views other it = sym (set_else s.views id other both apart) ∙ there in
      let its = seat_is_right objective shape words s.views other it holds.kept there_before in
      let my_floor : words.worth ≤ me.view.floor = mine.floor in
      let its_floor : words.worth ≤ it.view.floor = its.floor in
      let right : IsRight words both.view = record {
        floor = omega arith;
        heard = λ heard. ⊎_elim mine.heard its.heard (or_cases me.view.heard it.view.heard heard);
        halting = λ halting. ⊎_elim mine.halting its.halting (or_cases me.view.halting it.view.halting halting);
      } in
      let first = stays_fit words s.views id me both.view holds.kept at right (λ m. or_left me.view.halting it.view.halting m) in
      let taken = kept_by_change objective shape words words s.views id me both holds.kept at first in
      let small : words.worth ≤ GREATEST_WORTH = holds.kept.small in
      let second : IsFit objective shape words words seats other it joined = record {
        attained = holds.kept.attained;
        lower = le_refl words.worth;
        bit = holds.kept.bit;
        stays = λ h. h;
        right = record { floor = small; heard = λ none. absurd (false≢true none); halting = λ none. absurd (false≢true none) };
        mark_stays = λ mark. record {
          number = id;
          seat = both;
          is_seat = set_else seats other id joined (λ same. apart (sym same)) ∙ set_here s.views id both (seat_below s.views id me at);
          halting = or_right me.view.halting it.view.halting mark;
        };
        cause = λ h. inl h;
      } in
      record { words = words; are_words = holds.are_words; kept = kept_by_change objective shape words words seats other it joined taken there second }

  -- the first seat beside the first two words
  pub opens : (first : ℕ) → IsAttained objective shape (pos first) → first ≤ GREATEST_WORTH
      → Holds objective shape (opening (first ∷ 0 ∷ []) [] (first_member shape))
  opens first of_first small = record {
    words = record { worth = first; halt = 0 };
    are_words = refl;
    kept = record {
      attained = of_first;
      small = small;
      floors = λ n seat is. subst (λ (p : Member). first ≤ p.view.floor) (only n seat is) small;
      bit = omega arith;
      halting = (
        (λ halted. absurd (omega (arith, halted))),
        (λ it. absurd (false≢true (ap (λ (p : Member). p.view.halting) (only it.number it.seat it.is_seat) ∙ it.halting))),
      );
      heard = λ n seat is heard. absurd (false≢true (ap (λ (p : Member). p.view.heard) (only n seat is) ∙ heard));
    };
  }
    where
      only : (n : ℕ) (seat : Member) → get_elem? (first_member shape ∷ []) n ≡ some seat → first_member shape ≡ seat
      only n seat is = ⊎_elim (λ none_there. absurd (some-ne-none seat (sym none_there))) (λ same. same) (at_snoc [] (first_member shape) seat n is)

-- what each step asks, and the first table
pub ruleset steps = (finds_halt, halts, joins, loads, offers, opens, splits)
