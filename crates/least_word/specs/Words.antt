-- What is true of both words between any two steps.
use Rattle.std.specs.Prelude.{◌≡◌, ℕ, ◌≤◌, ◌↔◌, min, true, pos, List, slice_set}
use mathlib.Core.Option.{some}
use lib.ListN.{get_elem?}
use Rattle.compact_types.specs.declared.plan.Shape.{Shape}
use Rattle.compact_types.specs.Bests.{Objective, IsAttained}
use Rattle.least_word.specs.declared.view.Member.{Member}
use Rattle.least_word.specs.declared.view.View.{View}
use Rattle.least_word.specs.declared.words.TheConstants.{GREATEST_WORTH}

-- the least worth, and the halt word
pub record Words : Type 0 where
  pub worth : ℕ
  pub halt : ℕ

-- a halt was called: the halt word is set
abbrev pub IsHalted : Words → Type 0
IsHalted words = words.halt ≡ 1

-- the words after an offer
abbrev pub lowered : Words → ℕ → Words
lowered words worth = record words { worth = min words.worth worth }

-- the words after a halt was called
abbrev pub halted_word : Words → Words
halted_word words = record words { halt = 1 }

-- the seat of this number
abbrev pub IsSeat : List Member → ℕ → Member → Type 0
IsSeat seats number seat = get_elem? seats number ≡ some seat

-- some seat has the halting mark
pub record SomeHalts (seats : List Member) : Type 0 where
  pub number : ℕ
  pub seat : Member
  pub is_seat : IsSeat seats number seat
  pub halting : seat.view.halting ≡ true

-- What both words and all seats keep: some drawing of the shape has the worth, which is at most the
-- greatest and at most every seat's floor; the halt word is 0 or 1, and is set exactly if some seat
-- has the halting mark; and a seat that has heard of a halt is right.
pub record KeepsWordRule (objective : Objective) (shape : Shape) (words : Words)
    (seats : List Member) : Type 0 where
  pub attained : IsAttained objective shape (pos words.worth)
  pub small : words.worth ≤ GREATEST_WORTH
  pub floors : (number : ℕ) (seat : Member) → IsSeat seats number seat →
      words.worth ≤ seat.view.floor
  pub bit : words.halt ≤ 1
  pub halting : IsHalted words ↔ SomeHalts seats
  pub heard : (number : ℕ) (seat : Member) → IsSeat seats number seat →
      seat.view.heard ≡ true → IsHalted words

-- One step of one seat: the words and the view of this seat change, and no other view does. Before
-- and after it the words and the seats keep what they always keep.
pub record IsStep (objective : Objective) (shape : Shape) (before after : Words) (old new : View) :
    Type 0 where
  pub seats : List Member
  pub number : ℕ
  pub seat : Member
  pub is_seat : IsSeat seats number seat
  pub view_is : seat.view ≡ old
  pub kept_before : KeepsWordRule objective shape before seats
  pub kept_after : KeepsWordRule objective shape after
      (slice_set seats number (record seat { view = new }))
