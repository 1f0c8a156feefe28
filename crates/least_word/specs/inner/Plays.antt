-- The rule of the table, and what each step tells its seat.
use Rattle.std.specs.Prelude.{◌≡◌, ◌==◌, ◌≤◌, ℕ, pos, [], ◌∷◌, None, Some}
use Rattle.compact_types.specs.declared.plan.Shape.{Shape}
use Rattle.compact_types.specs.Bests.{IsAttained, Objective}
use Rattle.atomic_table.specs.Table.{Me, State, Step}
use Rattle.least_word.specs.declared.view.Member.{Member}
use Rattle.least_word.specs.declared.view.View.{View}
use Rattle.least_word.specs.declared.words.TheConstants.{GREATEST_WORTH, HALT_WORD, WORTH_WORD}
use Rattle.least_word.specs.Views.{after_halt, after_halt_load, after_load, after_offer, new_view}
use Rattle.least_word.specs.Words.{IsStep, KeepsWordRule, Words, halted_word, lowered}

-- a seat of the table, with the slots that it holds
abbrev pub TableSeat : Type 0
TableSeat = Me (Unit {0}) Member

-- the first seat of a table for a shape: its floor is the greatest worth
abbrev pub first_member : Shape → Member
first_member shape = record { shape = Some shape; view = new_view GREATEST_WORTH }

-- what is left of a seat that was joined to another
abbrev pub joined : Member
joined = record { shape = None; view = new_view GREATEST_WORTH }

-- the seat with another view
abbrev pub with_view : Member → View → Member
with_view seat view = record seat { view = view }

-- the table has these two words, and they and the seats keep what they always keep
pub record Holds (objective : Objective) (shape : Shape) (state : State (Unit {0}) Member) :
    Type 0 where
  pub words : Words
  pub are_words : state.words ≡ words.worth ∷ words.halt ∷ []
  pub kept : KeepsWordRule objective shape words state.views

-- the step found these words, and changed them and the seat's view in this way
pub record Changes (objective : Objective) (of_words : Words → Words) (of_view : View → View)
    (before after : TableSeat) (words : Words) : Type 0 where
  pub view : after ≡ (with_view before.0 (of_view before.0.view), before.1)
  pub step : (shape : Shape) → before.0.shape ≡ Some shape →
      IsStep objective shape words (of_words words) before.0.view (of_view before.0.view)

-- a load of the worth: some drawing has what it found, which is at most the floor
pub record Loads (objective : Objective) (step : Step (Unit {0})) (before : TableSeat) (found : ℕ)
    (after : TableSeat) : Type 0 where
  pub on : step.word ≡ WORTH_WORD
  pub words : Words
  pub found_is : words.worth ≡ found
  pub changes : Changes objective (λ w. w) (λ view. after_load view found) before after words
  pub attained : (shape : Shape) → before.0.shape ≡ Some shape →
      IsAttained objective shape (pos found)
  pub small : found ≤ GREATEST_WORTH
  pub below : found ≤ before.0.view.floor

-- a fetch-min of the worth, with the number that is offered
pub record Offers (objective : Objective) (step : Step (Unit {0})) (before : TableSeat) (found : ℕ)
    (after : TableSeat) : Type 0 where
  pub on : step.word ≡ WORTH_WORD
  pub words : Words
  pub found_is : words.worth ≡ found
  pub changes : Changes objective (λ w. lowered w step.first) (λ view. after_offer view step.first)
      before after words

-- a fetch-or of the halt word
pub record Halts (objective : Objective) (step : Step (Unit {0})) (before : TableSeat) (found : ℕ)
    (after : TableSeat) : Type 0 where
  pub on : step.word ≡ HALT_WORD
  pub words : Words
  pub found_is : words.halt ≡ found
  pub changes : Changes objective halted_word after_halt before after words

-- a load of the halt word: the seat has heard of a halt exactly if it found the word set
pub record FindsHalt (objective : Objective) (step : Step (Unit {0})) (before : TableSeat)
    (found : ℕ) (after : TableSeat) : Type 0 where
  pub on : step.word ≡ HALT_WORD
  pub words : Words
  pub found_is : words.halt ≡ found
  pub changes : Changes objective (λ w. w) (λ view. after_halt_load view (found == 1))
      before after words
  pub heard : (found == 1) ≡ after.0.view.heard
