-- What a seat knows, and how each step changes it.
use Rattle.std.specs.Prelude.{◌≡◌, ℕ, ◌+◌, ◌≤◌, min, max, Bool, true, false, ◌||◌}
use Rattle.least_word.specs.declared.view.View.{View}

-- the view of the first seat of a word: no mark, nothing loaded, and this floor
abbrev pub new_view : ℕ → View
new_view floor = record {
  floor = floor;
  loads = 0;
  halt_loads = 0;
  heard = false;
  halting = false;
  splits = 0;
}

-- the seat has loaded the worth
abbrev pub after_load : View → ℕ → View
after_load view worth = record view { floor = worth; loads = view.loads + 1 }

-- the seat has offered a worth
abbrev pub after_offer : View → ℕ → View
after_offer view worth = record view { floor = min view.floor worth }

-- the seat has called a halt
abbrev pub after_halt : View → View
after_halt view = record view { heard = true; halting = true }

-- the seat has loaded the halt word, and has found it set or not
abbrev pub after_halt_load : View → Bool → View
after_halt_load view is_set =
    record view { halt_loads = view.halt_loads + 1; heard = view.heard || is_set }

-- a seat was split off from this one
abbrev pub after_split : View → View
after_split view = record view { splits = view.splits + 1 }

-- the seat that was split off: it has loaded nothing yet
abbrev pub split_off : View → View
split_off view = record view { loads = 0; halt_loads = 0; splits = view.splits + 1 }

-- the seat has taken over the other
abbrev pub after_join : View → View → View
after_join view other = record view {
  floor = min view.floor other.floor;
  heard = view.heard || other.heard;
  halting = view.halting || other.halting;
  splits = max view.splits other.splits;
}

-- what no step takes from a seat: its floor does not rise, and it keeps its marks
pub record KeepsKnowledge (old new : View) : Type 0 where
  pub floor : new.floor ≤ old.floor
  pub heard : old.heard ≡ true → new.heard ≡ true
  pub halting : old.halting ≡ true → new.halting ≡ true
