-- What has been done with the branches of a search, entry by entry.
use Rattle.std.specs.Prelude.{◌≡◌, ◌⊎◌, ℕ, ◌+◌, ◌<◌, ◌≤◌, Bool, true, false, IsTrue, List, [], ◌∷◌, ◌++◌, length, slice_index_or, slice_set, count_by}
use Rattle.compact_types.specs.declared.search.Branch.{Branch}
use Rattle.compact_types.specs.declared.search.Choice.{Choice}
use Rattle.bars.specs.Solutions.{with_choice}
use Rattle.board.specs.declared.entries.Entry.{Entry}
use Rattle.board.specs.declared.entries.Entry.TheVariants as entries
use Rattle.board.specs.declared.entries.Settled.{Settled}
use Rattle.board.specs.declared.entries.Settled.TheVariants as settled
use Rattle.board.specs.declared.standings.Standing.{Standing}
use Rattle.board.specs.declared.standings.Standing.TheVariants.{Waiting, Held, Done}

-- the choices and the standing of each branch, by its number
pub record State : Type 0 where
  pub choices : List (List Choice)
  pub standings : List Standing

-- how a search begins: branch 0 waits, and has no choices
abbrev pub opened : State
opened = record { choices = [] ∷ []; standings = Waiting ∷ [] }

-- how many branches there are
abbrev pub branch_count : State → ℕ
branch_count state = length state.standings

-- the choices of a branch; none where there is no such branch
abbrev pub choices_of : State → ℕ → List Choice
choices_of state id = slice_index_or state.choices id []

-- what stands of a branch; where there is no such branch, nothing is left to do
abbrev pub standing_of : State → ℕ → Standing
standing_of state id = slice_index_or state.standings id (Done settled.Closed)

-- the branch waits
abbrev pub IsWaiting : State → ℕ → Type 0
IsWaiting state id = standing_of state id ≡ Waiting

-- the branch is held by this caller
abbrev pub IsHeldBy : State → ℕ → ℕ → Type 0
IsHeldBy state id who = standing_of state id ≡ Held who

-- there is a branch of this number, and it is settled with this outcome
pub record IsOutcomeOf (state : State) (id : ℕ) (what : Settled) : Type 0 where
  pub below : id < branch_count state
  pub done : standing_of state id ≡ Done what

-- there is a branch of this number, and it is settled
pub record IsSettled (state : State) (id : ℕ) : Type 0 where
  pub what : Settled
  pub outcome : IsOutcomeOf state id what

-- whether a branch that stands so is open: it waits or is held
abbrev pub is_open : Standing → Bool
is_open Waiting = true
is_open (Held who) = true
is_open (Done what) = false

-- the branch is open
abbrev pub IsOpen : State → ℕ → Type 0
IsOpen state id = IsTrue (is_open (standing_of state id))

-- how many branches are open
abbrev pub open_count_of : State → ℕ
open_count_of state = count_by is_open state.standings

-- there is a branch of this number with these choices
pub record IsKnown (state : State) (branch : Branch) : Type 0 where
  pub below : branch.id < branch_count state
  pub choices : choices_of state branch.id ≡ branch.choices.choices

-- the children of a split: the choices of the parent with each side of the pair added, 0 to 3
abbrev pub children_of : List Choice → ℕ → ℕ → List (List Choice)
children_of parent s t =
    with_choice parent s t 0 ∷ with_choice parent s t 1 ∷ with_choice parent s t 2
    ∷ with_choice parent s t 3 ∷ []

-- a branch that was split at a pair has its children: four branches from the number `first` on, which
-- is above its own, and each of them has its choices with one side of the pair added
pub record HasChildren (state : State) (id first s t : ℕ) : Type 0 where
  pub behind : id < first
  pub within : first + 4 ≤ branch_count state
  pub choices : (side : ℕ) → side < 4 →
      choices_of state (first + side) ≡ with_choice (choices_of state id) s t side

-- the second branch was opened from the first, which stands before it: it has one choice more
pub record IsOpenedFrom (state : State) (parent id : ℕ) : Type 0 where
  pub before : parent < id
  pub choice : Choice
  pub choices : choices_of state id ≡ choices_of state parent ++ choice ∷ []

-- the first branch was split, and the second is one of its four children
pub record IsChildOf (state : State) (parent id : ℕ) : Type 0 where
  pub first : ℕ
  pub s : ℕ
  pub t : ℕ
  pub split : standing_of state parent ≡ Done (settled.Split first s t)
  pub from_first : first ≤ id
  pub to_fourth : id < first + 4

-- the branch was opened from no other: it is branch 0, or there is none of this number
abbrev pub HasNoParent : State → ℕ → Type 0
HasNoParent state id = (id ≡ 0) ⊎ (branch_count state ≤ id)

-- four branches that wait
abbrev pub four_waiting : List Standing
four_waiting = Waiting ∷ Waiting ∷ Waiting ∷ Waiting ∷ []

-- the choices of the branches that are opened where the branch with these choices is settled so
abbrev pub choices_opened : List Choice → Settled → List (List Choice)
choices_opened parent (settled.Split first s t) = children_of parent s t
choices_opened parent settled.Closed = []
choices_opened parent settled.Improved = []

-- the standings of the branches that are opened by this
abbrev pub standings_opened : Settled → List Standing
standings_opened (settled.Split first s t) = four_waiting
standings_opened settled.Closed = []
standings_opened settled.Improved = []

-- a split numbers its children from the number of branches so far
abbrev pub NumbersChildren : State → Settled → Type 0
NumbersChildren state (settled.Split first s t) = first ≡ branch_count state
NumbersChildren state settled.Closed = Unit {0}
NumbersChildren state settled.Improved = Unit {0}

-- The entry fits what stands: a branch is claimed where it waits, and settled where it is held by
-- the caller that settles it.
abbrev pub Fits : State → Entry → Type 0
Fits state (entries.Claimed who id) = IsWaiting state id
Fits state (entries.Settled who id what) = IsHeldBy state id who × NumbersChildren state what

-- what stands after the entry
abbrev pub after : State → Entry → State
after state (entries.Claimed who id) =
    record { choices = state.choices; standings = slice_set state.standings id (Held who) }
after state (entries.Settled who id what) = record {
  choices = state.choices ++ choices_opened (choices_of state id) what;
  standings = slice_set state.standings id (Done what) ++ standings_opened what;
}

-- what stands after all entries of a list, in their order
abbrev pub replayed : State → List Entry → State
replayed state [] = state
replayed state (entry ∷ rest) = replayed (after state entry) rest

-- what stands after a history
abbrev pub state_of : List Entry → State
state_of history = replayed opened history

-- each entry of the list fits what stands before it
abbrev pub AllFit : State → List Entry → Type 0
AllFit state [] = Unit {0}
AllFit state (entry ∷ rest) = Fits state entry × AllFit (after state entry) rest

-- the list of entries is a legal history
abbrev pub IsLegal : List Entry → Type 0
IsLegal history = AllFit opened history

-- the caller of an entry
abbrev pub caller_of : Entry → ℕ
caller_of (entries.Claimed who id) = who
caller_of (entries.Settled who id what) = who
