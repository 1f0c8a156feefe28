-- How much a search has left to do, by the depth of its open branches.
use Rattle.std.specs.Prelude.{ℕ, ◌+◌, ◌-◌, ◌^◌, List, [], ◌∷◌, length, if◌then◌else◌}
use Rattle.compact_types.specs.declared.search.Choice.{Choice}
use Rattle.board.specs.declared.standings.Standing.{Standing}
use Rattle.board.specs.Histories.{State, is_open}

-- where no branch has more than `most` choices, an open one counts with 5 to the power of how many
-- it may still get, so that it counts for more than its four children
abbrev pub work_of : ℕ → List Choice → Standing → ℕ
work_of most choices standing = if is_open standing then 5 ^ (most - length choices) else 0

-- the work of all branches of two lists, one of choices and one of standings
abbrev pub work_of_all : ℕ → List (List Choice) → List Standing → ℕ
work_of_all most [] standings = 0
work_of_all most (choices ∷ others) [] = 0
work_of_all most (choices ∷ others) (standing ∷ rest) =
    work_of most choices standing + work_of_all most others rest

-- the work that is left
abbrev pub work_left : ℕ → State → ℕ
work_left most state = work_of_all most state.choices state.standings
