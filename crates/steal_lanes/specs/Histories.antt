-- What was put into a lane, and how much of it was handed out.
use Rattle.std.specs.Prelude.{ℕ, ◌+◌, List, [], ◌∷◌, ◌++◌, Option, drop, take, slice_get}
use Rattle.compact_types.specs.declared.search.Branch.{Branch}

-- all branches that were put into a lane, in order, and the number of those that were handed out.
-- The place of a branch is its position in this list
pub record History : Type 0 where
  pub put : List Branch
  pub handed : ℕ

-- the history of a new lane
abbrev pub new_history : History
new_history = record { put = []; handed = 0 }

-- a put appends
abbrev pub with_put : History → Branch → History
with_put history branch = record { put = history.put ++ branch ∷ []; handed = history.handed }

-- what is handed out next is the branch whose place is the number of those handed out so far
abbrev pub next : History → Option Branch
next history = slice_get history.put history.handed

-- and the number rises by one
abbrev pub with_handed : History → History
with_handed history = record { put = history.put; handed = history.handed + 1 }

-- the branches that were handed out
abbrev pub handed_out : History → List Branch
handed_out history = take history.handed history.put

-- the branches that wait in the lane
abbrev pub waiting : History → List Branch
waiting history = drop history.handed history.put
