-- The choices of all branches, from the forks of a search.
use Rattle.std.specs.Prelude.{◌≡◌, ◌↔◌, ℕ, ◌+◌, ◌*◌, ◌<◌, ◌≤◌, List, [], ◌∷◌, ◌++◌, length, reverse, slice_index_or, take}
use Rattle.compact_types.specs.declared.search.Choice.{Choice}
use Rattle.board.specs.declared.chains.Fork.{Fork}
use Rattle.board.specs.declared.chains.StepUp.{StepUp}
use Rattle.board.specs.Histories.{children_of}

-- the choices of a branch of the list
abbrev pub chain_at : List (List Choice) → ℕ → List Choice
chain_at lists id = slice_index_or lists id []

-- the fork of a number
abbrev pub fork_at : List Fork → ℕ → Fork
fork_at forks k = slice_index_or forks k (record { parent = 0; s = 0; t = 0 })

-- the choices of all branches, when each fork in turn has opened the children of its parent
abbrev pub grown : List (List Choice) → List Fork → List (List Choice)
grown lists [] = lists
grown lists (fork ∷ forks) =
    grown (lists ++ children_of (chain_at lists fork.parent) fork.s fork.t) forks

-- the choices of all branches, from branch 0 on, which has none
abbrev pub lists_of : List Fork → List (List Choice)
lists_of forks = grown ([] ∷ []) forks

-- the parent of each fork was there before it
abbrev pub HaveParents : List Fork → Type 0
HaveParents forks = (k : ℕ) → k < length forks → (fork_at forks k).parent < 4 * k + 1

-- the choices of the branch are those of its parent, which stands before it, and one more
pub record IsStepUp (lists : List (List Choice)) (id : ℕ) (step : StepUp) : Type 0 where
  pub before : step.parent < id
  pub chain : chain_at lists id ≡ chain_at lists step.parent ++ step.choice ∷ []

-- A walk up from a branch that compares its choices from the last on: the branch has these choices
-- exactly if the branch that is reached has the first of them, which are left.
pub record IsChainWalk (lists : List (List Choice)) (id : ℕ) (choices : List Choice) (at left : ℕ) :
    Type 0 where
  pub below : at < length lists
  pub within : left ≤ length choices
  pub same : (chain_at lists id ≡ choices) ↔ (chain_at lists at ≡ take left choices)

-- A walk up that gathers the choices from the last on: with those of the branch that is reached
-- before them they are those of the branch.
pub record IsGathered (lists : List (List Choice)) (id at : ℕ) (gathered : List Choice) :
    Type 0 where
  pub below : at < length lists
  pub chain : chain_at lists id ≡ chain_at lists at ++ reverse gathered
