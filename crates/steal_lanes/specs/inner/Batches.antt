-- The deque tells of lists of branches that came or left; on a lane each step is one branch's.
use Rattle.std.specs.Prelude.{List, [], ◌∷◌}
use Rattle.compact_types.specs.declared.search.Branch.{Branch}

-- the list is one branch, of which this holds
abbrev pub IsOne : (Branch → Type 0) → List Branch → Type 0
IsOne holds [] = ⊥
IsOne holds (branch ∷ []) = holds branch
IsOne holds (branch ∷ next ∷ rest) = ⊥
