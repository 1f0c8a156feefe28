-- The search for a way from a node with excess to a node that lacks.
use Rattle.std.specs.Prelude.{◌≡◌, ℕ, ◌+◌, ◌-◌, ◌<◌, ◌≤◌, min, List, [], ◌∷◌, ◌++◌, length}
use Rattle.std.specs.Prelude.{slice_index, slice_index_or, slice_set, sum_by, Bool, MatchBool}
use Rattle.std.specs.Prelude.{Option, Some, None, ◌⊎◌}
use Rattle.shape_graphs.specs.Flows.{amount_at}
use Rattle.diff_flow.specs.declared.steps.ResidualArc.{ResidualArc}
use Rattle.diff_flow.specs.declared.tree.Reached.{Reached}
use Rattle.diff_flow.specs.declared.leaving.Leaving.{Leaving}
use Rattle.diff_flow.specs.inner.Steps.{step_at, along_at, AreMet}
use Rattle.diff_flow.specs.inner.Numbers.{height}

-- the entry that stands for one that is not there
abbrev pub no_entry : Reached
no_entry = record { node = 0; parent = 0; step = 0; room = 0 }

-- the entry of a number
abbrev pub entry_at : List Reached → ℕ → Reached
entry_at tree j = slice_index_or tree j no_entry

-- the step of the entry of a number
abbrev pub step_of_entry : List ResidualArc → List Reached → ℕ → ResidualArc
step_of_entry steps tree j = step_at steps (entry_at tree j).step

-- The numbers meet every open step and are at most twice the limit; those of nodes that lack are at
-- most the limit.
pub record AreFit (nodes limit : ℕ) (steps : List ResidualArc)
    (amounts numbers want : List ℕ) : Type 0 where
  pub one_for_each : length numbers ≡ nodes
  pub met : AreMet steps amounts (height numbers)
  pub low : (v : ℕ) → v < nodes → height numbers v ≤ limit + limit
  pub lacking : (v : ℕ) → v < nodes → 0 < slice_index want v → height numbers v ≤ limit

-- amounts can be sent over the step: along an arc where the numbers just meet it, against an arc
-- where it has an amount
pub record IsPassable (amounts numbers : List ℕ) (step : ResidualArc) : Type 0 where
  pub along : 0 < step.up → height numbers step.to ≡ height numbers step.from + step.up
  pub against : step.up ≡ 0 → 0 < amount_at amounts step.arc

-- the room of the entry: some, at most that of its parent, at most the amount on an arc that is
-- passed against
pub record IsRoom (step : ResidualArc) (amount above room : ℕ) : Type 0 where
  pub parent : room ≤ above
  pub here : step.up ≡ 0 → room ≤ amount
  pub some : 0 < above → (step.up ≡ 0 → 0 < amount) → 0 < room

-- the entry was reached over a step from an earlier one
pub record IsReached (steps : List ResidualArc) (amounts numbers : List ℕ) (tree : List Reached)
    (j : ℕ) : Type 0 where
  pub earlier : (entry_at tree j).parent < j
  pub inside : (entry_at tree j).step < length steps
  pub from : (step_of_entry steps tree j).from ≡ (entry_at tree (entry_at tree j).parent).node
  pub to : (step_of_entry steps tree j).to ≡ (entry_at tree j).node
  pub passable : IsPassable amounts numbers (step_of_entry steps tree j)
  pub room : IsRoom (step_of_entry steps tree j)
      (amount_at amounts (step_of_entry steps tree j).arc)
      (entry_at tree (entry_at tree j).parent).room (entry_at tree j).room

-- Each entry was reached over a step from an earlier one; the places are those of the entries.
pub record IsTree (nodes : ℕ) (steps : List ResidualArc) (amounts numbers : List ℕ)
    (tree : List Reached) (places : List ℕ) : Type 0 where
  pub some : 0 < length tree
  pub inside : (j : ℕ) → j < length tree → (entry_at tree j).node < nodes
  pub rooms : (j : ℕ) → j < length tree → 0 < (entry_at tree j).room
  pub most : (j : ℕ) → j < length tree → (entry_at tree j).room ≤ (entry_at tree 0).room
  pub each : (j : ℕ) → 0 < j → j < length tree → IsReached steps amounts numbers tree j
  pub one_for_each : length places ≡ nodes
  pub at_place : (j : ℕ) → j < length tree → slice_index places (entry_at tree j).node ≡ j + 1
  pub within : (v : ℕ) → v < nodes → slice_index places v ≤ length tree
  pub placed : (v : ℕ) → v < nodes → 0 < slice_index places v →
      (entry_at tree (slice_index places v - 1)).node ≡ v
  pub count : sum_by (λ x. min 1 x) places ≡ length tree

-- the places are those of the entries' nodes
pub record ArePlaced (nodes : ℕ) (tree : List Reached) (places : List ℕ) : Type 0 where
  pub one_for_each : length places ≡ nodes
  pub inside : (j : ℕ) → j < length tree → (entry_at tree j).node < nodes
  pub at_place : (j : ℕ) → j < length tree → slice_index places (entry_at tree j).node ≡ j + 1
  pub within : (v : ℕ) → v < nodes → slice_index places v ≤ length tree
  pub placed : (v : ℕ) → v < nodes → 0 < slice_index places v →
      (entry_at tree (slice_index places v - 1)).node ≡ v

-- no node was reached yet
pub record IsBlank (nodes : ℕ) (tree : List Reached) (places : List ℕ) : Type 0 where
  pub none : tree ≡ []
  pub one_for_each : length places ≡ nodes
  pub zeros : (v : ℕ) → slice_index places v ≡ 0

-- what was reached stays so
pub record Grows (tree : List Reached) (places : List ℕ) (tree' : List Reached)
    (places' : List ℕ) : Type 0 where
  pub longer : length tree ≤ length tree'
  pub kept : (j : ℕ) → j < length tree → entry_at tree' j ≡ entry_at tree j
  pub placed : (v : ℕ) → 0 < slice_index places v → 0 < slice_index places' v

-- one entry more, at the end of the step
pub record IsEntered (steps : List ResidualArc) (amounts : List ℕ) (k : ℕ) (tree : List Reached)
    (places : List ℕ) (tree' : List Reached) (places' : List ℕ) (entry : Reached) : Type 0 where
  pub grown : tree' ≡ tree ++ entry ∷ []
  pub written : places' ≡ slice_set places (step_at steps k).to (length tree + 1)
  pub node : entry.node ≡ (step_at steps k).to
  pub parent : entry.parent + 1 ≡ slice_index places (step_at steps k).from
  pub step : entry.step ≡ k
  pub room : IsRoom (step_at steps k) (amount_at amounts (step_at steps k).arc)
      (entry_at tree (slice_index places (step_at steps k).from - 1)).room entry.room

-- no reached node lacks
abbrev pub NoneLacks : List ℕ → List ℕ → Type 0
NoneLacks want places = (v : ℕ) → 0 < slice_index places v → slice_index want v ≡ 0

-- a node was reached last that lacks
pub record ReachesDeficit (want : List ℕ) (tree tree' : List Reached) : Type 0 where
  pub more : length tree < length tree'
  pub lacks : 0 < slice_index want (entry_at tree' (length tree' - 1)).node

-- the search has found a node that lacks, or none of the reached nodes lacks
abbrev pub Searches : List ℕ → List Reached → List Reached → List ℕ → Bool → Type 0
Searches want tree tree' places' found = MatchBool found (ReachesDeficit want tree tree')
    (NoneLacks want places')

-- the end of the step is reached, where it can be passed
abbrev pub IsFollowed : List ResidualArc → List ℕ → List ℕ → List ℕ → ℕ → Type 0
IsFollowed steps amounts numbers places k =
    IsPassable amounts numbers (step_at steps k) → 0 < slice_index places (step_at steps k).to

-- the steps of the node from an entry on are passed
abbrev pub AreFollowedFrom : List ResidualArc → List ℕ → List ℕ → List ℕ → ℕ → ℕ → Type 0
AreFollowedFrom steps amounts numbers places node entry =
    (k : ℕ) → k < length steps → entry ≤ k → (step_at steps k).from ≡ node →
    IsFollowed steps amounts numbers places k

-- the steps of the first so many entries are passed
abbrev pub AreFollowed : List ResidualArc → List ℕ → List ℕ → List Reached → List ℕ → ℕ → Type 0
AreFollowed steps amounts numbers tree places count =
    (j : ℕ) → j < count → AreFollowedFrom steps amounts numbers places (entry_at tree j).node 0

-- the step leads along an arc from a reached node to one that is not, and has this slack
pub record IsLeaving (steps : List ResidualArc) (numbers places : List ℕ) (k slack : ℕ) :
    Type 0 where
  pub inside : k < length steps
  pub along : 0 < (step_at steps k).up
  pub from : 0 < slice_index places (step_at steps k).from
  pub to : slice_index places (step_at steps k).to ≡ 0
  pub just : height numbers (step_at steps k).to
      ≡ height numbers (step_at steps k).from + (step_at steps k).up + slack

-- the step begins at one of the first so many entries
abbrev pub IsScannedBefore : List ResidualArc → List ℕ → ℕ → ℕ → Type 0
IsScannedBefore steps places at k = slice_index places (step_at steps k).from ≤ at

-- the step begins at one of the first so many entries, or is one of the node's from an entry on
abbrev pub IsScanned : List ResidualArc → List ℕ → ℕ → ℕ → ℕ → ℕ → Type 0
IsScanned steps places at node entry k =
    IsScannedBefore steps places at k ⊎ (((step_at steps k).from ≡ node) × (entry ≤ k))

-- of the steps that were seen the one that leaves with the least slack, or none
abbrev pub IsLeastLeaving : (ℕ → Type 0) → List ResidualArc → List ℕ → List ℕ → Option Leaving →
    Type 0
IsLeastLeaving seen steps numbers places None =
    (k slack : ℕ) → seen k → IsLeaving steps numbers places k slack → ⊥
IsLeastLeaving seen steps numbers places (Some leaving) =
    IsLeaving steps numbers places leaving.step leaving.slack
    × ((k slack : ℕ) → seen k → IsLeaving steps numbers places k slack →
    leaving.slack ≤ slack)

-- one of the two, with a slack of at most that of both
pub record IsLesser (other : Leaving) (step slack : ℕ) (lesser : Leaving) : Type 0 where
  pub one : (lesser ≡ other) ⊎ ((lesser.step ≡ step) × (lesser.slack ≡ slack))
  pub first : lesser.slack ≤ other.slack
  pub second : lesser.slack ≤ slack

-- the reached nodes are raised by so much, the others kept
pub record Raises (places numbers numbers' : List ℕ) (by : ℕ) : Type 0 where
  pub one_for_each : length numbers' ≡ length numbers
  pub raised : (v : ℕ) → v < length numbers → 0 < slice_index places v →
      height numbers' v ≡ height numbers v + by
  pub kept : (v : ℕ) → v < length numbers → slice_index places v ≡ 0 →
      height numbers' v ≡ height numbers v

-- Marked nodes, with the start among them, from which excess cannot be sent away: none lacks, no
-- arc leaves them, and no arc with an amount enters them.
pub record IsTrap (nodes arcs : ℕ) (steps : List ResidualArc) (amounts want : List ℕ) (start : ℕ)
    (marks : ℕ → ℕ) : Type 0 where
  pub begins : 0 < marks start
  pub none_lacks : (v : ℕ) → v < nodes → 0 < marks v → slice_index want v ≡ 0
  pub none_leaves : (k : ℕ) → k < arcs → 0 < marks (along_at steps k).from →
      0 < marks (along_at steps k).to
  pub none_enters : (k : ℕ) → k < arcs → 0 < amount_at amounts k → 0 < marks (along_at steps k).to →
      0 < marks (along_at steps k).from
