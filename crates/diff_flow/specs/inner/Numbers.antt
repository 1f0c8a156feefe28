-- Numbers on the nodes while they are raised.
use Rattle.std.specs.Prelude.{◌≡◌, ℕ, ◌+◌, ◌*◌, ◌<◌, ◌≤◌, ◌⊎◌, List, [], length, slice_index, slice_set}
use Rattle.diff_flow.specs.declared.steps.ResidualArc.{ResidualArc}
use Rattle.diff_flow.specs.declared.labels.Lifted.{Lifted}
use Rattle.diff_flow.specs.declared.labels.Lifted.TheVariants.{Kept, Raised, TooHigh}
use Rattle.diff_flow.specs.inner.Steps.{step_at, along_at, IsResidual, MeetsStep, AreMet}

-- the number of a node
abbrev pub height : List ℕ → ℕ → ℕ
height numbers node = slice_index numbers node

-- the value is in the list
abbrev pub IsInList : List ℕ → ℕ → Type 0
IsInList list value = (k : ℕ) × (k < length list) × (slice_index list k ≡ value)

-- at most the limit, and at most all numbers that meet the open steps
pub record AreLow (nodes : ℕ) (steps : List ResidualArc) (amounts : List ℕ) (limit : ℕ)
    (numbers : List ℕ) : Type 0 where
  pub one_for_each : length numbers ≡ nodes
  pub inside : (v : ℕ) → v < nodes → height numbers v ≤ limit
  pub below : (others : ℕ → ℕ) → AreMet steps amounts others → (v : ℕ) → v < nodes →
      height numbers v ≤ others v

-- no numbers meet the open steps
abbrev pub NoneMeet : List ResidualArc → List ℕ → Type 0
NoneMeet steps amounts = (others : ℕ → ℕ) → AreMet steps amounts others → ⊥

-- the number at the end of the step is raised until it just meets the step
pub record IsLift (step : ResidualArc) (old new : List ℕ) (low : ℕ) : Type 0 where
  pub just : low + step.down ≡ slice_index old step.from + step.up
  pub higher : slice_index old step.to < low
  pub written : new ≡ slice_set old step.to low

-- what became of the numbers at a step that has this amount on its arc
abbrev pub Lifts : ResidualArc → ℕ → ℕ → List ℕ → List ℕ → Lifted → Type 0
Lifts step amount limit old new Kept = (new ≡ old)
    × (0 < step.up + amount → MeetsStep (height old) step)
Lifts step amount limit old new Raised =
    (0 < step.up + amount) × ((low : ℕ) × IsLift step old new low × (low ≤ limit))
Lifts step amount limit old new TooHigh =
    (0 < step.up + amount) × (limit + step.down < height old step.from + step.up)

-- the nodes that wait are in the queue
pub record AreListed (nodes : ℕ) (waits queue : List ℕ) : Type 0 where
  pub flags : length waits ≡ nodes
  pub listed : (v : ℕ) → v < nodes → 0 < slice_index waits v → IsInList queue v
  pub nodes_only : (k : ℕ) → k < length queue → slice_index queue k < nodes

-- one node more waits
pub record Waits (nodes node : ℕ) (waits queue waits' queue' : List ℕ) : Type 0 where
  pub lists : AreListed nodes waits' queue'
  pub here : 0 < slice_index waits' node
  pub still : (v : ℕ) → 0 < slice_index waits v → 0 < slice_index waits' v
  pub one_more : length queue' ≤ length queue + 1

-- Every open step is met, but for those of nodes that wait and those whose turn comes yet.
pub record Rises (nodes : ℕ) (steps : List ResidualArc) (amounts : List ℕ) (limit : ℕ)
    (numbers waits queue : List ℕ) (late : ℕ → Type 0) : Type 0 where
  pub low : AreLow nodes steps amounts limit numbers
  pub lists : AreListed nodes waits queue
  pub met : (k : ℕ) → k < length steps → IsResidual amounts (step_at steps k) →
      (0 < slice_index waits (step_at steps k).from) ⊎ MeetsStep (height numbers) (step_at steps k)
      ⊎ late k

-- of the steps of the node those below the entry
abbrev pub AreLate : List ResidualArc → ℕ → ℕ → ℕ → Type 0
AreLate steps node entry k = ((step_at steps k).from ≡ node) × (k < entry)

-- none
abbrev pub NoneLate : ℕ → Type 0
NoneLate k = ⊥

-- the least numbers that meet the open steps
pub record AreLeastMet (nodes : ℕ) (steps : List ResidualArc) (amounts : List ℕ) (limit : ℕ)
    (numbers : List ℕ) : Type 0 where
  pub low : AreLow nodes steps amounts limit numbers
  pub met : AreMet steps amounts (height numbers)

-- those against the arcs from the number on
abbrev pub IsAtLeast : ℕ → ℕ → Type 0
IsAtLeast first k = (i : ℕ) × (first ≤ i) × (k ≡ 2 * i + 1)

-- the steps at the first so many places of the order are met, by numbers that are at most all that
-- meet the steps along all arcs
pub record AreWalked (nodes : ℕ) (steps : List ResidualArc) (limit : ℕ) (order : List ℕ) (count : ℕ)
    (numbers : List ℕ) : Type 0 where
  pub low : AreLow nodes steps [] limit numbers
  pub met : (j : ℕ) → j < count → MeetsStep (height numbers) (along_at steps (slice_index order j))
