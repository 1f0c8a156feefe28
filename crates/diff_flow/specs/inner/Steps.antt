-- Steps between nodes, forwards over each arc and backwards over each.
use Rattle.std.specs.Prelude.{◌≡◌, ℕ, ◌+◌, ◌-◌, ◌*◌, ◌<◌, ◌≤◌, pos, List, [], ◌∷◌, ◌++◌, length}
use Rattle.std.specs.Prelude.{slice_index, slice_index_or}
use Rattle.shape_graphs.specs.declared.graph.Arc.{Arc}
use Rattle.shape_graphs.specs.Arcs.{arc_at}
use Rattle.shape_graphs.specs.Flows.{amount_at}
use Rattle.diff_flow.specs.declared.steps.ResidualArc.{ResidualArc}

-- the step that stands for one that is not there
abbrev pub no_step : ResidualArc
no_step = record { from = 0; to = 0; arc = 0; up = 0; down = 0 }

-- the step of a number
abbrev pub step_at : List ResidualArc → ℕ → ResidualArc
step_at steps k = slice_index_or steps k no_step

-- the step along the arc of a number
abbrev pub along_at : List ResidualArc → ℕ → ResidualArc
along_at steps i = step_at steps (2 * i)

-- the step against it
abbrev pub against_at : List ResidualArc → ℕ → ResidualArc
against_at steps i = step_at steps (2 * i + 1)

-- the ends of every step are nodes, it belongs to an arc, and it goes up or down by at most the
-- reach
pub record IsStepWithin (nodes arcs reach : ℕ) (step : ResidualArc) : Type 0 where
  pub from : step.from < nodes
  pub to : step.to < nodes
  pub arc : step.arc < arcs
  pub up : step.up ≤ reach
  pub down : step.down ≤ reach

abbrev pub AreStepsWithin : ℕ → ℕ → ℕ → List ResidualArc → Type 0
AreStepsWithin nodes arcs reach steps = (k : ℕ) → k < length steps →
    IsStepWithin nodes arcs reach (step_at steps k)

-- The first so many steps by the node that they begin at: the last of each node, and before each
-- the next; an entry is the number of a step and one more, 0 where there is none.
pub record AreRows (nodes count : ℕ) (steps : List ResidualArc) (last before : List ℕ) :
    Type 0 where
  pub last_for_each : length last ≡ nodes
  pub before_for_each : length before ≡ count
  pub last_most : (v : ℕ) → v < nodes → slice_index last v ≤ count
  pub last_from : (v : ℕ) → v < nodes → 0 < slice_index last v →
      (step_at steps (slice_index last v - 1)).from ≡ v
  pub last_all : (k : ℕ) → k < count → k < slice_index last (step_at steps k).from
  pub before_most : (k : ℕ) → k < count → slice_index before k ≤ k
  pub before_from : (k : ℕ) → k < count → 0 < slice_index before k →
      (step_at steps (slice_index before k - 1)).from ≡ (step_at steps k).from
  pub before_all : (j k : ℕ) → j < k → k < count → (step_at steps j).from ≡ (step_at steps k).from →
      j < slice_index before k

-- the step goes along the arc of this number
pub record IsAlongArc (arc : Arc) (i : ℕ) (step : ResidualArc) : Type 0 where
  pub from : step.from ≡ arc.from
  pub to : step.to ≡ arc.to
  pub number : step.arc ≡ i
  pub up : pos step.up ≡ arc.least
  pub down : step.down ≡ 0

-- the step goes against the arc of this number
pub record IsAgainstArc (arc : Arc) (i : ℕ) (step : ResidualArc) : Type 0 where
  pub from : step.from ≡ arc.to
  pub to : step.to ≡ arc.from
  pub number : step.arc ≡ i
  pub up : step.up ≡ 0
  pub down : pos step.down ≡ arc.least

-- for each arc the step along it, and then the one against it
pub record AreStepsOf (arcs : List Arc) (steps : List ResidualArc) : Type 0 where
  pub two_for_each : length steps ≡ 2 * length arcs
  pub along : (i : ℕ) → i < length arcs → IsAlongArc (arc_at arcs i) i (along_at steps i)
  pub against : (i : ℕ) → i < length arcs → IsAgainstArc (arc_at arcs i) i (against_at steps i)

-- with the two steps of the arc of this number at the end
pub record AreOneMore (arc : Arc) (i : ℕ) (steps steps' : List ResidualArc) : Type 0 where
  pub there : ResidualArc
  pub back : ResidualArc
  pub along : IsAlongArc arc i there
  pub against : IsAgainstArc arc i back
  pub grown : steps' ≡ steps ++ there ∷ back ∷ []

-- the step goes back over the other, against its arc
pub record IsBack (step back : ResidualArc) : Type 0 where
  pub from : back.from ≡ step.to
  pub to : back.to ≡ step.from
  pub arc : back.arc ≡ step.arc
  pub up : back.up ≡ 0
  pub down : back.down ≡ step.up

-- each of so many arcs has a step along it, which goes up, and one against it
pub record ArePaired (arcs : ℕ) (steps : List ResidualArc) : Type 0 where
  pub two_for_each : length steps ≡ 2 * arcs
  pub number : (i : ℕ) → i < arcs → (along_at steps i).arc ≡ i
  pub up : (i : ℕ) → i < arcs → 0 < (along_at steps i).up
  pub level : (i : ℕ) → i < arcs → (along_at steps i).down ≡ 0
  pub back : (i : ℕ) → i < arcs → IsBack (along_at steps i) (against_at steps i)

-- the step is open for the amounts: it goes along its arc, or the arc's amount is positive
abbrev pub IsResidual : List ℕ → ResidualArc → Type 0
IsResidual amounts step = 0 < step.up + amount_at amounts step.arc

-- the numbers meet the step
abbrev pub MeetsStep : (ℕ → ℕ) → ResidualArc → Type 0
MeetsStep numbers step = numbers step.from + step.up ≤ numbers step.to + step.down

-- the numbers meet every open step
abbrev pub AreMet : List ResidualArc → List ℕ → (ℕ → ℕ) → Type 0
AreMet steps amounts numbers =
    (k : ℕ) → k < length steps → IsResidual amounts (step_at steps k) →
    MeetsStep numbers (step_at steps k)

-- the steps along all arcs in topological order: those that end at a node stand before those that
-- begin there
pub record AreInOrder (arcs : ℕ) (steps : List ResidualArc) (order : List ℕ) : Type 0 where
  pub inside : (j : ℕ) → j < length order → slice_index order j < arcs
  pub has_each : (k : ℕ) → k < arcs → (j : ℕ) × (j < length order) × (slice_index order j ≡ k)
  pub ends_before : (i j : ℕ) → i < length order → j < length order →
      (along_at steps (slice_index order j)).to ≡ (along_at steps (slice_index order i)).from → j < i
