-- Numbers that are raised from one node on until they meet every arc.
use Rattle.std.specs.Prelude.{◌≡◌, ℕ, ◌+◌, ◌<◌, ◌≤◌, ◌⊎◌, List, [], length, slice_index, sum}
use Rattle.diff_flow.specs.declared.steps.ResidualArc.{ResidualArc}
use Rattle.diff_flow.specs.inner.Steps.{step_at, MeetsStep, AreMet}
use Rattle.diff_flow.specs.inner.Numbers.{height, IsInList, AreListed}

-- the numbers meet the step, where it leads along an arc
abbrev pub MeetsAlong : List ℕ → ResidualArc → Type 0
MeetsAlong numbers step = 0 < step.up → MeetsStep (height numbers) step

-- numbers that meet all arcs and are at least the old ones are at least the new ones
abbrev pub StayBelow : ℕ → List ResidualArc → List ℕ → List ℕ → Type 0
StayBelow nodes steps old new =
    (others : ℕ → ℕ) → AreMet steps [] others →
    ((v : ℕ) → v < nodes → height old v ≤ others v) → (v : ℕ) → v < nodes → height new v ≤ others v

-- no numbers from the old ones up to the limit meet all arcs
abbrev pub NoneAbove : ℕ → List ResidualArc → ℕ → List ℕ → Type 0
NoneAbove nodes steps limit old =
    (others : ℕ → ℕ) → AreMet steps [] others →
    ((v : ℕ) → v < nodes → height old v ≤ others v) →
    ((v : ℕ) → v < nodes → others v ≤ limit) → ⊥

-- from the start to the node all numbers that meet all arcs climb by at least as much as these
abbrev pub ClimbTo : List ResidualArc → ℕ → List ℕ → ℕ → Type 0
ClimbTo steps start numbers node =
    (others : ℕ → ℕ) → AreMet steps [] others →
    height numbers node + others start ≤ height numbers start + others node

-- The numbers are at most the limit, and meet every step along an arc, but for those of nodes that
-- wait and those whose turn comes yet; the numbers of nodes in the queue have risen by a way from
-- the start.
pub record Lengthens (nodes : ℕ) (steps : List ResidualArc) (limit start : ℕ)
    (numbers waits queue : List ℕ) (late : ℕ → Type 0) : Type 0 where
  pub one_for_each : length numbers ≡ nodes
  pub inside : (v : ℕ) → v < nodes → height numbers v ≤ limit
  pub lists : AreListed nodes waits queue
  pub met : (k : ℕ) → k < length steps →
      (0 < slice_index waits (step_at steps k).from) ⊎ MeetsAlong numbers (step_at steps k) ⊎ late k
  pub climb : (v : ℕ) → IsInList queue v → ClimbTo steps start numbers v

-- so they are still, and the queue has not grown by more than the numbers
pub record AreLengthened (nodes : ℕ) (steps : List ResidualArc) (limit start node : ℕ)
    (old queue numbers waits' queue' : List ℕ) (late : ℕ → Type 0) : Type 0 where
  pub state : Lengthens nodes steps limit start numbers waits' queue' late
  pub climb : ClimbTo steps start numbers node
  pub below : StayBelow nodes steps old numbers
  pub shorter : length queue' + sum old ≤ length queue + sum numbers
