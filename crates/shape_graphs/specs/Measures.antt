-- Least keys, and what a verdict says of a list of choices.
use Rattle.std.specs.Prelude.{◌≡◌, ℕ, ◌<◌, ℤ, ◌<ℤ◌, ◌≤ℤ◌, List, [], ◌∷◌, ◌++◌, length}
use Rattle.compact_types.specs.declared.places.Axis.{Axis}
use Rattle.compact_types.specs.declared.places.Axis.TheVariants.{X, Y}
use Rattle.compact_types.specs.declared.places.Key.{Key}
use Rattle.compact_types.specs.declared.places.Places.{Places}
use Rattle.compact_types.specs.declared.plan.Shape.{Shape}
use Rattle.compact_types.specs.declared.search.Choice.{Choice}
use Rattle.compact_types.specs.Bests.{Objective, worth_of}
use Rattle.compact_types.specs.Drawings.{IsFromZero}
use Rattle.compact_types.specs.Lookups.{along, place}
use Rattle.compact_types.specs.Magnitudes.{IsNowhereNegative}
use Rattle.bars.specs.Solutions.{Solves}
use Rattle.shape_graphs.specs.declared.measure.Verdict.{Verdict}
use Rattle.shape_graphs.specs.declared.measure.Verdict.TheVariants.{Cyclic, Above, Least}
use Rattle.shape_graphs.specs.Graphs.{arcs_of}
use Rattle.shape_graphs.specs.Paths.{HasCycle, IsCycle}

-- each coordinate is at most that of the other places
abbrev pub AreNowhereAbove : Places → Places → Type 0
AreNowhereAbove places others =
    (axis : Axis) (v : ℕ) → v < length places.xy →
    (along axis (place places.xy v)) ≤ℤ (along axis (place others.xy v))

-- The least key of some choices: its places solve them and are from zero, no solution is worth
-- less, and the places are nowhere above a solution of the same worth without a negative
-- coordinate. This speaks of all solutions.
pub record IsLeastKey
    (objective : Objective) (shape : Shape) (choices : List Choice) (key : Key) : Type 0 where
  pub solves : Solves shape choices key.places
  pub from_zero : IsFromZero key.places
  pub worth : key.worth ≡ worth_of objective shape key.places
  pub none_less : (others : Places) → Solves shape choices others →
      key.worth ≤ℤ (worth_of objective shape others)
  pub lowest : (others : Places) → Solves shape choices others →
      worth_of objective shape others ≡ key.worth → IsNowhereNegative others →
      AreNowhereAbove key.places others

-- neither graph of the choices has a cycle
abbrev pub HaveNoCycle : Shape → List Choice → Type 0
HaveNoCycle shape choices = (axis : Axis) → HasCycle (arcs_of axis shape choices) → ⊥

-- no graph that is looked at before that of the axis has a cycle: the column graph comes first
abbrev pub NoneBefore : Axis → Shape → List Choice → Type 0
NoneBefore X shape choices = Unit {0}
NoneBefore Y shape choices = HasCycle (arcs_of X shape choices) → ⊥

-- the arcs are a cycle of the graph of the axis, the first graph that has one
pub record IsFirstCyclic (shape : Shape) (choices : List Choice) (axis : Axis) (walk : List ℕ) :
    Type 0 where
  pub none_before : NoneBefore axis shape choices
  pub cycle : IsCycle (arcs_of axis shape choices) walk

-- no graph has a cycle, the bound is above the stop, and no solution is worth less than the bound
pub record IsBoundAbove
    (objective : Objective) (shape : Shape) (choices : List Choice) (bound stop : ℤ) : Type 0 where
  pub no_cycle : HaveNoCycle shape choices
  pub above : stop <ℤ bound
  pub none_less : (others : Places) → Solves shape choices others →
      bound ≤ℤ (worth_of objective shape others)

-- no graph has a cycle, and this is the least key
pub record IsFoundLeast
    (objective : Objective) (shape : Shape) (choices : List Choice) (key : Key) : Type 0 where
  pub no_cycle : HaveNoCycle shape choices
  pub least : IsLeastKey objective shape choices key

-- what a verdict says of the choices
abbrev pub IsRight : {P : Type 0} → Objective → Shape → List Choice → Verdict P → Type 0
IsRight objective shape choices (Cyclic axis cycle) = IsFirstCyclic shape choices axis cycle.arcs
IsRight objective shape choices (Above bound stop proof) =
    IsBoundAbove objective shape choices bound stop
IsRight objective shape choices (Least key proof) = IsFoundLeast objective shape choices key

-- the verdict answers a search that stops above this worth
abbrev pub IsAsked : {P : Type 0} → ℤ → Verdict P → Type 0
IsAsked asked (Cyclic axis cycle) = Unit {0}
IsAsked asked (Above bound stop proof) = stop ≡ asked
IsAsked asked (Least key proof) = key.worth ≤ℤ asked

-- what holds where the verdict is a cycle, a bound above the stop, or a least key
abbrev pub MatchVerdict : {P : Type 0} → Verdict P → Type 0 → Type 0 → Type 0 → Type 0
MatchVerdict (Cyclic axis cycle) C A L = C
MatchVerdict (Above bound stop proof) C A L = A
MatchVerdict (Least key proof) C A L = L

-- the proof of a bound or of a least key backs the verdict
abbrev pub IsBacked : {P : Type 0} → (P → Verdict P → Type 0) → Verdict P → Type 0
IsBacked Backs (Cyclic axis cycle) = Unit {0}
IsBacked Backs (Above bound stop proof) = Backs proof (Above bound stop proof)
IsBacked Backs (Least key proof) = Backs proof (Least key proof)

-- the proof backs some verdict on the choices without the last of them
pub record BacksBefore {P : Type 0} (Backs : List Choice → P → Verdict P → Type 0)
    (choices : List Choice) (proof : P) : Type 0 where
  pub before : List Choice
  pub last : Choice
  pub is : choices ≡ before ++ last ∷ []
  pub verdict : Verdict P
  pub backs : Backs before proof verdict
